-- The tests passed, so the shape is that of an allowed layout, and keeps the laws.
use Rattle.std.proofs.Common.{rules}
use Rattle.shapes.proofs.Trees.{shaped_laws}
use Rattle.shapes.proofs.shape.Shape.of.Goals as goal

pub returns-in-Bare-clause-laws : goal.returns-in-Bare-clause-laws
returns-in-Bare-clause-laws c = shaped_laws c.args.layout c.args.rows c.bare.result (search rules)

pub returns-in-Full-clause-laws : goal.returns-in-Full-clause-laws
returns-in-Full-clause-laws c = shaped_laws c.args.layout c.args.rows c.measured.result (search rules)

pub returns-in-Level-clause-laws : goal.returns-in-Level-clause-laws
returns-in-Level-clause-laws c = shaped_laws c.args.layout c.args.rows c.measured-in-Level.result (search rules)
