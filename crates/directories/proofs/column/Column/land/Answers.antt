-- The chunk's part of the column is looked through, from its first row on; at no leaf the place is behind all rows.
use Rattle.std.proofs.Common.{ℕ, Option, Some, ap, ◌∙◌, arith}
use Rattle.indexes.specs.Seeking.{passed_at}
use Rattle.shapes.specs.Descent.{at_leaf}
use Rattle.directories.proofs.TreeFacts.{leaf_exists}
use Rattle.directories.proofs.Parts.{Leaf, leaf}
use Rattle.directories.proofs.column.Column.land.Given as given
use Rattle.directories.proofs.column.Column.land.Goals as goal
use Rattle.directories.proofs.column.Column.land.Goals.{After-seek-found}

pub chunk-requires : goal.chunk-requires
chunk-requires g c = leaf_exists c.args.self.now.tree c.args.node (Some c.in-Some.chunk) c.requires c.in-Some.ensures

found : (g : given.Over) (c : After-seek-found g) → Leaf g.K.Key.before c.args.self.now c.args.key.now c.args.side c.in-Some.chunk c.seek-found.result
found g c = leaf g.K.Key.before c.args.self.now c.args.key.now c.args.side c.chunk.result.now c.seek-found.result c.in-Some.chunk (leaf_exists c.args.self.now.tree c.args.node (Some c.in-Some.chunk) c.requires c.in-Some.ensures) c.chunk.ensures c.seek-found.ensures

pub overflow_mul-result : goal.overflow_mul-result
overflow_mul-result g c = let f = found g (goal.at.overflow_mul-result g c).After-seek-found in omega (arith, f.starts)

pub overflow_add-result : goal.overflow_add-result
overflow_add-result g c = let f = found g (goal.at.overflow_add-result g c).After-seek-found in omega (arith, f.fits)

pub returns : goal.returns
returns g c =
    let x = c.args.self.now in
    let f = found g (goal.at.returns g c).After-seek-found in
    let pass = passed_at g.K.Key.before x.rows.now c.args.key.now c.args.side in
    record {
      place = f.place ∙ ap (λ (v : Option ℕ). (at_leaf x.tree.shape pass v).place) c.in-Some.ensures;
      comparisons = f.comparisons ∙ ap (λ (v : Option ℕ). (at_leaf x.tree.shape pass v).rounds) c.in-Some.ensures;
    }
