-- What a refusal is told as. Assumes nothing.
use Rattle.std.specs.Prelude.{ℕ, List, codes}
use Rattle.answers.specs.declared.refusal.Refusal.{Refusal}
use Rattle.answers.specs.declared.refusal.Refusal.TheVariants.{NoMemory, NoDirectory}

abbrev pub reason : Refusal → List ℕ
reason NoMemory = codes "not enough memory"
reason NoDirectory = codes "full and level directories are not answered yet"
