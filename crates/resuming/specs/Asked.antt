-- A description in the table with the numbers of a test and an output, and the lowest place at which a path writes the output too early.
use Rattle.std.specs.Prelude.{ℕ, ◌<◌, ◌≡◌, List, []}
use Rattle.std.proofs.Math.Option.{some}
use Rattle.rules.specs.Declarations.{Word, number_of}
use Rattle.rules.specs.Faults.Whole.{faults50}
use Rattle.paths.specs.Cited.Early.{early_places}
use Rattle.paths.specs.Cited.Least.{least}
use Rattle.profiling.specs.Spelt.{SpeltDescription, whole}
use Rattle.nesting.specs.Holding.{unseen}
use Rattle.profiling.specs.declared.tasks.Task.{Task}

pub record Asked (records decls : List ℕ) (t : Task) : Type 0 where
  pub written : SpeltDescription records decls t.m t.n
  pub lawful : faults50 (whole written) ≡ []
  pub test : Word
  pub aims : number_of (whole written) test ≡ some t.aim
  pub output : t.out < 256

abbrev pub Lowest : {records decls : List ℕ} {t : Task} → Asked records decls t → ℕ → Type 0
Lowest {t = t} g r = r ≡ least unseen (early_places (whole g.written) g.test t.out)
