-- `resuming::profiles::lowest` meets its contract: what the rounds know of MAIN.
-- Assumes nothing.
use borrow.Author.Rules.{rules}
use native.Mathlib.Omega.{arith}
use Rattle.profiling.specs.Laws.Spelt.{reading}
use Rattle.resuming.specs.Laws.Asked.{to_rounds, main_few, lowest_is}
use Rattle.resuming.proofs.profiles.lowest.Goals as goal

pub main_number-main-requires : goal.main_number-main-requires
main_number-main-requires c = reading c.requires.0.written

pub rounds-requires : goal.rounds-requires
rounds-requires c = to_rounds c.requires.0 (search rules) (search rules) (search rules)

pub overflow_mul-main : goal.overflow_mul-main
overflow_mul-main c = omega (arith, main_few c.requires.0 c.main_number-main.ensures)

pub overflow_add-main : goal.overflow_add-main
overflow_add-main c = omega (arith, main_few c.requires.0 c.main_number-main.ensures)

pub get16-requires : goal.get16-requires
get16-requires c = omega (arith, main_few c.requires.0 c.main_number-main.ensures)

pub returns : goal.returns
returns c = λ g. lowest_is g c.main_number-main.ensures c.rounds.ensures c.get16.ensures
