-- `profiling::rounds::blank` meets its contract.
use borrow.Author.Rules.{rules}
use Rattle.profiling.specs.Laws.Levels.{none_blank, one_blank, all_blank}
use Rattle.profiling.proofs.rounds.blank.Goals as goal

pub loop-k-init : goal.loop-k-init
loop-k-init c = search (rules, none_blank)

pub loop-k-preserved : goal.loop-k-preserved
loop-k-preserved c = search (rules, one_blank)

pub returns : goal.returns
returns c = search (rules, all_blank)
