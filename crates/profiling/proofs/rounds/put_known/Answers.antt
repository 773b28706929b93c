-- `profiling::rounds::put_known` meets its contract.
use borrow.Author.Rules.{rules}
use Rattle.profiling.specs.Laws.Levels.{put_false, put_true}
use Rattle.profiling.proofs.rounds.put_known.Goals as goal

pub returns-then-ends : goal.returns-then-ends
returns-then-ends c = search (rules, put_true)

pub returns : goal.returns
returns c = search (rules, put_false)
