-- `profiling::rounds::begin_behind` meets its contract.
use borrow.Author.Rules.{rules}
use Rattle.profiling.specs.Laws.Levels.{seek_begins, seek_found, seek_on, seek_over}
use Rattle.profiling.proofs.rounds.begin_behind.Goals as goal

pub loop-i-init : goal.loop-i-init
loop-i-init c = search (rules, seek_begins)

pub returns-then-kind_at-eq-BEGIN : goal.returns-then-kind_at-eq-BEGIN
returns-then-kind_at-eq-BEGIN c = search (rules, seek_found)

pub loop-i-preserved : goal.loop-i-preserved
loop-i-preserved c = search (rules, seek_on)

pub returns : goal.returns
returns c = search (rules, seek_over)
