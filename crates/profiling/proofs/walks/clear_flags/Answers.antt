-- `profiling::walks::clear_flags` meets its contract.
use borrow.Author.Rules.{rules}
use Rattle.profiling.specs.Laws.Going.{none_cleared, one_cleared, all_cleared}
use Rattle.profiling.proofs.walks.clear_flags.Goals as goal

pub loop-k-init : goal.loop-k-init
loop-k-init c = search (rules, none_cleared)

pub loop-k-preserved : goal.loop-k-preserved
loop-k-preserved c = search (rules, one_cleared)

pub returns : goal.returns
returns c = search (rules, all_cleared)
