-- `chains::chains::over_longest` meets its contract.
use borrow.Author.Rules.{rules}
use Rattle.chains.specs.Laws.Least.{first_level, climb, nothing_above, at_top}
use Rattle.chains.proofs.chains.over_longest.Goals as goal

pub loop-k-init : goal.loop-k-init
loop-k-init c = first_level _ _ c.requires c.next_level-level.ensures

pub returns-then-is_empty : goal.returns-then-is_empty
returns-then-is_empty c = search (rules, nothing_above)

pub loop-k-preserved : goal.loop-k-preserved
loop-k-preserved c = climb c.loop-k.invariant _ c.loop-k-test.true c.next_level-level-in-loop-k.ensures

pub returns : goal.returns
returns c = search (rules, at_top)
