-- `passing::climbing::depth_of` meets its contract: the members passed are counted.
-- Assumes nothing.
use borrow.Author.Rules.{rules}
use Rattle.passing.specs.Laws.Counting.{none_counted, one_counted, top_reached, all_counted}
use Rattle.passing.proofs.climbing.depth_of.Goals as goal

pub loop-depth-init : goal.loop-depth-init
loop-depth-init c = search (rules, none_counted)

pub returns-then-at-eq0 : goal.returns-then-at-eq0
returns-then-at-eq0 c = search (rules, top_reached)

pub loop-depth-preserved : goal.loop-depth-preserved
loop-depth-preserved c = search (rules, one_counted)

pub returns : goal.returns
returns c = search (rules, all_counted)
