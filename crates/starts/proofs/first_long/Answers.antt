-- `starts::first_long` meets its contract: the words before `i` have no bit above their length.
-- Assumes nothing.
use borrow.Author.Rules.{rules}
use Rattle.starts.proofs.Seeking.{none_sought, long_here, sought_more, all_sought}
use Rattle.starts.proofs.first_long.Goals as goal

pub loop-i-init : goal.loop-i-init
loop-i-init c = search (rules, none_sought)

pub returns-then-is_long : goal.returns-then-is_long
returns-then-is_long c = search (rules, long_here)

pub loop-i-preserved : goal.loop-i-preserved
loop-i-preserved c = search (rules, sought_more)

pub returns : goal.returns
returns c = search (rules, all_sought)
