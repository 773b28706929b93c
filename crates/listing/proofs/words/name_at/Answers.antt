-- `listing::words::name_at` meets its contract: names run down or up.
-- Assumes nothing.
use borrow.Author.Rules.{rules}
use native.Mathlib.Omega.{arith}
use Rattle.listing.proofs.Arrays.{down_fits, up_fits, down_is, up_is}
use Rattle.listing.proofs.words.name_at.Goals as goal

pub overflow_sub-result : goal.overflow_sub-result
overflow_sub-result c = search (rules, down_fits)

pub returns-then-right-left : goal.returns-then-right-left
returns-then-right-left c = search (rules, down_is)

pub overflow_add-result : goal.overflow_add-result
overflow_add-result c = omega (arith, up_fits _ _ _ c.requires c.if-right-left.false)

pub returns-else-right-left : goal.returns-else-right-left
returns-else-right-left c = search (rules, up_is)
