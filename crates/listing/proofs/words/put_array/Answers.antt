-- `listing::words::put_array` meets its contract: what is appended and what is left make the whole.
-- Assumes nothing.
use borrow.Author.Rules.{rules}
use native.Mathlib.Omega.{arith}
use Rattle.listing.proofs.Arrays.{array_starts, array_less, array_done}
use Rattle.listing.proofs.words.put_array.Goals as goal

pub loop-i-init : goal.loop-i-init
loop-i-init c = search (rules, array_starts)

pub loop-i-preserved : goal.loop-i-preserved
loop-i-preserved c = search (rules, array_less)

pub returns : goal.returns
returns c = array_done c.loop-i.invariant (omega arith)
