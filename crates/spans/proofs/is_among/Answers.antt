-- `spans::is_among` meets its contract: from the smaller end to the larger.
-- Assumes nothing.
use native.Mathlib.Omega.{arith}
use Rattle.spans.proofs.Ranges.{below_both, up_to_larger}
use Rattle.spans.proofs.is_among.Goals as goal

pub returns-then-n-left : goal.returns-then-n-left
returns-then-n-left c = below_both _ _ _ (omega arith)

pub returns-then-left-right : goal.returns-then-left-right
returns-then-left-right c = up_to_larger _ _ _ _ (omega arith) (omega arith)

pub returns-then-n-right : goal.returns-then-n-right
returns-then-n-right c = below_both _ _ _ (omega arith)

pub returns : goal.returns
returns c = up_to_larger _ _ _ _ (omega arith) (omega arith)
