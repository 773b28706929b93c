-- `matching::positions::greater` meets its contract: the number that stands for none is greater than all.
-- Assumes nothing.
use native.Mathlib.Omega.{arith}
use mathlib.Core.Path.{◌≡◌}
use Prim.Native.Nat.{ℕ, ◌<◌, max}
use Rattle.std.proofs.Math.Decide.{dec_lt}
use Rattle.traces.specs.Cited.Marking.{greater}
use Rattle.matching.specs.Room.{pos_of}
use Rattle.matching.specs.Laws.Room.{pos_greater_left, pos_greater_right}
use Rattle.matching.proofs.positions.greater.Goals as goal

greatest : (a b : ℕ) → pos_of (max a b) ≡ greater (pos_of a) (pos_of b)
greatest a b = by (dec_lt a b)
  where
    by : Dec (a < b) → pos_of (max a b) ≡ greater (pos_of a) (pos_of b)
    by (yes h) = let e : max a b ≡ b = omega arith in rw e (pos_greater_right (omega arith))
    by (no h) = let e : max a b ≡ a = omega arith in rw e (pos_greater_left (omega arith))

pub returns : goal.returns
returns c = rw c.max.ensures (greatest c.args.a c.args.b)
