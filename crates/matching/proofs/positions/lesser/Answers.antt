-- `matching::positions::lesser` meets its contract: the number that stands for none is greater than all.
-- Assumes nothing.
use native.Mathlib.Omega.{arith}
use mathlib.Core.Path.{◌≡◌}
use Prim.Native.Nat.{ℕ, ◌<◌, min}
use Rattle.std.proofs.Math.Decide.{dec_lt}
use Rattle.traces.specs.Cited.Marking.{lesser}
use Rattle.matching.specs.Room.{pos_of}
use Rattle.matching.specs.Laws.Room.{pos_lesser_left, pos_lesser_right}
use Rattle.matching.proofs.positions.lesser.Goals as goal

least : (a b : ℕ) → pos_of (min a b) ≡ lesser (pos_of a) (pos_of b)
least a b = by (dec_lt a b)
  where
    by : Dec (a < b) → pos_of (min a b) ≡ lesser (pos_of a) (pos_of b)
    by (yes h) = let e : min a b ≡ a = omega arith in rw e (pos_lesser_left h)
    by (no h) = let e : min a b ≡ b = omega arith in rw e (pos_lesser_right (omega arith))

pub returns : goal.returns
returns c = rw c.min.ensures (least c.args.a c.args.b)
