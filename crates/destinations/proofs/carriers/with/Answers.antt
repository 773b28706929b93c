-- `destinations::carriers::with` meets its contract: the bit joins the word, as `added` has it.
-- Assumes nothing.
use native.Mathlib.Omega.{arith}
use native.Mathlib.Nat.{one-mul}
use mathlib.Core.Path.{◌≡◌, ap, ◌∙◌}
use mathlib.Core.List.{List}
use Prim.Native.Nat.{ℕ, ◌*◌, ◌/◌, ◌%◌, ◌^◌}
use lib.Bits.{bit_or}
use lib.ListN.{get_or, set}
use lib.Pow.{shl_exact}
use Rattle.destinations.specs.Carriers.{added}
use Rattle.destinations.proofs.carriers.with.Goals as goal

-- a bit below 64 stays in its word
bit_kept : (w : List ℕ) (i : ℕ) → set w (i / 64) (bit_or (get_or w (i / 64) 0) (1 * 2 ^ (i % 64) % 2 ^ 64)) ≡ added w i
unfolding added
bit_kept w i =
    ap (λ x. set w (i / 64) (bit_or (get_or w (i / 64) 0) x)) (shl_exact {a = 1} 1 (i % 64) 64 (omega arith) (omega arith) ∙ one-mul (2 ^ (i % 64)))

pub returns : goal.returns
returns c = bit_kept _ _
