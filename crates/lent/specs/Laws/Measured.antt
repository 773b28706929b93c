-- Laws of whether memory is enough and the text short enough.
-- Assumes nothing.
use Rattle.std.specs.Prelude.{ℕ, ◌≤◌, ◌≡◌, Bool, true, false, not, List, length, Option, None}
use Rattle.std.proofs.Common.{arith}
use Rattle.rules.specs.Limits.{longest_text}
use Rattle.rules.specs.Calls.Memory.{Memory, Enough}
use Rattle.lent.specs.Measured.{Measured, Unread, short_memory, long_text, none}

pub enough : (m : Memory) (r : Bool) → Measured m r → not r ≡ false → Enough m
enough m true h e = h
enough m false h e = let z : ◌≡◌ {A = ℕ} 0 1 = cc in absurd (omega arith)

pub not_enough : (m : Memory) (r : Bool) → Measured m r → not r ≡ true → Enough m → ⊥
not_enough m true h e = let z : ◌≡◌ {A = ℕ} 0 1 = cc in absurd (omega arith)
not_enough m false h e = h

-- a call that may go on
pub fits : {text : List ℕ} {m : Memory} {r : Option ℕ} → Unread text m r → r ≡ None → Enough m × (length text ≤ longest_text)
fits (short_memory h) e = cc
fits (long_text m h) e = cc
fits (none m h) e = (m, h)
