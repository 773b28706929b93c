-- Laws of copying, one cell after the other.
-- Assumes nothing.
use Rattle.std.specs.Prelude.{ℕ, ◌+◌, ◌*◌, ◌<◌, ◌≤◌, ◌≡◌, List, length}
use Rattle.std.proofs.Common.{◌∙◌, arith}
use Rattle.std.proofs.Math.Decide.{dec_lt}
use Rattle.cells.specs.Cells.{cell, put_cell}
use Rattle.cells.proofs.Laws.{le_put_same, le_put_below}
use Rattle.reader.specs.Copied.{Copied}

pub none_copied : (to from : List ℕ) → Copied to from 0
none_copied to from = record { same = λ j l. absurd (omega arith) }

pub one_more : {to from now : List ℕ} {k v : ℕ} → Copied to from k → now ≡ put_cell 2 to k v → v ≡ cell 2 from k → 2 * k + 2 ≤ length to → v < 65536 → Copied now from (k + 1)
one_more {to} {from} {now} {k} {v} h put is room fits = record { same = λ j l. rw put (by j l (dec_lt j k)) }
  where
    by : (j : ℕ) → j < k + 1 → Dec (j < k) → cell 2 (put_cell 2 to k v) j ≡ cell 2 from j
    by j l (yes m) = le_put_below 2 2 to (2 * k) v (2 * j) (omega arith) ∙ h.same j m
    by j l (no m) = let e : j ≡ k = omega arith in rw e (le_put_same 2 to (2 * k) v room fits ∙ is)

pub all_copied : {to from : List ℕ} {k : ℕ} (n : ℕ) → Copied to from k → n ≤ k → Copied to from n
all_copied n h l = record { same = λ j m. h.same j (omega arith) }
