-- Laws of a call that reads no text, and of one that goes on.
-- Assumes nothing.
use Rattle.std.specs.Prelude.{ℕ, ◌<◌, ◌≤◌, ◌≡◌, refl, List, length, Option, Some, None}
use Rattle.std.proofs.Common.{inl, inr, subst}
use Rattle.rules.specs.Limits.{longest_text}
use Rattle.rules.specs.Calls.Memory.{Memory, Enough, work_size}
use Rattle.rules.specs.Calls.Pair.{MoreMemory, PairMemory, PairCall}
use Rattle.rules.specs.Calls.Pair as call
use Rattle.lent.specs.Measured as measured
use Rattle.pairing.specs.Unread.{Unread, short_memory, long_text, none}

module _ {first second : List ℕ} {m : Memory} {r : MoreMemory} where
  -- by what is found of the first text
  pub unread_first : {o : Option ℕ} {n : ℕ} → work_size ≤ length r.work_d → work_size ≤ length r.work_e → work_size ≤ length r.work_f
      → measured.Unread first m o → o ≡ Some n → Unread first second m r (Some n)
  unread_first d e f (measured.short_memory h) q = subst (Unread first second m r) q (short_memory (λ p. h p.enough))
  unread_first d e f (measured.long_text p h) q = subst (Unread first second m r) q (long_text (record { enough = p; work_d = d; work_e = e; work_f = f }) (inl h))
  unread_first d e f (measured.none p h) q = cc

  module _ (d : work_size ≤ length r.work_d) (e : work_size ≤ length r.work_e) (f : work_size ≤ length r.work_f)
      (fits : Enough m × (length first ≤ longest_text)) where
    pub unread_second : longest_text < length second → Unread first second m r (Some 2)
    unread_second h = long_text (record { enough = fits.0; work_d = d; work_e = e; work_f = f }) (inr h)

    pub both_read : length second ≤ longest_text → Unread first second m r None
    both_read h = none (record { enough = fits.0; work_d = d; work_e = e; work_f = f }) fits.1 h

  -- the call
  pub unread_call : {carriers turns : List ℕ} {budget n : ℕ} {o : Option ℕ} → Unread first second m r o → o ≡ Some n
      → PairCall first second carriers turns budget m m r r carriers n
  unread_call (short_memory h) e = call.short_memory h (cc) refl refl refl
  unread_call (long_text p h) e = call.long_text p h (cc) refl refl refl
  unread_call (none p h k) e = cc

  pub goes_on : {o : Option ℕ} → Unread first second m r o → o ≡ None → PairMemory m r × (length first ≤ longest_text) × (length second ≤ longest_text)
  goes_on (short_memory h) e = cc
  goes_on (long_text p h) e = cc
  goes_on (none p h k) e = (p, h, k)
