-- Laws of the line that is written, case by case.
-- Assumes nothing.
use Prim.Native.Nat.{ℕ}
use Rattle.std.specs.Prelude.{◌≡◌, refl, List, ◌++◌}
use native.Mathlib.Omega.{arith}
use borrow.Author.Tests.{eq-eqb, ne_eqb}
use Rattle.lines.specs.Appended.{Appended}
use Rattle.lines.specs.declared.answers.Ending.{Ending}
use Rattle.lines.specs.declared.answers.Ending.TheVariants.{Done, Stopped, Paused, Fault, Refused, Unbounded, Other}
use Rattle.lines.specs.Endings.{refused_bytes}
use Rattle.profile.specs.Report.{no_test, no_output, too_early, not_accepted, reason_bytes, passed, report_bytes}

module _ (n : ℕ) {before after : List ℕ} {at r : ℕ} where
  pub is_90 : n ≡ 90 → Appended before after at r no_test → Appended before after at r (reason_bytes n)
  unfolding reason_bytes
  is_90 e h = rw (reason_bytes, eq-eqb n 90 e) h

  pub is_91 : n ≡ 91 → Appended before after at r no_output → Appended before after at r (reason_bytes n)
  unfolding reason_bytes
  is_91 e h = rw (reason_bytes, ne_eqb n 90 (λ f. omega (arith, e, f)), eq-eqb n 91 e) h

  pub is_92 : n ≡ 92 → Appended before after at r too_early → Appended before after at r (reason_bytes n)
  unfolding reason_bytes
  is_92 e h = rw (reason_bytes, ne_eqb n 90 (λ f. omega (arith, e, f)), ne_eqb n 91 (λ f. omega (arith, e, f)), eq-eqb n 92 e) h

  pub is_other : (n ≡ 90 → ⊥) → (n ≡ 91 → ⊥) → (n ≡ 92 → ⊥) → Appended before after at r not_accepted → Appended before after at r (reason_bytes n)
  unfolding reason_bytes
  is_other d f e h = rw (reason_bytes, ne_eqb n 90 d, ne_eqb n 91 f, ne_eqb n 92 e) h

module _ (e : Ending) (n l c : ℕ) {before after : List ℕ} {at r : ℕ} where
  pub is_passed : e ≡ Done → Appended before after at r passed → Appended before after at r (report_bytes e n l c)
  unfolding report_bytes
  is_passed z h = rw (z, report_bytes) h

  pub is_refused : (e ≡ Done → ⊥) → Appended before after at r (refused_bytes l c n ++ reason_bytes n) → Appended before after at r (report_bytes e n l c)
  unfolding report_bytes
  is_refused d h = by e d
    where
      by : (e : Ending) → (e ≡ Done → ⊥) → Appended before after at r (report_bytes e n l c)
      by Done d = absurd (d refl)
      by Stopped d = h
      by Paused d = h
      by Fault d = h
      by Refused d = h
      by Unbounded d = h
      by (Other code) d = h
