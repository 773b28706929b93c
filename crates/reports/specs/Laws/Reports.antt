-- Laws of why a list or its text is refused, case by case.
-- Assumes nothing.
use Rattle.std.specs.Prelude.{ℕ, ◌≡◌, List}
use borrow.Author.Tests.{eq-eqb, ne_eqb}
use Rattle.lines.specs.Appended.{Appended}
use Rattle.reports.specs.Reports.{too_many, not_accepted, reason_bytes}

module _ (n : ℕ) {before after : List ℕ} {at r : ℕ} where
  pub is_110 : n ≡ 110 → Appended before after at r too_many → Appended before after at r (reason_bytes n)
  unfolding reason_bytes
  is_110 e h = rw (reason_bytes, eq-eqb n 110 e) h

  pub is_other : (n ≡ 110 → ⊥) → Appended before after at r not_accepted → Appended before after at r (reason_bytes n)
  unfolding reason_bytes
  is_other d h = rw (reason_bytes, ne_eqb n 110 d) h
