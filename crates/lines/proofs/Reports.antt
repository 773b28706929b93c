-- Laws of answers and endings, by the ending.
-- Assumes nothing.
use Prim.Native.Nat.{ℕ, zero, suc, ◌+◌, ◌*◌}
use mathlib.Core.Path.{◌≡◌, refl}
use mathlib.Core.List.{List, ◌++◌}
use native.Mathlib.Omega.{arith}
use borrow.Author.Tests.{eq-eqb, ne_eqb}
use lib.Dec.{eqb}
use Rattle.rules.specs.Text.Bytes.{bytes}
use Rattle.cells.specs.Cells.{le_at, cell}
use Rattle.lines.specs.Appended.{Appended}
use Rattle.lines.specs.declared.answers.Ending.{Ending}
use Rattle.lines.specs.declared.answers.Ending.TheVariants.{Done, Stopped, Paused, Fault, Refused, Unbounded, Other}
use Rattle.lines.specs.Endings.{labelled, ending_bytes}
use Rattle.lines.specs.Answers.{unless12, ending_of}

-- two cells of 16 bits are one of 32
pub two_cells : (b : List ℕ) (i : ℕ) {x y : ℕ} → x ≡ cell 2 b (2 * i) → y ≡ cell 2 b (2 * i + 1) → x + 65536 * y ≡ cell 4 b i
unfolding le_at
two_cells b i e f =
    let low : 2 * (2 * i) ≡ 4 * i = omega arith in
    let high : 2 * (2 * i + 1) ≡ 4 * i + 1 + 1 = omega arith in
    omega (arith, rw low at e, rw high at f)

-- a code that is none of the others stays as it is
pub other_code : (code : ℕ) → (code ≡ 0 → ⊥) → (code ≡ 1 → ⊥) → (code ≡ 2 → ⊥) → (code ≡ 3 → ⊥) → (code ≡ 4 → ⊥) → (code ≡ 5 → ⊥) → Other code ≡ ending_of code
unfolding ending_of
other_code zero d₀ d₁ d₂ d₃ d₄ d₅ = absurd (d₀ refl)
other_code (suc zero) d₀ d₁ d₂ d₃ d₄ d₅ = absurd (d₁ refl)
other_code (suc (suc zero)) d₀ d₁ d₂ d₃ d₄ d₅ = absurd (d₂ refl)
other_code (suc (suc (suc zero))) d₀ d₁ d₂ d₃ d₄ d₅ = absurd (d₃ refl)
other_code (suc (suc (suc (suc zero)))) d₀ d₁ d₂ d₃ d₄ d₅ = absurd (d₄ refl)
other_code (suc (suc (suc (suc (suc zero))))) d₀ d₁ d₂ d₃ d₄ d₅ = absurd (d₅ refl)
other_code (suc (suc (suc (suc (suc (suc more)))))) d₀ d₁ d₂ d₃ d₄ d₅ = refl

-- the refusals 1 and 2, and what is written otherwise
module _ (number u e : ℕ) where
  pub unwritten_1 : number ≡ 1 → u ≡ unless12 (eqb number 1) (eqb number 2) u e
  unwritten_1 h = rw (eq-eqb number 1 h)

  pub unwritten_2 : (number ≡ 1 → ⊥) → number ≡ 2 → u ≡ unless12 (eqb number 1) (eqb number 2) u e
  unwritten_2 d h = rw (ne_eqb number 1 d, eq-eqb number 2 h)

  pub written : {r : ℕ} → (number ≡ 1 → ⊥) → (number ≡ 2 → ⊥) → r ≡ e → r ≡ unless12 (eqb number 1) (eqb number 2) u e
  written d f h = rw (ne_eqb number 1 d, ne_eqb number 2 f) h

module _ (e : Ending) (n p s : ℕ) {before after : List ℕ} {at r : ℕ} where
  pub is_done : e ≡ Done → Appended before after at r (labelled (bytes "done ") s) → Appended before after at r (ending_bytes e n p s)
  unfolding ending_bytes
  is_done z h = rw (z, ending_bytes) h

  pub is_stopped : e ≡ Stopped → Appended before after at r (labelled (bytes "stopped ") s) → Appended before after at r (ending_bytes e n p s)
  unfolding ending_bytes
  is_stopped z h = rw (z, ending_bytes) h

  pub is_paused : e ≡ Paused → Appended before after at r (labelled (bytes "paused ") s) → Appended before after at r (ending_bytes e n p s)
  unfolding ending_bytes
  is_paused z h = rw (z, ending_bytes) h

  pub is_fault : e ≡ Fault → Appended before after at r (labelled (bytes "fault ") n ++ (labelled (bytes " ") p ++ labelled (bytes " ") s))
      → Appended before after at r (ending_bytes e n p s)
  unfolding ending_bytes
  is_fault z h = rw (z, ending_bytes) h

  pub is_refused : (e ≡ Done → ⊥) → (e ≡ Stopped → ⊥) → (e ≡ Paused → ⊥) → (e ≡ Fault → ⊥) → Appended before after at r (labelled (bytes "refused ") n ++ labelled (bytes " ") p)
      → Appended before after at r (ending_bytes e n p s)
  unfolding ending_bytes
  is_refused d₀ d₁ d₂ d₃ h = by e d₀ d₁ d₂ d₃
    where
      by : (e : Ending) → (e ≡ Done → ⊥) → (e ≡ Stopped → ⊥) → (e ≡ Paused → ⊥) → (e ≡ Fault → ⊥) → Appended before after at r (ending_bytes e n p s)
      by Done d₀ d₁ d₂ d₃ = absurd (d₀ refl)
      by Stopped d₀ d₁ d₂ d₃ = absurd (d₁ refl)
      by Paused d₀ d₁ d₂ d₃ = absurd (d₂ refl)
      by Fault d₀ d₁ d₂ d₃ = absurd (d₃ refl)
      by Refused d₀ d₁ d₂ d₃ = h
      by Unbounded d₀ d₁ d₂ d₃ = h
      by (Other code) d₀ d₁ d₂ d₃ = h
