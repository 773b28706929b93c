-- Laws of the numbers of an answer to two texts.
-- Assumes nothing.
use Rattle.std.specs.Prelude.{ℕ, zero, suc, ◌+◌, ◌*◌, ◌/◌, ◌%◌, ◌≡◌, List, [], ◌∷◌, ◌++◌, set}
use Rattle.std.proofs.Math.Path.{refl, ap, subst}
use Rattle.std.proofs.Common.{sym, ◌∙◌, arith}
use Rattle.rules.specs.Answers.{bytes_of, refused_numbers, ran_numbers}
use Rattle.rules.specs.Positions.{position_of}
use Rattle.rules.specs.Whole.Sets.{member}
use Rattle.rules.specs.Calls.Memory.{number_bytes}
use Rattle.rules.specs.Steps.Runs.{Ending}
use Rattle.rules.specs.Pair.{turned_down, together}
use Rattle.rules.specs.Calls.Pair.{text_of, pair_numbers}
use Rattle.lent.specs.Numbers.{numbers_of}
use Rattle.lent.specs.declared.answers.Answer.{Answer}
use Rattle.pairing.specs.Outcome.{BadTurn, Tells}

low_byte : (q b n : ℕ) → n ≡ q * 256 + b → b % 256 ≡ n % 256
low_byte q b n e = omega arith

-- the low 32 bits of a number have its four bytes
low_bytes : (n : ℕ) → bytes_of 4 (n % 4294967296) ≡ bytes_of 4 n
unfolding bytes_of
low_bytes n =
    let q : ℕ = n / 4294967296 in
    let r : ℕ = n % 4294967296 in
    let x₁ : n / 256 ≡ q * 16777216 + r / 256 = omega arith in
    let x₂ : n / 256 / 256 ≡ q * 65536 + r / 256 / 256 = omega (arith, x₁) in
    let x₃ : n / 256 / 256 / 256 ≡ q * 256 + r / 256 / 256 / 256 = omega (arith, x₂) in
    let b₀ : r % 256 ≡ n % 256 = omega arith in
    let b₁ : r / 256 % 256 ≡ n / 256 % 256 = omega (arith, x₁) in
    let b₂ : r / 256 / 256 % 256 ≡ n / 256 / 256 % 256 = omega (arith, x₂) in
    let b₃ : r / 256 / 256 / 256 % 256 ≡ n / 256 / 256 / 256 % 256 = low_byte q (r / 256 / 256 / 256) (n / 256 / 256 / 256) x₃ in
    cc

module _ (first second : List ℕ) where
  -- 81, whatever the text
  bad_numbers : (offset : ℕ) (side : ℕ) → pair_numbers first second (turned_down side 81 offset) ≡ 4 ∷ 81 ∷ offset ∷ 0 ∷ side ∷ 0 ∷ 1 ∷ 1 ∷ []
  unfolding position_of member
  bad_numbers offset side = refl

  pub bad_told : {m offset side : ℕ} {a : Answer} → BadTurn offset side a → m ≡ 81 → Tells first second (turned_down side m offset) a
  unfolding number_bytes
  bad_told {m} {offset} {side} {a} e is = subst (λ (n : ℕ). Tells first second (turned_down side n offset) a) (sym is) (record {
    is =
        ap number_bytes e ∙ ap (λ bs. bytes_of 4 4 ++ (bytes_of 4 81 ++ (bs ++ number_bytes (0 ∷ side ∷ 0 ∷ 1 ∷ 1 ∷ [])))) (low_bytes offset)
        ∙ ap number_bytes (sym (bad_numbers offset side));
    number = cc;
  })

  -- a refusal of one of the texts
  pub told_first : {side m p : ℕ} {a b : Answer} → numbers_of a ≡ refused_numbers first m p → numbers_of b ≡ set (numbers_of a) 4 side → side ≡ 0
      → Tells first second (turned_down side m p) b
  told_first {side} {m} {p} {a} {b} q r e =
      let here : text_of first second side ≡ first = ap (text_of first second) e in
      let all : numbers_of b ≡ set (refused_numbers (text_of first second side) m p) 4 side =
      r ∙ ap (λ ns. set ns 4 side) (q ∙ ap (λ t. refused_numbers t m p) (sym here)) in
      record { is = ap number_bytes all; number = cc }

  text_of_second : (side : ℕ) → (side ≡ 0 → ⊥) → text_of first second side ≡ second
  text_of_second zero n = absurd (n refl)
  text_of_second (suc k) n = refl

  pub told_second : {side m p : ℕ} {a b : Answer} → numbers_of a ≡ refused_numbers second m p → numbers_of b ≡ set (numbers_of a) 4 side → (side ≡ 0 → ⊥)
      → Tells first second (turned_down side m p) b
  told_second {side} {m} {p} {a} {b} q r e =
      let all : numbers_of b ≡ set (refused_numbers (text_of first second side) m p) 4 side =
      r ∙ ap (λ ns. set ns 4 side) (q ∙ ap (λ t. refused_numbers t m p) (sym (text_of_second side e))) in
      record { is = ap number_bytes all; number = cc }

  -- the end of the last turn
  pub ran_first : (x : Ending) (n : ℕ) {side : ℕ} {a : Answer} {ns : List ℕ} → numbers_of a ≡ ran_numbers first x n → ns ≡ set (numbers_of a) 4 side → side ≡ 0
      → ns ≡ pair_numbers first second (together x side n [])
  ran_first x n {side} q r e = r ∙ ap (λ ns. set ns 4 side) (q ∙ ap (λ t. ran_numbers t x n) (sym (ap (text_of first second) e)))

  pub ran_second : (x : Ending) (n : ℕ) {side : ℕ} {a : Answer} {ns : List ℕ} → numbers_of a ≡ ran_numbers second x n → ns ≡ set (numbers_of a) 4 side
      → (side ≡ 0 → ⊥)
      → ns ≡ pair_numbers first second (together x side n [])
  ran_second x n {side} q r e = r ∙ ap (λ ns. set ns 4 side) (q ∙ ap (λ t. ran_numbers t x n) (sym (text_of_second side e)))
