-- Laws of a lent name that is compared with a word of the text, byte by byte.
-- Assumes nothing.
use Rattle.std.specs.Prelude.{ℕ, suc, ◌+◌, ◌-◌, ◌<◌, ◌≤◌, ◌≡◌, Bool, true, false, not, ◌&&◌, List, ◌∷◌, eqb, get_or, take, drop}
use Rattle.std.proofs.Math.Path.{sym}
use Rattle.std.proofs.Common.{ap, ◌∙◌, add-zero, add-one, length-take, length-drop, drop-cons}
use Rattle.std.proofs.Math.Nat.{sub-zero}
use native.Mathlib.Omega.{arith}
use Rattle.std.proofs.lemmas.Bool.{not-true, not-false}
use Rattle.std.proofs.Math.ListN.{length, drop_of_length-le}
use Rattle.std.proofs.lemmas.List.{length-map}
use Rattle.rules.specs.Text.Bytes.{fold}
use Rattle.rules.specs.Text.Scan.{same_bytes}
use Rattle.rules.specs.Paths.{folded}
use Rattle.records.specs.Holds.{folded_at}
use Rattle.records.specs.Laws.Words.{differ_length}

-- whether what is left of both is the same, when k bytes are passed
abbrev left_same : List ℕ → List ℕ → ℕ → ℕ → ℕ → Bool
left_same text name p n k = same_bytes (folded_at text (p + k) (n - k)) (folded (drop k name))

abbrev pub whole_same : List ℕ → List ℕ → ℕ → ℕ → Bool
whole_same text name p n = same_bytes (folded_at text p n) (folded name)

-- a name of another length is another name
pub other_length : (text name : List ℕ) (p n : ℕ) → p + n ≤ length text → (length name ≡ n → ⊥) → false ≡ whole_same text name p n
other_length text name p n room d = sym (differ_length _ _ (λ e. d (sym (length-map name fold) ∙ (sym e ∙ long))))
  where
    long : length (folded_at text p n) ≡ n
    long = length-map (take n (drop p text)) fold ∙ (length-take n (drop p text) ∙ omega (arith, length-drop p text))

pub record Comparing (text name : List ℕ) (p n k : ℕ) : Type 0 where
  pub within : k ≤ n
  pub long : length name ≡ n
  pub left : left_same text name p n k ≡ whole_same text name p n

pub none_compared : (text : List ℕ) {name : List ℕ} (p : ℕ) {n : ℕ} → length name ≡ n → Comparing text name p n 0
none_compared text p e = record { within = omega arith; long = e; left = simp (add-zero, sub-zero) }

module _ {text name : List ℕ} {p n k : ℕ} (c : Comparing text name p n k) (room : p + n ≤ length text) where
  module _ (h : k < n) where
    text_next : folded_at text (p + k) (n - k) ≡ fold (get_or text (p + k) 0) ∷ folded_at text (p + (k + 1)) (n - (k + 1))
    text_next =
        let more : n - k ≡ suc (n - (k + 1)) = omega arith in
        let next : p + (k + 1) ≡ suc (p + k) = omega arith in
        let inside : p + k < length text = omega arith in
        rw (more, next, drop-cons text (p + k) 0)

    name_next : folded (drop k name) ≡ fold (get_or name k 0) ∷ folded (drop (k + 1) name)
    name_next = let inside : k < length name = omega (arith, c.long) in rw (add-one, drop-cons name k 0)

    both_next : left_same text name p n k ≡ (eqb (fold (get_or text (p + k) 0)) (fold (get_or name k 0)) && left_same text name p n (k + 1))
    unfolding same_bytes
    both_next = rw (text_next, name_next, same_bytes)

    module _ {b : Bool} (same : b ≡ eqb (fold (get_or text (p + k) 0)) (fold (get_or name k 0))) where
      next_by : left_same text name p n k ≡ (b && left_same text name p n (k + 1))
      next_by = both_next ∙ ap (λ (x : Bool). x && left_same text name p n (k + 1)) (sym same)

      pub one_differs : not b ≡ true → false ≡ whole_same text name p n
      one_differs d = sym (next_by ∙ ap (λ (x : Bool). x && left_same text name p n (k + 1)) (not-true b d)) ∙ c.left

      pub one_same : not b ≡ false → Comparing text name p n (k + 1)
      one_same d = record {
        within = omega arith;
        long = c.long;
        left = sym (next_by ∙ ap (λ (x : Bool). x && left_same text name p n (k + 1)) (not-false b d)) ∙ c.left;
      }

  pub all_same : n ≤ k → true ≡ whole_same text name p n
  unfolding same_bytes
  all_same h =
      let none : n - k ≡ 0 = omega arith in
      let past : length name ≤ k = omega (arith, c.long) in
      sym (rw (none, drop_of_length-le name past, same_bytes)) ∙ c.left
