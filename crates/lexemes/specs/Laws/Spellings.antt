-- Laws of the codes: two spellings are the same where their numbers are, so a keyword or a mark is found by its number.
use Rattle.std.specs.Prelude.{◌≡◌, Bool, true, false, ◌&&◌, ℕ, zero, suc, ◌+◌, ◌*◌, ◌<◌, ltb, get_or, take, drop, None}
use Rattle.std.proofs.Math.Path.{refl, sym}
use Rattle.std.proofs.Common.{◌∙◌, arith, eq-eqb, ne_eqb, eqb-true, ltb-true, lt-ltb}
use mathlib.Core.List.{List, [], ◌∷◌}
use Rattle.std.proofs.Math.Option.{some}
use Rattle.std.proofs.lemmas.Bool.{eqb-false}
use Rattle.std.proofs.Math.Dec.{eqb}
use Rattle.rules.specs.Text.Tokens.{Spelling, kind_no}
use Rattle.rules.specs.Text.Constants.{all}
use Rattle.rules.specs.Text.Scan.{same_bytes, word_kind}
use Rattle.classes.specs.Laws.Runs.{and_left, and_right}
use Rattle.lexemes.specs.Codes.{code_of, word_digit, mark_digit, kind_by, kind_found}

pub all_head : (p : ℕ → Bool) (b : ℕ) (bs : List ℕ) → all p (b ∷ bs) ≡ true → p b ≡ true
unfolding all
all_head p b bs h = and_left (p b) (all p bs) h

pub all_tail : (p : ℕ → Bool) (b : ℕ) (bs : List ℕ) → all p (b ∷ bs) ≡ true → all p bs ≡ true
unfolding all
all_tail p b bs h = and_right (p b) (all p bs) h

pub all_take : (p : ℕ → Bool) (n : ℕ) (l : List ℕ) → all p l ≡ true → all p (take n l) ≡ true
unfolding all
all_take p zero l h = refl
all_take p (suc n) [] h = refl
all_take p (suc n) (b ∷ bs) h = rw (all_head p b bs h) (all_take p n bs (all_tail p b bs h))

pub all_drop : (p : ℕ → Bool) (n : ℕ) (l : List ℕ) → all p l ≡ true → all p (drop n l) ≡ true
all_drop p zero l h = h
all_drop p (suc n) [] h = h
all_drop p (suc n) (b ∷ bs) h = all_drop p n bs (all_tail p b bs h)

positive : (x y : ℕ) → 0 < x → x + y ≡ 0 → ⊥
positive x y h e = omega arith

-- how the bytes that pass a test give digits: no digit is 0, and a number has only one lowest digit
pub record Digits (digit : ℕ → ℕ) (base : ℕ) (ok : ℕ → Bool) : Type 0 where
  pub some : (b : ℕ) → ok b ≡ true → 0 < digit b
  pub apart : (b c u v : ℕ) → ok b ≡ true → ok c ≡ true → digit b + base * u ≡ digit c + base * v → (b ≡ c) × (u ≡ v)

-- spellings whose bytes pass a test
unfoldable pub spelled : (ℕ → Bool) → List Spelling → Bool
spelled ok [] = true
spelled ok (s ∷ ss) = all ok s.written && spelled ok ss

module _ {digit : ℕ → ℕ} {base : ℕ} {ok : ℕ → Bool} (law : Digits digit base ok) where
  abbrev code : List ℕ → ℕ
  code w = code_of digit base w

  pub same_code : (s w : List ℕ) → all ok s ≡ true → all ok w ≡ true → same_bytes s w ≡ eqb (code w) (code s)
  unfolding same_bytes code_of
  same_code [] [] hs hw = refl
  same_code [] (c ∷ cs) hs hw = sym (ne_eqb _ _ (positive (digit c) _ (law.some c (all_head ok c cs hw))))
  same_code (b ∷ bs) [] hs hw = sym (ne_eqb 0 _ (λ e. positive (digit b) (base * code bs) (law.some b (all_head ok b bs hs)) (sym e)))
  same_code (b ∷ bs) (c ∷ cs) hs hw = go (eqb b c) refl (same_code bs cs (all_tail ok b bs hs) (all_tail ok c cs hw))
    where
      split : digit c + base * code cs ≡ digit b + base * code bs → (c ≡ b) × (code cs ≡ code bs)
      split e = law.apart c b (code cs) (code bs) (all_head ok c cs hw) (all_head ok b bs hs) e

      rest : (r : Bool) → b ≡ c → eqb (code cs) (code bs) ≡ r → r ≡ eqb (digit c + base * code cs) (digit b + base * code bs)
      rest true e q =
          let lower : code cs ≡ code bs = eqb-true _ _ q in
          let whole : digit c + base * code cs ≡ digit b + base * code bs = cc in
          sym (eq-eqb _ _ whole)
      rest false e q = sym (ne_eqb _ _ (λ z. eqb-false _ _ q (split z).1))

      go : (r : Bool) → eqb b c ≡ r → same_bytes bs cs ≡ eqb (code cs) (code bs)
          → r && same_bytes bs cs ≡ eqb (digit c + base * code cs) (digit b + base * code bs)
      go true e q = q ∙ rest _ (eqb-true _ _ e) refl
      go false e q = sym (ne_eqb _ _ (λ z. eqb-false _ _ e (sym (split z).0)))

  pub word_by : (ss : List Spelling) (w : List ℕ) → spelled ok ss ≡ true → all ok w ≡ true → kind_no (word_kind ss w) ≡ kind_by code (code w) ss
  unfolding spelled word_kind kind_by
  word_by [] w hs hw = refl
  word_by (s ∷ ss) w hs hw = go (eqb (code w) (code s.written)) refl (word_by ss w (and_right (all ok s.written) (spelled ok ss) hs) hw)
    where
      same : same_bytes s.written w ≡ eqb (code w) (code s.written)
      same = same_code s.written w (and_left (all ok s.written) (spelled ok ss) hs) hw

      go : (r : Bool) → eqb (code w) (code s.written) ≡ r → kind_no (word_kind ss w) ≡ kind_by code (code w) ss
          → kind_no (word_kind (s ∷ ss) w) ≡ kind_by code (code w) (s ∷ ss)
      go true e rest = rw (word_kind, same ∙ e, kind_by, e)
      go false e rest = rw (word_kind, same ∙ e, kind_by, e) rest

-- the bytes of a folded name
abbrev pub word_byte : ℕ → Bool
word_byte b = ltb 32 b && ltb b 96

pub word_digits : Digits word_digit 64 word_byte
word_digits = record {
  some = λ b h.
      let l : 32 < b = ltb-true 32 b (and_left (ltb 32 b) (ltb b 96) h) in
      let u : b < 96 = ltb-true b 96 (and_right (ltb 32 b) (ltb b 96) h) in
      omega arith;
  apart = λ b c u v hb hc e.
      let lb : 32 < b = ltb-true 32 b (and_left (ltb 32 b) (ltb b 96) hb) in
      let ub : b < 96 = ltb-true b 96 (and_right (ltb 32 b) (ltb b 96) hb) in
      let lc : 32 < c = ltb-true 32 c (and_left (ltb 32 c) (ltb c 96) hc) in
      let uc : c < 96 = ltb-true c 96 (and_right (ltb 32 c) (ltb c 96) hc) in
      omega arith;
}

-- any byte
abbrev pub is_byte : ℕ → Bool
is_byte b = ltb b 256

pub mark_digits : Digits mark_digit 257 is_byte
mark_digits = record {
  some = λ b h. omega arith;
  apart = λ b c u v hb hc e. let ub : b < 256 = ltb-true b 256 hb in let uc : c < 256 = ltb-true c 256 hc in omega arith;
}

pub all_bytes : (l : List ℕ) → ((i : ℕ) → get_or l i 0 < 256) → all is_byte l ≡ true
unfolding all
all_bytes [] h = refl
all_bytes (b ∷ bs) h = rw (lt-ltb b 256 (h 0)) (all_bytes bs (λ i. h (suc i)))

-- a number that no spelling has, as a match on all of them tells
abbrev pub Missed : Type 0 → (List ℕ → ℕ) → ℕ → List Spelling → Type 0
Missed A code n [] = A
Missed A code n (s ∷ ss) = Missed (A × (n ≡ code s.written → ⊥)) code n ss

pub missed : (A : Type 0) (code : List ℕ → ℕ) (n : ℕ) (ss : List Spelling) → Missed A code n ss → A × (kind_by code n ss ≡ 0)
unfolding kind_by
missed A code n [] m = (m, refl)
missed A code n (s ∷ ss) m =
    let rest : (A × (n ≡ code s.written → ⊥)) × (kind_by code n ss ≡ 0) = missed (A × (n ≡ code s.written → ⊥)) code n ss m in
    (rest.0.0, rw (kind_by, ne_eqb _ _ rest.0.1) rest.1)

pub none_found : (A : Type 0) (code : List ℕ → ℕ) (n : ℕ) (ss : List Spelling) → Missed A code n ss → A × (kind_found code n ss ≡ None)
unfolding kind_found
none_found A code n [] m = (m, refl)
none_found A code n (s ∷ ss) m =
    let rest : (A × (n ≡ code s.written → ⊥)) × (kind_found code n ss ≡ None) = none_found (A × (n ≡ code s.written → ⊥)) code n ss m in
    (rest.0.0, rw (kind_found, ne_eqb _ _ rest.0.1) rest.1)
