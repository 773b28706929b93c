-- `lexemes::marks::pair_code` meets its contract: the text from a place on is a byte and the rest.
-- Assumes nothing.
use borrow.Author.Rules.{rules}
use native.Mathlib.Omega.{arith}
use native.Mathlib.Numerals.{add-one}
use mathlib.Core.Path.{◌≡◌, ap, ◌∙◌}
use mathlib.Core.List.{List, [], ◌∷◌}
use Prim.Native.Nat.{ℕ, suc, ◌+◌, ◌*◌, ◌<◌, ◌≤◌}
use lib.ListN.{length, get_or, take, drop, drop_of_length-le}
use lib.Seq.{drop-cons}
use Rattle.lexemes.specs.Codes.{code_of, mark_digit, mark_code}
use Rattle.lexemes.proofs.marks.pair_code.Goals as goal

module _ (text : List ℕ) (at : ℕ) (h : at < length text) {x : ℕ} (ex : x ≡ mark_digit (get_or text at 0)) where
  two : {y : ℕ} → at + 1 < length text → y ≡ mark_digit (get_or text (at + 1) 0) → x + 257 * y ≡ mark_code (take 2 (drop at text))
  unfolding code_of
  two {y} l ey =
      let split : drop at text ≡ get_or text at 0 ∷ get_or text (at + 1) 0 ∷ drop (suc (at + 1)) text
      = rw (drop-cons text at 0 h, add-one) (ap (λ (r : List ℕ). get_or text at 0 ∷ r) (rw add-one at (drop-cons text (at + 1) 0 l))) in
      rw split (omega arith)

  one : length text ≤ at + 1 → x ≡ mark_code (take 2 (drop at text))
  unfolding code_of
  one l =
      let past : length text ≤ suc at = omega arith in
      let split : drop at text ≡ get_or text at 0 ∷ [] = drop-cons text at 0 h ∙ ap (λ (r : List ℕ). get_or text at 0 ∷ r) (drop_of_length-le text past) in
      rw split (omega arith)

pub returns-then-next-text : goal.returns-then-next-text
returns-then-next-text c = search (rules, two)

pub returns : goal.returns
returns c = search (rules, one)
