-- `lexemes::marks::mark_at` meets its contract by the law of marks: a pair, else a single byte, else none.
-- Assumes nothing.
use borrow.Author.Rules.{rules}
use native.Mathlib.Omega.{arith}
use mir.Syntax.{w8}
use mir.Val.{Fits}
use mathlib.Core.Path.{◌≡◌, sym, ◌∙◌}
use mathlib.Core.List.{List}
use Prim.Native.Nat.{ℕ, ◌+◌, ◌<◌}
use lib.ListN.{length, get_or, take, drop}
use Rattle.rules.specs.Text.Bytes.{mark}
use Rattle.rules.specs.Text.Scan.{lexeme_by}
use Rattle.lexemes.specs.Codes.{code_of, mark_digit, mark_code, kind_found, mark_token, pairs, singles}
use Rattle.lexemes.specs.Lexemes.{lexeme_of}
use Rattle.classes.specs.Laws.Runs.{drop_from}
use Rattle.lexemes.specs.Laws.Spellings.{all_bytes, all_drop, is_byte}
use Rattle.lexemes.specs.Laws.Marks.{marked, mark_law}
use Rattle.lexemes.specs.declared.lexemes.Lexeme.{Lexeme}
use Rattle.lexemes.specs.declared.lexemes.Misspelling.{Misspelling}
use Rattle.lexemes.specs.declared.lexemes.Misspelling.TheVariants.{NotAllowed}
use Rattle.std.specs.Prelude.{Option, Some, None, Result, Ok, Err}
use Rattle.lexemes.proofs.marks.mark_at.Goals as goal

module _ (text : List ℕ) (at : ℕ) (h : at < length text) (bytes : (i : ℕ) → Fits w8 (get_or text i 0)) {n : ℕ} {pair : Option ℕ}
    (en : n ≡ mark_code (take 2 (drop at text)))
    (ep : pair ≡ kind_found mark_code n pairs) where
  here : Result Lexeme Misspelling
  here = lexeme_of (lexeme_by mark at (get_or text at 0) (drop (at + 1) text))

  law : here ≡ marked 2 pair (marked 1 (kind_found mark_code (mark_code (take 1 (drop at text))) singles) (Err NotAllowed))
  unfolding here lexeme_by
  law = rw (← drop_from text at h) (mark_law at (drop at text) (all_drop is_byte at text (all_bytes text (λ i. (bytes i).fits))) ∙ rw (ep, en))

  two : {kind : ℕ} {r : Lexeme} → pair ≡ Some kind → r ≡ mark_token kind 1 → Ok r ≡ here
  two e q = sym (law ∙ rw (e, q))

  module _ {m : ℕ} {single : Option ℕ} (none : pair ≡ None) (em : m ≡ mark_digit (get_or text at 0)) (es : single ≡ kind_found mark_code m singles) where
    rest : here ≡ marked 1 single (Err NotAllowed)
    unfolding code_of
    rest =
        let code : mark_code (take 1 (drop at text)) ≡ m = rw (drop_from text at h) (omega arith) in
        law ∙ rw (none, code, es)

    one : {kind : ℕ} {r : Lexeme} → single ≡ Some kind → r ≡ mark_token kind 0 → Ok r ≡ here
    one e q = sym (rest ∙ rw (e, q))

    neither : single ≡ None → Err NotAllowed ≡ here
    neither e = sym (rest ∙ rw e)

pub returns-in-Some : goal.returns-in-Some
unfolding here
returns-in-Some c = search (rules, two)

pub returns-in-Some-single_kind : goal.returns-in-Some-single_kind
unfolding here
returns-in-Some-single_kind c = search (rules, one)

pub returns : goal.returns
unfolding here
returns c = search (rules, neither)
