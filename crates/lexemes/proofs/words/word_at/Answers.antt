-- `lexemes::words::word_at` meets its contract: the word is the run of name bytes from its letter on.
-- Assumes nothing.
use borrow.Author.Rules.{rules}
use borrow.Author.Tests.{le-leb, lt-leb}
use native.Mathlib.Nat.{add-zero}
use native.Mathlib.Omega.{arith}
use mathlib.Core.Path.{◌≡◌, ◌∙◌}
use mathlib.Core.Bool.{true}
use mathlib.Core.List.{List, map}
use Prim.Native.Nat.{ℕ, ◌+◌, ◌-◌, ◌<◌, ◌≤◌}
use lib.ListN.{length, length-map, get_or, drop}
use lib.Seq.{slice}
use Rattle.rules.specs.Text.Bytes.{letter, fold, in_name, leading}
use Rattle.rules.specs.Text.Tokens.{keywords, kind_no}
use Rattle.rules.specs.Text.Constants.{all}
use Rattle.rules.specs.Text.Scan.{word_kind, word_lexeme, lexeme_by}
use Rattle.classes.specs.Classes.{RunEnds}
use Rattle.lexemes.specs.Lexemes.{lexeme_of}
use Rattle.classes.specs.Laws.Runs.{Run, drop_from, ran, one_more, all_run, name_set}
use Rattle.lexemes.specs.declared.lexemes.Lexeme.{Lexeme}
use Rattle.lexemes.specs.declared.lexemes.Lexeme.TheVariants.{Token as Found}
use Rattle.lexemes.specs.declared.lexemes.Misspelling.{Misspelling}
use Rattle.lexemes.specs.declared.lexemes.Misspelling.TheVariants.{LongName}
use Rattle.std.specs.Prelude.{Result, Ok, Err}
use Rattle.lexemes.proofs.words.word_at.Goals as goal

module _ (text : List ℕ) (at end : ℕ) (h : at < length text) (first : in_name (get_or text at 0) ≡ true) (r : RunEnds 56 text (at + 1) end) where
  word : Run in_name text at end
  word = one_more in_name text at end h first (ran in_name text 56 (at + 1) end name_set r)

  here : Result Lexeme Misspelling
  here = lexeme_of (lexeme_by letter at (get_or text at 0) (drop (at + 1) text))

  law : lexeme_of (word_lexeme at (leading in_name (drop at text))) ≡ here
  unfolding here lexeme_by
  law = rw (drop_from text at h)

  long : 32 < end - at → Err LongName ≡ here
  unfolding word_lexeme
  long l = let e : 32 < length (leading in_name (drop at text)) = omega (arith, word.ends) in rw (word_lexeme, lt-leb _ _ e) at law

  names : all in_name (slice at end text) ≡ true
  names = rw word.part (all_run in_name (drop at text))

  found : {k : ℕ} → end - at ≤ 32 → k ≡ kind_no (word_kind keywords (map fold (slice at end text)))
      → Ok (Found (record { more = end - at - 1; kind = k; size = end - at; value = 0; free = 0 })) ≡ here
  unfolding word_lexeme
  found {k} l e =
      let size : end - at ≡ length (leading in_name (drop at text)) = omega (arith, word.ends) in
      let kind : k ≡ kind_no (word_kind keywords (map fold (leading in_name (drop at text)))) = e ∙ rw word.part in
      let short : length (leading in_name (drop at text)) ≤ 32 = omega arith in
      let same : Ok (Found (record { more = end - at - 1; kind = k; size = end - at; value = 0; free = 0 })) ≡ lexeme_of (word_lexeme at (leading in_name (drop at text)))
      = rw (word_lexeme, le-leb _ _ short, size, kind, length-map, add-zero) in
      same ∙ law

pub returns-then-size-gt-LONGEST_NAME : goal.returns-then-size-gt-LONGEST_NAME
unfolding here
returns-then-size-gt-LONGEST_NAME c = search (rules, long)

pub word_kind-requires : goal.word_kind-requires
unfolding here
word_kind-requires c = search (rules, names)

pub returns : goal.returns
unfolding here
returns c = search (rules, found)
