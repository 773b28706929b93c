-- `lexemes::constants::based_at` meets its contract: the digits are the run of constant bytes behind the prefix.
-- Assumes nothing.
use borrow.Author.Rules.{rules}
use native.Mathlib.Omega.{arith}
use mathlib.Core.Path.{◌≡◌, sym, ◌∙◌}
use mathlib.Core.List.{List}
use Prim.Native.Nat.{ℕ, ◌+◌, ◌-◌}
use lib.ListN.{length, get_or, drop}
use lib.Seq.{slice}
use Rattle.rules.specs.Text.Bytes.{prefix, in_constant, leading}
use Rattle.rules.specs.Text.Constants.{based, digit_bits}
use Rattle.rules.specs.Text.Scan.{lexeme_by}
use Rattle.classes.specs.Classes.{RunEnds}
use Rattle.lexemes.specs.Lexemes.{lexeme_of}
use Rattle.lexemes.specs.Numbers.{number_of, constant_of}
use Rattle.classes.specs.Laws.Runs.{Run, ran, constant_set}
use Rattle.lexemes.specs.Laws.Constants.{based_law}
use Rattle.lexemes.specs.declared.constants.Number.{Number}
use Rattle.lexemes.specs.declared.lexemes.Lexeme.{Lexeme}
use Rattle.lexemes.specs.declared.lexemes.Misspelling.{Misspelling}
use Rattle.std.specs.Prelude.{Option, Result}
use Rattle.lexemes.proofs.constants.based_at.Goals as goal

found : (text : List ℕ) (at end : ℕ) {x : Option Number} {r : Result Lexeme Misspelling} → RunEnds 184 text (at + 1) end
    → x ≡ number_of (based (digit_bits (get_or text at 0)) (slice (at + 1) end text)) → r ≡ constant_of (end - (at + 1)) x
    → r ≡ lexeme_of (lexeme_by prefix at (get_or text at 0) (drop (at + 1) text))
unfolding lexeme_by
found text at end {x} {r} runs ex er =
    let digits : Run in_constant text (at + 1) end = ran in_constant text 184 (at + 1) end constant_set runs in
    let more : end - (at + 1) ≡ length (leading in_constant (drop (at + 1) text)) = omega (arith, digits.ends) in
    er ∙ rw (more, ex, digits.part) (sym (based_law at _ (get_or text at 0) _))

pub returns : goal.returns
returns c = search (rules, found)
