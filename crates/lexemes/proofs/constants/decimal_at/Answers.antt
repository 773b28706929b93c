-- `lexemes::constants::decimal_at` meets its contract: the decimal is the run of constant bytes from its first digit on.
-- Assumes nothing.
use borrow.Author.Rules.{rules}
use native.Mathlib.Omega.{arith}
use mathlib.Core.Path.{◌≡◌, sym, ap, ◌∙◌}
use mathlib.Core.Bool.{true}
use mathlib.Core.List.{List, ◌∷◌}
use Prim.Native.Nat.{ℕ, ◌+◌, ◌-◌, ◌<◌}
use lib.ListN.{length, get_or, drop}
use lib.Seq.{slice}
use Rattle.rules.specs.Text.Bytes.{digit, in_constant, leading}
use Rattle.rules.specs.Text.Constants.{decimal}
use Rattle.rules.specs.Text.Scan.{lexeme_by}
use Rattle.classes.specs.Classes.{RunEnds}
use Rattle.lexemes.specs.Lexemes.{lexeme_of}
use Rattle.lexemes.specs.Numbers.{number_of, constant_of}
use Rattle.classes.specs.Laws.Runs.{Run, ran, one_more, constant_set, drop_from}
use Rattle.lexemes.specs.Laws.Constants.{decimal_law}
use Rattle.lexemes.specs.declared.constants.Number.{Number}
use Rattle.lexemes.specs.declared.lexemes.Lexeme.{Lexeme}
use Rattle.lexemes.specs.declared.lexemes.Misspelling.{Misspelling}
use Rattle.std.specs.Prelude.{Option, Result}
use Rattle.lexemes.proofs.constants.decimal_at.Goals as goal

found : (text : List ℕ) (at end : ℕ) {x : Option Number} {r : Result Lexeme Misspelling} → at < length text → in_constant (get_or text at 0) ≡ true → RunEnds 184 text (at + 1) end
    → x ≡ number_of (decimal (slice at end text)) → r ≡ constant_of (end - (at + 1)) x
    → r ≡ lexeme_of (lexeme_by digit at (get_or text at 0) (drop (at + 1) text))
unfolding lexeme_by
found text at end {x} {r} h first runs ex er =
    let behind : Run in_constant text (at + 1) end = ran in_constant text 184 (at + 1) end constant_set runs in
    let whole : Run in_constant text at end = one_more in_constant text at end h first behind in
    let more : end - (at + 1) ≡ length (leading in_constant (drop (at + 1) text)) = omega (arith, behind.ends) in
    let digits : slice at end text ≡ leading in_constant (get_or text at 0 ∷ drop (at + 1) text) = whole.part ∙ ap (leading in_constant) (drop_from text at h) in
    er ∙ rw (more, ex, digits) (sym (decimal_law at _ _))

pub returns : goal.returns
returns c = search (rules, found)
