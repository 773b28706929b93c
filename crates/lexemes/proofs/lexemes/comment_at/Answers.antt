-- `lexemes::lexemes::comment_at` meets its contract: a comment is the run of comment bytes behind the `!`.
-- Assumes nothing.
use borrow.Author.Rules.{rules}
use native.Mathlib.Omega.{arith}
use mathlib.Core.Path.{◌≡◌, ap}
use mathlib.Core.List.{List}
use Prim.Native.Nat.{ℕ, ◌+◌, ◌-◌}
use lib.ListN.{length, get_or, drop}
use Rattle.rules.specs.Text.Bytes.{exclamation, in_comment, leading}
use Rattle.rules.specs.Text.Scan.{lexeme_by}
use Rattle.classes.specs.Classes.{RunEnds}
use Rattle.lexemes.specs.Lexemes.{lexeme_of}
use Rattle.classes.specs.Laws.Runs.{Run, ran, comment_set}
use Rattle.lexemes.specs.declared.lexemes.Lexeme.TheVariants.{Nothing}
use Rattle.std.specs.Prelude.{Ok}
use Rattle.lexemes.proofs.lexemes.comment_at.Goals as goal

found : (text : List ℕ) (at end : ℕ) → RunEnds 1022 text (at + 1) end
    → Ok (Nothing (end - (at + 1))) ≡ lexeme_of (lexeme_by exclamation at (get_or text at 0) (drop (at + 1) text))
unfolding lexeme_by
found text at end runs =
    let behind : Run in_comment text (at + 1) end = ran in_comment text 1022 (at + 1) end comment_set runs in
    let more : end - (at + 1) ≡ length (leading in_comment (drop (at + 1) text)) = omega (arith, behind.ends) in
    ap (λ (n : ℕ). Ok (Nothing n)) more

pub returns : goal.returns
returns c = search (rules, found)
