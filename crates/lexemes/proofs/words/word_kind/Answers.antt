-- `lexemes::words::word_kind` meets its contract: a word of up to 9 bytes is found by its number.
-- Assumes nothing.
use borrow.Author.Rules.{rules}
use native.Mathlib.Omega.{arith}
use mathlib.Core.Path.{◌≡◌, sym, ap, ◌∙◌}
use mathlib.Core.Bool.{true}
use mathlib.Core.List.{List, map}
use Prim.Native.Nat.{ℕ, ◌-◌, ◌<◌, ◌≤◌}
use lib.ListN.{length, length-map}
use lib.Seq.{slice, length-slice}
use Rattle.rules.specs.Text.Bytes.{fold, in_name}
use Rattle.rules.specs.Text.Tokens.{keywords, kind_no}
use Rattle.rules.specs.Text.Constants.{all}
use Rattle.rules.specs.Text.Scan.{word_kind}
use Rattle.lexemes.specs.Codes.{word_code, kind_by}
use Rattle.lexemes.specs.Laws.Words.{keyword_by, no_keyword}
use Rattle.lexemes.proofs.words.word_kind.Goals as goal

long : (text : List ℕ) (at end : ℕ) → end ≤ length text → 9 < end - at → 0 ≡ kind_no (word_kind keywords (map fold (slice at end text)))
long text at end within h =
    no_keyword (map fold (slice at end text)) (omega (arith, length-map (slice at end text) fold, length-slice at end text within))

found : (w : List ℕ) {n r : ℕ} → all in_name w ≡ true → n ≡ word_code (map fold w) → r ≡ kind_by word_code n keywords
    → r ≡ kind_no (word_kind keywords (map fold w))
found w h e f = f ∙ ap (λ (n : ℕ). kind_by word_code n keywords) e ∙ sym (keyword_by w h)

pub returns-then-end-at-gt9 : goal.returns-then-end-at-gt9
returns-then-end-at-gt9 c = search (rules, long)

pub returns : goal.returns
returns c = search (rules, found)
