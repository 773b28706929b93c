-- `lexemes::lexemes::lexeme_at` meets its contract: the class number tells the class, and each class has its own lexeme.
-- Assumes nothing.
use borrow.Author.Rules.{rules}
use mathlib.Core.Path.{◌≡◌, refl, sym, ap, ◌∙◌}
use mathlib.Core.Bool.{true}
use mathlib.Core.List.{List}
use Prim.Native.Nat.{ℕ}
use Rattle.rules.specs.Text.Bytes.{Class, class_no, class_of, in_name, in_constant}
use Rattle.rules.specs.Text.Bytes.{forbidden, blank, exclamation, letter, digit, dot, prefix, query, mark, other}
use Rattle.rules.specs.Text.Scan.{lexeme, lexeme_by, bad_lexeme}
use Rattle.lexemes.specs.Lexemes.{lexeme_of}
use Rattle.classes.specs.Laws.Runs.{class_at, class_back}
use Rattle.lexemes.specs.declared.lexemes.Lexeme.{Lexeme}
use Rattle.lexemes.specs.declared.lexemes.Misspelling.{Misspelling}
use Rattle.lexemes.specs.declared.lexemes.Misspelling.TheVariants.{NotAllowed}
use Rattle.std.specs.Prelude.{Result, Err}
use Rattle.lexemes.proofs.lexemes.lexeme_at.Goals as goal

told : (n b : ℕ) {k : ℕ} → k ≡ class_no (class_of b) → k ≡ n → class_of b ≡ class_at n
told n b e q = sym (class_back (class_of b)) ∙ ap class_at (sym e ∙ q)

by : (n p b : ℕ) (bs : List ℕ) {k : ℕ} {r : Result Lexeme Misspelling} → k ≡ class_no (class_of b) → k ≡ n → r ≡ lexeme_of (lexeme_by (class_at n) p b bs)
    → r ≡ lexeme_of (lexeme p b bs)
unfolding lexeme
by n p b bs e q x = x ∙ ap (λ (c : Class). lexeme_of (lexeme_by c p b bs)) (sym (told n b e q))

starts_name : (b : ℕ) {k : ℕ} → k ≡ class_no (class_of b) → k ≡ 3 → in_name b ≡ true
unfolding in_name class_at
starts_name b e q = rw (told 3 b e q)

starts_decimal : (b : ℕ) {k : ℕ} → k ≡ class_no (class_of b) → k ≡ 4 → in_constant b ≡ true
unfolding in_constant in_name class_at
starts_decimal b e q = rw (told 4 b e q)

-- the classes that start nothing
none : (c : Class) (p b : ℕ) (bs : List ℕ) → (class_no c ≡ 1 → ⊥) → (class_no c ≡ 2 → ⊥) → (class_no c ≡ 3 → ⊥) → (class_no c ≡ 4 → ⊥)
    → (class_no c ≡ 6 → ⊥) → (class_no c ≡ 8 → ⊥) → lexeme_by c p b bs ≡ bad_lexeme 10
unfolding lexeme_by
none forbidden p b bs h1 h2 h3 h4 h6 h8 = refl
none blank p b bs h1 h2 h3 h4 h6 h8 = absurd (h1 refl)
none exclamation p b bs h1 h2 h3 h4 h6 h8 = absurd (h2 refl)
none letter p b bs h1 h2 h3 h4 h6 h8 = absurd (h3 refl)
none digit p b bs h1 h2 h3 h4 h6 h8 = absurd (h4 refl)
none dot p b bs h1 h2 h3 h4 h6 h8 = refl
none prefix p b bs h1 h2 h3 h4 h6 h8 = absurd (h6 refl)
none query p b bs h1 h2 h3 h4 h6 h8 = refl
none mark p b bs h1 h2 h3 h4 h6 h8 = absurd (h8 refl)
none other p b bs h1 h2 h3 h4 h6 h8 = refl

nothing_starts : (p b : ℕ) (bs : List ℕ) {k : ℕ} → k ≡ class_no (class_of b) → (k ≡ 1 → ⊥) → (k ≡ 2 → ⊥) → (k ≡ 3 → ⊥)
    → (k ≡ 4 → ⊥) → (k ≡ 6 → ⊥) → (k ≡ 8 → ⊥) → Err NotAllowed ≡ lexeme_of (lexeme p b bs)
unfolding lexeme
nothing_starts p b bs e h1 h2 h3 h4 h6 h8 =
    sym
    (ap lexeme_of
    (none (class_of b) p b bs (λ q. h1 (e ∙ q)) (λ q. h2 (e ∙ q)) (λ q. h3 (e ∙ q)) (λ q. h4 (e ∙ q)) (λ q. h6 (e ∙ q)) (λ q. h8 (e ∙ q))))

pub word_at-requires : goal.word_at-requires
unfolding class_at lexeme_by
word_at-requires c = search (rules, starts_name)

pub decimal_at-requires : goal.decimal_at-requires
unfolding class_at lexeme_by
decimal_at-requires c = search (rules, starts_decimal)

pub returns-in-1 : goal.returns-in-1
unfolding class_at lexeme_by
returns-in-1 c = by 1 _ _ _ c.class_of-class.ensures c.in-1.is refl

pub returns-in-2 : goal.returns-in-2
unfolding class_at lexeme_by
returns-in-2 c = by 2 _ _ _ c.class_of-class.ensures c.in-2.is c.comment_at.ensures

pub returns-in-3 : goal.returns-in-3
unfolding class_at lexeme_by
returns-in-3 c = by 3 _ _ _ c.class_of-class.ensures c.in-3.is c.word_at.ensures

pub returns-in-4 : goal.returns-in-4
unfolding class_at lexeme_by
returns-in-4 c = by 4 _ _ _ c.class_of-class.ensures c.in-4.is c.decimal_at.ensures

pub returns-in-6 : goal.returns-in-6
unfolding class_at lexeme_by
returns-in-6 c = by 6 _ _ _ c.class_of-class.ensures c.in-6.is c.based_at.ensures

pub returns-in-8 : goal.returns-in-8
unfolding class_at lexeme_by
returns-in-8 c = by 8 _ _ _ c.class_of-class.ensures c.in-8.is c.mark_at.ensures

pub returns-in_default : goal.returns-in_default
unfolding class_at lexeme_by
returns-in_default c = search (rules, nothing_starts)
