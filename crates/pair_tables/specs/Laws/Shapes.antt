-- What the code finds of storage and of names is what the rules say.
-- Assumes nothing.
use Rattle.std.specs.Prelude.{ℕ, ◌≡◌, refl, Bool, true, false, not, ◌&&◌, List, eqb, Some, None}
use Rattle.std.proofs.Common.{sym, ap, ap₂, ◌∙◌, arith, eq-eqb, ne_eqb}
use Rattle.std.proofs.Math.Option.{Option, none, some}
use Rattle.std.proofs.lemmas.Bool.{not-true, not-false}
use Rattle.rules.specs.Declarations.{Names as Span-of, BitNames, one_unnamed, these, declared_of}
use Rattle.rules.specs.Pair.{has_storage, is_storage_of, same_words, same_own_bits, same_shape}
use Rattle.table.specs.Shown.{shown_words, shown_bits}
use Rattle.table.specs.Views.{View, TargetAt}
use Rattle.table.specs.Laws.Views.{no_target, target_here}
use Rattle.table.specs.declared.views.Names.{Names}
use Rattle.spans.specs.Spans.{missing_shown}
use Rattle.table.specs.declared.views.Names.TheVariants.{Span}
use Rattle.pair_tables.specs.Shapes.{span_shown, same_shown}

-- names from l to r, against those from `left` to `right`
module _ {x : Names} {l r : ℕ} (left right : ℕ) (is : x ≡ Span l r) where
  pub other_left : (l ≡ left → ⊥) → false ≡ span_shown x left right
  other_left n = rw (is, ne_eqb l left n)

  pub same_left : l ≡ left → eqb r right ≡ span_shown x left right
  same_left e = rw (is, eq-eqb l left e)

pub span_same : (a : Names) {b : Names} {t : Bool} (left right : ℕ) → b ≡ Span left right → t ≡ span_shown a left right → t ≡ same_shown a b
span_same a left right e q = q ∙ ap (same_shown a) (sym e)

words_shown : (a b : Option Span-of) → same_shown (shown_words a) (shown_words b) ≡ same_words a b
words_shown none none = refl
words_shown none (some b) = refl
words_shown (some a) none = refl
words_shown (some a) (some b) = refl

bits_shown : (a b : Option BitNames) → same_shown (shown_bits a) (shown_bits b) ≡ same_own_bits a b
bits_shown none none = refl
bits_shown none (some one_unnamed) = refl
bits_shown none (some (these b)) = refl
bits_shown (some one_unnamed) none = refl
bits_shown (some one_unnamed) (some one_unnamed) = refl
bits_shown (some one_unnamed) (some (these b)) = refl
bits_shown (some (these a)) none = refl
bits_shown (some (these a)) (some one_unnamed) = refl
bits_shown (some (these a)) (some (these b)) = refl

-- storage, by the token of a mapping's target and by the bits
storage_bits : (b : Option BitNames) → not (missing_shown (shown_bits b)) ≡ has_storage none b
storage_bits none = refl
storage_bits (some one_unnamed) = refl
storage_bits (some (these b)) = refl

module _ {records values : List ℕ} {p : ℕ} where
  pub no_storage : {t : ℕ} → ((values : List ℕ) (v : View records values p) → TargetAt v.tokens (Some t) (declared_of v.declaration).target)
      → (v : View records values p) → false ≡ is_storage_of (declared_of v.declaration)
  no_storage at v = rw (target_here v.tokens (declared_of v.declaration).target (at values v)).1

  pub with_storage : {x : Names} {r : Bool} → ((values : List ℕ) (v : View records values p) → TargetAt v.tokens None (declared_of v.declaration).target)
      → (v : View records values p) → ((v : View records values p) → x ≡ shown_bits (declared_of v.declaration).bits) → r ≡ missing_shown x
      → not r ≡ is_storage_of (declared_of v.declaration)
  with_storage at v bits is =
      rw (no_target v.tokens None (declared_of v.declaration).target (at values v) refl)
      (ap not (is ∙ ap missing_shown (bits v)) ∙ storage_bits (declared_of v.declaration).bits)

-- the same names of words, then of bits
module _ {records₀ values₀ records₁ values₁ : List ℕ} {p q : ℕ} {a b : Names} {r : Bool}
    (words₀ : (v : View records₀ values₀ p) → a ≡ shown_words (declared_of v.declaration).words)
    (words₁ : (v : View records₁ values₁ q) → b ≡ shown_words (declared_of v.declaration).words) (is : r ≡ same_shown a b)
    (v : View records₀ values₀ p) (w : View records₁ values₁ q) where
  same_words_lem : r ≡ same_words (declared_of v.declaration).words (declared_of w.declaration).words
  same_words_lem = is ∙ ap₂ same_shown (words₀ v) (words₁ w) ∙ words_shown (declared_of v.declaration).words (declared_of w.declaration).words

  pub other_words : not r ≡ true → false ≡ same_shape (declared_of v.declaration) (declared_of w.declaration)
  other_words n =
      ap (λ (x : Bool). x && same_own_bits (declared_of v.declaration).bits (declared_of w.declaration).bits) (sym (not-true r n) ∙ same_words_lem)

  pub by_bits : {c d : Names} {s : Bool} → not r ≡ false → ((v : View records₀ values₀ p) → c ≡ shown_bits (declared_of v.declaration).bits)
      → ((v : View records₁ values₁ q) → d ≡ shown_bits (declared_of v.declaration).bits) → s ≡ same_shown c d
      → s ≡ same_shape (declared_of v.declaration) (declared_of w.declaration)
  by_bits y bits₀ bits₁ e =
      e ∙ ap₂ same_shown (bits₀ v) (bits₁ w) ∙ bits_shown (declared_of v.declaration).bits (declared_of w.declaration).bits
      ∙ ap (λ (x : Bool). x && same_own_bits (declared_of v.declaration).bits (declared_of w.declaration).bits) (sym (not-false r y) ∙ same_words_lem)
