-- Laws of the tests of one declaration.
-- Assumes nothing.
use Prim.Native.Nat.{ℕ, ◌≤◌}
use mathlib.Core.Path.{◌≡◌, refl, sym, ap, ◌∙◌}
use mathlib.Core.Bool.{Bool, true, false, not}
use mathlib.Core.List.{List}
use mathlib.Core.Option.{Option, none, some}
use native.Mathlib.Omega.{arith}
use borrow.Author.Tests.{not-true, not-false}
use Rattle.std.specs.Prelude.{Option as Found, is_some}
use Rattle.rules.specs.Declarations.{Names as Span-of, declared_of, Target, storage_words, words_of}
use Rattle.rules.specs.Faults.Declared.{large_bits, large_words, good_target}
use Rattle.rules.specs.Limits.{most_words}
use Rattle.table.specs.Shown.{shown_words, shown_bits, shown_target}
use Rattle.table.specs.Views.{View, TargetAt}
use Rattle.table.specs.Laws.Views.{no_target, a_target}
use Rattle.table.specs.declared.views.Names.{Names}
use Rattle.declare.specs.Faults.{is_large}
use Rattle.declare.specs.Laws.Lawful.{both_false}
use Rattle.spans.specs.Spans.{far_shown, large_shown, missing_shown, storage_shown, fits_shown}
use Rattle.spans.specs.Laws.Spans.{far_shown_lem, large_shown_lem, storage_shown_lem, fits_shown_lem}
use Rattle.declare.specs.Listed.{SmallView}

module _ (records values : List ℕ) (p : ℕ) where
  -- 31
  module _ {x : Names} {b : Bool} (bits : (v : View records values p) → x ≡ shown_bits (declared_of v.declaration).bits) (large : b ≡ large_shown x) where
    large_bits_is : (v : View records values p) → large_bits (declared_of v.declaration).bits ≡ b
    large_bits_is v = sym (large ∙ ap large_shown (bits v) ∙ large_shown_lem (declared_of v.declaration).bits)

    pub by_bits : b ≡ true → (v : View records values p) → true ≡ is_large (declared_of v.declaration)
    by_bits y v = rw (large_bits_is v ∙ y)

    pub by_words : {w : Names} {c : Bool} → b ≡ false → ((v : View records values p) → w ≡ shown_words (declared_of v.declaration).words) → c ≡ far_shown w
        → (v : View records values p) → c ≡ is_large (declared_of v.declaration)
    by_words y words far v = rw (large_bits_is v ∙ y) (far ∙ ap far_shown (words v) ∙ far_shown_lem (declared_of v.declaration).words)

  -- 32
  module _ (r : Found ℕ) (target : (values : List ℕ) (v : View records values p) → TargetAt v.tokens r (declared_of v.declaration).target) where
    pub mapping_adds_none : is_some r ≡ true → ((v : View records values p) → 0 ≡ words_of (declared_of v.declaration)) × (0 ≤ most_words)
    unfolding storage_words
    mapping_adds_none n = (λ v. rw (a_target v.tokens r (declared_of v.declaration).target (target values v) n).1, omega arith)

    module _ {b w : Names} (bits : (v : View records values p) → b ≡ shown_bits (declared_of v.declaration).bits)
        (words : (v : View records values p) → w ≡ shown_words (declared_of v.declaration).words) where
      pub storage_adds : {n : ℕ} → is_some r ≡ false → (n ≡ storage_shown b w) × (n ≤ most_words)
          → ((v : View records values p) → n ≡ words_of (declared_of v.declaration)) × (n ≤ most_words)
      storage_adds z s = (
        λ v.
            rw (no_target v.tokens r (declared_of v.declaration).target (target values v) z)
            (s.0 ∙ ap (λ (x : Names). storage_shown x w) (bits v) ∙ ap (storage_shown (shown_bits (declared_of v.declaration).bits)) (words v)
            ∙ storage_shown_lem (declared_of v.declaration).bits (declared_of v.declaration).words),
        s.1,
      )

  pub small_words : {w : Names} → ((v : View records values p) → w ≡ shown_words (declared_of v.declaration).words) → SmallView records values p → far_shown w ≡ false
  small_words words s = ap far_shown (words s.view) ∙ far_shown_lem (declared_of s.view.declaration).words ∙ s.small

-- 33: the mapping named p on the declaration named q
some_missing : (o : Option Span-of) → missing_shown (shown_words o) ≡ true → o ≡ none
some_missing none e = refl
some_missing (some s) e = absurd (let z : ◌≡◌ {A = ℕ} 0 1 = cc in omega arith)

none_missing : (o : Option Span-of) → missing_shown (shown_words o) ≡ false → (s : Span-of) × (o ≡ some s)
none_missing none e = absurd (let z : ◌≡◌ {A = ℕ} 0 1 = cc in omega arith)
none_missing (some s) e = (s, refl)

module _ (records values : List ℕ) (p q : ℕ) {w : Names} {a : Bool} (words : (v : View records values q) → w ≡ shown_words (declared_of v.declaration).words)
    (missing : a ≡ missing_shown w) where
  has_words : (x : View records values q) → a ≡ missing_shown (shown_words (declared_of x.declaration).words)
  has_words x = missing ∙ ap missing_shown (words x)

  pub words_spoil : not a ≡ true → (v : View records values p) (x : View records values q) (t : Target) → (declared_of v.declaration).target ≡ some t
      → false ≡ good_target (declared_of v.declaration).bits t.bits (some (declared_of x.declaration))
  words_spoil n v x t e = rw (good_target, (none_missing (declared_of x.declaration).words (sym (has_words x) ∙ not-true a n)).1)

  module _ (r : Found ℕ) (wordless : not a ≡ false)
      (target : (values : List ℕ) (v : View records values q) → TargetAt v.tokens r (declared_of v.declaration).target) where
    pub mapping_spoils : is_some r ≡ true → (v : View records values p) (x : View records values q) (t : Target) → (declared_of v.declaration).target ≡ some t
        → false ≡ good_target (declared_of v.declaration).bits t.bits (some (declared_of x.declaration))
    mapping_spoils n v x t e =
        rw (
          good_target,
          some_missing (declared_of x.declaration).words (sym (has_words x) ∙ not-false a wordless),
          (a_target x.tokens r (declared_of x.declaration).target (target values x) n).1,
        )

    pub fits_on : {c b s : Names} {f : Bool} → is_some r ≡ false → ((v : View records values q) → c ≡ shown_bits (declared_of v.declaration).bits)
        → ((v : View records values p) → b ≡ shown_bits (declared_of v.declaration).bits)
        → ((v : View records values p) → s ≡ shown_target (declared_of v.declaration).target) → f ≡ fits_shown c b s
        → (v : View records values p) (x : View records values q) (t : Target) → (declared_of v.declaration).target ≡ some t
        → f ≡ good_target (declared_of v.declaration).bits t.bits (some (declared_of x.declaration))
    fits_on {c} {b} {s} z bits own on e v x t is =
        rw (
          good_target,
          some_missing (declared_of x.declaration).words (sym (has_words x) ∙ not-false a wordless),
          no_target x.tokens r (declared_of x.declaration).target (target values x) z,
        )
        (e ∙ rw (bits x, own v, on v ∙ ap shown_target is) (fits_shown_lem (declared_of x.declaration).bits (declared_of v.declaration).bits t))

-- what is not large has small words
pub small_view : {records values : List ℕ} {p : ℕ} {b : Bool} → ((v : View records values p) → b ≡ is_large (declared_of v.declaration)) → b ≡ false
    → View records values p → SmallView records values p
small_view large n v =
    record {
      view = v;
      small = (both_false (large_bits (declared_of v.declaration).bits) (large_words (declared_of v.declaration).words) (sym (large v) ∙ n)).1;
    }
