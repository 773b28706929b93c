-- Laws of names of bits: how many they show, and which is the lowest.
-- Assumes nothing.
use Rattle.std.specs.Prelude.{ℕ, ◌+◌, ◌-◌, ◌<◌, ◌≤◌, ◌≡◌, Bool}
use Rattle.std.proofs.Math.Path.{refl, sym}
use Rattle.std.proofs.Common.{ap, ◌∙◌, le-leb}
use Rattle.std.proofs.Math.Bool.{true, false}
use native.Mathlib.Omega.{arith}
use Rattle.std.proofs.lemmas.Bool.{lt-leb}
use Rattle.rules.specs.Declarations.{names, how_many, from_right, one_unnamed, these, bit_count, low_bit}
use Rattle.rules.specs.Limits.{most_words}
use Rattle.table.specs.declared.views.Names.{Names}
use Rattle.table.specs.declared.views.Names.TheVariants.{Missing, Unnamed, Span}
use Rattle.places.specs.Spans.{ManyIn, LowIn}

clash : {A : Type 0} → ◌≡◌ {A = ℕ} 0 1 → A
clash e = absurd (omega arith)

module _ {x : Names} where
  pub many_missing : x ≡ Missing → ManyIn x 0
  many_missing m one_unnamed e h = clash (cc)
  many_missing m (these s) e h = clash (cc)

  pub many_unnamed : x ≡ Unnamed → ManyIn x 1
  unfolding bit_count
  many_unnamed m one_unnamed e h = refl
  many_unnamed m (these s) e h = clash (cc)

  pub many_span : {l r n : ℕ} → x ≡ Span l r → (how_many (names l r) ≤ most_words → n ≡ how_many (names l r)) → ManyIn x n
  unfolding bit_count how_many
  many_span m f one_unnamed e h = clash (cc)
  many_span {l} {r} m f (these s) e h =
      let p : l ≡ s.left = cc in
      let q : r ≡ s.right = cc in
      (rw (p, q) at f) h

  pub low_missing : {right : ℕ} → x ≡ Missing → LowIn x right 0
  low_missing m one_unnamed s e h = clash (cc)
  low_missing m (these t) s e h = clash (cc)

  pub low_unnamed : {right : ℕ} → x ≡ Unnamed → LowIn x right 0
  unfolding low_bit
  low_unnamed m one_unnamed s e h = refl
  low_unnamed m (these t) s e h = clash (cc)

  pub low_span : {l r right d : ℕ} → x ≡ Span l r → d ≡ from_right (names l r) right → LowIn x right d
  unfolding low_bit from_right
  low_span m f one_unnamed s e h = clash (cc)
  low_span {l} {r} m f (these t) s e h =
      let p : l ≡ t.left = cc in
      let q : r ≡ t.right = cc in
      rw (h, p, q) at f

-- how many, and how far from the right, by the order of the names
module _ (l r : ℕ) where
  pub many_up : {n : ℕ} → l ≤ r → (r - l < most_words → n ≡ r - l + 1) → how_many (names l r) ≤ most_words → n ≡ how_many (names l r)
  unfolding how_many
  many_up h f k = f (omega arith) ∙ omega arith

  pub many_down : {n : ℕ} → r < l → (l - r < most_words → n ≡ l - r + 1) → how_many (names l r) ≤ most_words → n ≡ how_many (names l r)
  unfolding how_many
  many_down h f k = f (omega arith) ∙ omega arith

  module _ (n : ℕ) where
    pub right_up : l ≤ r → r - n ≡ from_right (names l r) n
    unfolding from_right
    right_up h = sym (ap (λ (t : Bool). elim t [ true ↦ r - n | false ↦ n - r ]) (le-leb l r h))

    pub right_down : r < l → n - r ≡ from_right (names l r) n
    unfolding from_right
    right_down h = sym (ap (λ (t : Bool). elim t [ true ↦ r - n | false ↦ n - r ]) (lt-leb l r h))
