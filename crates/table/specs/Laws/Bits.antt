-- Laws of bits in a table: they take as many tokens as their size says, and the kinds at fixed distances say which they are.
-- Assumes nothing.
use Rattle.std.specs.Prelude.{ℕ, ◌+◌, ◌<◌, ◌≤◌, ◌≡◌, refl, List, ◌∷◌, length, drop}
use Rattle.std.proofs.Common.{sym, ap, ◌∙◌, arith, length-drop}
use Rattle.rules.specs.Text.Tokens.{Less, Info, Greater, Const, Colon, kind_no}
use Rattle.rules.specs.Grammar.Trees.{Tokens, bit, upto, Bits, all_bits, bits, bits_tokens, unnamed, named, MainBits, bitless, main_bits, main_bits_tokens}
use Rattle.rules.specs.Declarations.{main_names}
use Rattle.laws_grammar.specs.Cited.Kinds.{kind_at}
use Rattle.laws_grammar.specs.Grammar.Kinds.{kind_at_kind_no}
use Rattle.records.specs.Holds.{kind_byte, value_cell_of, Holds}
use Rattle.table.specs.Laws.Positions.{kind_far, value_far}
use Rattle.table.specs.Shown.{shown_bits}
use Rattle.table.specs.declared.views.Names.TheVariants.{Missing, Unnamed, Span}
use Rattle.table.specs.Bits.{access_bits, bits_size, BitsView}

pub access_bits_lem : (b : Bits) (ts : Tokens) → bits_tokens b ts ≡ main_bits_tokens (access_bits b) ts
access_bits_lem all_bits ts = refl
access_bits_lem (bits l n e) ts = refl

pub bits_length : (b : MainBits) (ts : Tokens) → length (main_bits_tokens b ts) ≡ bits_size b + length ts
bits_length bitless ts = omega arith
bits_length (main_bits l (unnamed g)) ts = omega arith
bits_length (main_bits l (named n (bit g))) ts = omega arith
bits_length (main_bits l (named n (upto c m g))) ts = omega arith

-- what the table shows of bits at p
pub data Seen (records values : List ℕ) (p : ℕ) : MainBits → Type 0 where
  seen_none : (kind_byte records p ≡ kind_no Less → ⊥) → Seen records values p bitless
  seen_unnamed : {l g : Info} → kind_byte records p ≡ kind_no Less → kind_byte records (p + 1) ≡ kind_no Greater → Seen records values p (main_bits l (unnamed g))
  seen_single : {l n g : Info} → kind_byte records p ≡ kind_no Less → kind_byte records (p + 1) ≡ kind_no Const → kind_byte records (p + 2) ≡ kind_no Greater
      → value_cell_of values (p + 1) ≡ n.value → Seen records values p (main_bits l (named n (bit g)))
  seen_pair : {l n c m g : Info} → kind_byte records p ≡ kind_no Less → kind_byte records (p + 1) ≡ kind_no Const → kind_byte records (p + 2) ≡ kind_no Colon
      → value_cell_of values (p + 1) ≡ n.value → value_cell_of values (p + 3) ≡ m.value → Seen records values p (main_bits l (named n (upto c m g)))

module _ {records values : List ℕ} {p : ℕ} (v : BitsView records values p) where
  pub seen : Seen records values p v.bits
  seen = go v.bits v.reads
    where
      h : Holds v.text records values v.tokens
      h = v.holds

      go : (b : MainBits) → drop p v.tokens ≡ main_bits_tokens b (v.next ∷ v.rest) → Seen records values p b
      go bitless e =
          seen_none (λ k. v.ends (sym (kind_at_kind_no v.next.kind) ∙ ap kind_at (sym (kind_far h p _ e p 0 (omega arith) (omega arith)) ∙ k)))
      go (main_bits l (unnamed g)) e = seen_unnamed (kind_far h p _ e p 0 (omega arith) (omega arith)) (kind_far h p _ e (p + 1) 1 refl (omega arith))
      go (main_bits l (named n (bit g))) e =
          seen_single (kind_far h p _ e p 0 (omega arith) (omega arith)) (kind_far h p _ e (p + 1) 1 refl (omega arith))
          (kind_far h p _ e (p + 2) 2 refl (omega arith)) (value_far h p _ e (p + 1) 1 refl (omega arith) refl)
      go (main_bits l (named n (upto c m g))) e =
          seen_pair (kind_far h p _ e p 0 (omega arith) (omega arith)) (kind_far h p _ e (p + 1) 1 refl (omega arith))
          (kind_far h p _ e (p + 2) 2 refl (omega arith)) (value_far h p _ e (p + 1) 1 refl (omega arith) refl)
          (value_far h p _ e (p + 3) 3 refl (omega arith) refl)

  pub bits_within : p + bits_size v.bits < length v.tokens
  bits_within = omega (arith, ap length v.reads, length-drop p v.tokens, bits_length v.bits (v.next ∷ v.rest))

-- the size by the kinds of the first three tokens, and the names by the size
module _ {records values : List ℕ} {p : ℕ} where
  pub size_open : {b : MainBits} {k : ℕ} → Seen records values p b → k ≡ kind_byte records p → k ≡ kind_no Less → 2 ≤ bits_size b
  size_open (seen_none s) e k = absurd (s (sym e ∙ k))
  size_open (seen_unnamed _ _) e k = omega arith
  size_open (seen_single _ _ _ _) e k = omega arith
  size_open (seen_pair _ _ _ _ _) e k = omega arith

  pub size_none : {b : MainBits} {k : ℕ} → Seen records values p b → k ≡ kind_byte records p → (k ≡ kind_no Less → ⊥) → 0 ≡ bits_size b
  size_none (seen_none s) e k = refl
  size_none (seen_unnamed s _) e k = absurd (k (e ∙ s))
  size_none (seen_single s _ _ _) e k = absurd (k (e ∙ s))
  size_none (seen_pair s _ _ _ _) e k = absurd (k (e ∙ s))

  pub size_unnamed : {b : MainBits} {k j : ℕ} → Seen records values p b → k ≡ kind_byte records p → k ≡ kind_no Less → j ≡ kind_byte records (p + 1) → j ≡ kind_no Greater
      → 2 ≡ bits_size b
  size_unnamed (seen_none s) e k f j = absurd (s (sym e ∙ k))
  size_unnamed (seen_unnamed _ _) e k f j = refl
  size_unnamed (seen_single _ s _ _) e k f j = absurd (omega arith)
  size_unnamed (seen_pair _ s _ _ _) e k f j = absurd (omega arith)

  module _ {b : MainBits} {k j i : ℕ} (s : Seen records values p b) (e : k ≡ kind_byte records p) (ke : k ≡ kind_no Less) (f : j ≡ kind_byte records (p + 1))
      (jn : j ≡ kind_no Greater → ⊥) (g : i ≡ kind_byte records (p + 2)) where
    pub size_pair : i ≡ 11 → 5 ≡ bits_size b
    size_pair ie = go s
      where
        go : {b : MainBits} → Seen records values p b → 5 ≡ bits_size b
        go (seen_none t) = absurd (t (sym e ∙ ke))
        go (seen_unnamed _ t) = absurd (jn (f ∙ t))
        go (seen_single _ _ t _) = absurd (omega arith)
        go (seen_pair _ _ _ _ _) = refl

    pub size_single : (i ≡ 11 → ⊥) → 3 ≡ bits_size b
    size_single n = go s
      where
        go : {b : MainBits} → Seen records values p b → 3 ≡ bits_size b
        go (seen_none t) = absurd (t (sym e ∙ ke))
        go (seen_unnamed _ t) = absurd (jn (f ∙ t))
        go (seen_single _ _ _ _) = refl
        go (seen_pair _ _ t _ _) = absurd (n (g ∙ t))

  pub names_none : {b : MainBits} {n : ℕ} → Seen records values p b → n ≡ bits_size b → n ≡ 0 → Missing ≡ shown_bits (main_names b)
  names_none (seen_none _) e z = refl
  names_none (seen_unnamed _ _) e z = absurd (omega arith)
  names_none (seen_single _ _ _ _) e z = absurd (omega arith)
  names_none (seen_pair _ _ _ _ _) e z = absurd (omega arith)

  pub names_unnamed : {b : MainBits} {n : ℕ} → Seen records values p b → n ≡ bits_size b → n ≡ 2 → Unnamed ≡ shown_bits (main_names b)
  names_unnamed (seen_none _) e z = absurd (omega arith)
  names_unnamed (seen_unnamed _ _) e z = refl
  names_unnamed (seen_single _ _ _ _) e z = absurd (omega arith)
  names_unnamed (seen_pair _ _ _ _ _) e z = absurd (omega arith)

  pub names_single : {b : MainBits} {n x : ℕ} → Seen records values p b → n ≡ bits_size b → n ≡ 3 → x ≡ value_cell_of values (p + 1)
      → Span x x ≡ shown_bits (main_names b)
  names_single (seen_none _) e z f = absurd (omega arith)
  names_single (seen_unnamed _ _) e z f = absurd (omega arith)
  names_single (seen_single _ _ _ w) e z f = rw (f ∙ w)
  names_single (seen_pair _ _ _ _ _) e z f = absurd (omega arith)

  pub size_last : {b : MainBits} {n : ℕ} → Seen records values p b → n ≡ bits_size b → (n ≡ 0 → ⊥) → (n ≡ 2 → ⊥) → (n ≡ 3 → ⊥) → n ≡ 5
  size_last (seen_none _) e x y z = absurd (x e)
  size_last (seen_unnamed _ _) e x y z = absurd (y e)
  size_last (seen_single _ _ _ _) e x y z = absurd (z e)
  size_last (seen_pair _ _ _ _ _) e x y z = e

  pub names_pair : {b : MainBits} {n x y : ℕ} → Seen records values p b → n ≡ bits_size b → n ≡ 5 → x ≡ value_cell_of values (p + 1)
      → y ≡ value_cell_of values (p + 3) → Span x y ≡ shown_bits (main_names b)
  names_pair (seen_none _) e z f g = absurd (omega arith)
  names_pair (seen_unnamed _ _) e z f g = absurd (omega arith)
  names_pair (seen_single _ _ _ _) e z f g = absurd (omega arith)
  names_pair (seen_pair _ _ _ w u) e z f g = rw (f ∙ w, g ∙ u)
