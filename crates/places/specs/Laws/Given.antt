-- Laws of the names of an access's bits, by the kinds at fixed distances.
-- Assumes nothing.
use Rattle.std.specs.Prelude.{ℕ, ◌+◌, ◌<◌, ◌≤◌, ◌≡◌, refl, List, length, drop}
use Rattle.std.proofs.Common.{sym, ap, ◌∙◌, arith, length-drop}
use Rattle.rules.specs.Text.Tokens.{kind_no, Less, Colon}
use Rattle.rules.specs.Grammar.Trees.{Tokens, bit, upto, all_bits, bits}
use Rattle.laws_grammar.specs.Cited.Kinds.{kind_at}
use Rattle.laws_grammar.specs.Grammar.Kinds.{kind_at_kind_no}
use Rattle.records.specs.Holds.{kind_byte, value_cell_of}
use Rattle.table.specs.Laws.Positions.{kind_far, value_far}
use Rattle.table.specs.declared.views.Names.TheVariants.{Missing, Span}
use Rattle.promise.specs.Accesses.{EndsAccess}
use Rattle.places.specs.Valued.{Valued}
use Rattle.places.specs.Given.{GivenNames}

module _ {records values : List ℕ} {n : ℕ} (p : ℕ) (v : Valued records values n) where
  room : (xs : Tokens) → drop p v.tokens ≡ xs → p ≤ n → p + length xs ≡ n
  room xs e h = omega (arith, v.count, ap length e, length-drop p v.tokens)

  -- no bits, since too few tokens are left or no `<` is there
  pub given_short : p ≤ n → n < p + 4 → GivenNames v.tokens p Missing
  given_short h s all_bits rest e x = refl
  given_short h s (bits l a (bit g)) rest e x = absurd (omega (arith, room _ e h, ap length x.is))
  given_short h s (bits l a (upto c m g)) rest e x = absurd (omega (arith, room _ e h, ap length x.is))

  pub given_none : {k : ℕ} → k ≡ kind_byte records p → (k ≡ kind_no Less → ⊥) → GivenNames v.tokens p Missing
  given_none q f all_bits rest e x = refl
  given_none q f (bits l a (bit g)) rest e x = absurd (f (q ∙ kind_far v.holds p _ e p 0 (omega arith) (omega arith)))
  given_none q f (bits l a (upto c m g)) rest e x = absurd (f (q ∙ kind_far v.holds p _ e p 0 (omega arith) (omega arith)))

  module _ {k a j : ℕ} (q : k ≡ kind_byte records p) (less : k ≡ kind_no Less) (first : a ≡ value_cell_of values (p + 1)) (t : j ≡ kind_byte records (p + 2)) where
    no_bits : (rest : Tokens) → drop p v.tokens ≡ rest → EndsAccess rest → ⊥
    no_bits rest e x =
        x.no_bits (sym (kind_at_kind_no x.next.kind) ∙ ap kind_at (sym (kind_far v.holds p _ (e ∙ x.is) p 0 (omega arith) (omega arith)) ∙ (sym q ∙ less)))

    pub given_one : (j ≡ kind_no Colon → ⊥) → GivenNames v.tokens p (Span a a)
    given_one f all_bits rest e x = absurd (no_bits rest e x)
    given_one f (bits l y (bit g)) rest e x = ap (λ z. Span z z) (first ∙ value_far v.holds p _ e (p + 1) 1 refl (omega arith) refl)
    given_one f (bits l y (upto c m g)) rest e x = absurd (f (t ∙ kind_far v.holds p _ e (p + 2) 2 refl (omega arith)))

    pub given_two : {b : ℕ} → j ≡ kind_no Colon → b ≡ value_cell_of values (p + 3) → GivenNames v.tokens p (Span a b)
    given_two f second all_bits rest e x = absurd (no_bits rest e x)
    given_two f second (bits l y (bit g)) rest e x =
        absurd (omega (arith, kind_far v.holds p _ e (p + 2) 2 refl (omega arith)))
    given_two f second (bits l y (upto c m g)) rest e x =
        rw (first ∙ value_far v.holds p _ e (p + 1) 1 refl (omega arith) refl, second ∙ value_far v.holds p _ e (p + 3) 3 refl (omega arith) refl)
