-- Laws of kinds in an expression: their numbers say what the kinds do.
-- Assumes nothing.
use Rattle.std.specs.Prelude.{ℕ, zero, suc, ◌<◌, ◌≡◌, refl, Bool, true, false, ◌&&◌, ◌||◌, eqb, length}
use Rattle.std.proofs.Common.{sym, ap, ◌∙◌, arith, eqb-true, eq-eqb, ne_eqb}
use Rattle.std.proofs.Math.Decide.{dec_lt}
use Rattle.std.proofs.Math.ListN.{get_or-eq_default}
use Rattle.rules.specs.Text.Tokens.{Kind, kind_no, same, Name, LBra, Less, Op, op_kind}
use Rattle.laws_grammar.specs.Cited.Kinds.{kinds, kind_at}
use Rattle.laws_grammar.specs.Grammar.Kinds.{kind_at_kind_no}
use Rattle.values.specs.Operators.{op_at}
use Rattle.table.specs.Operators.{tightness_at, ends_expression}
use Rattle.table.specs.Laws.Operators.{both_true}

-- A kind that binds is an operator's: a test of every number of a kind.
binds : ℕ → Bool
binds k = eqb (tightness_at k) 0 || eqb (kind_no (op_kind (op_at k))) k

unfoldable all_bind : ℕ → Bool
all_bind zero = true
all_bind (suc n) = binds n && all_bind n

bind_at : (n k : ℕ) → all_bind n ≡ true → k < n → binds k ≡ true
unfolding all_bind
bind_at zero k e h = absurd (omega arith)
bind_at (suc n) k e h = let b = both_true (binds n) (all_bind n) e in go b.0 (bind_at n k b.1) (dec_lt k n)
  where
    go : binds n ≡ true → (k < n → binds k ≡ true) → Dec (k < n) → binds k ≡ true
    go last below (yes l) = below l
    go last below (no g) = let q : k ≡ n = omega arith in rw q last

number_small : (k : Kind) → kind_no k < length kinds
number_small k = go (dec_lt (kind_no k) (length kinds))
  where
    go : Dec (kind_no k < length kinds) → kind_no k < length kinds
    go (yes l) = l
    go (no g) =
        let e : Name ≡ k = sym (get_or-eq_default kinds Name {n = kind_no k} (omega arith)) ∙ kind_at_kind_no k in
        omega (arith, ap kind_no e)

kind_binds : (k : Kind) → binds (kind_no k) ≡ true
unfolding binds all_bind op_at
kind_binds k = bind_at (length kinds) (kind_no k) refl (number_small k)

pub binds_nothing : (k : Kind) → ((o : Op) → k ≡ op_kind o → ⊥) → tightness_at (kind_no k) ≡ 0
unfolding binds
binds_nothing k none = either (eqb (tightness_at (kind_no k)) 0) refl (kind_binds k)
  where
    o : Op
    o = op_at (kind_no k)

    either : (t : Bool) → eqb (tightness_at (kind_no k)) 0 ≡ t → t || eqb (kind_no (op_kind o)) (kind_no k) ≡ true → tightness_at (kind_no k) ≡ 0
    either true e h = eqb-true _ _ e
    either false e h =
        absurd (none o (sym (kind_at_kind_no k) ∙ ap kind_at (sym (eqb-true (kind_no (op_kind o)) (kind_no k) h)) ∙ kind_at_kind_no (op_kind o)))

-- what ends an expression, by its facts
pub ends_here : (k : Kind) → ((o : Op) → k ≡ op_kind o → ⊥) → (k ≡ LBra → ⊥) → (k ≡ Less → ⊥) → ends_expression k ≡ true
ends_here k o l b =
    let differs : (m : Kind) → (k ≡ m → ⊥) → same k m ≡ false
    = λ m n. ne_eqb (kind_no k) (kind_no m) (λ e. n (sym (kind_at_kind_no k) ∙ ap kind_at e ∙ kind_at_kind_no m)) in
    rw (eq-eqb (tightness_at (kind_no k)) 0 (binds_nothing k o), differs LBra l, differs Less b)
