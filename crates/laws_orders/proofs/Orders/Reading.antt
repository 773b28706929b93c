-- What an expression gives depends only on the words of the carriers that it reads; what a destination's subscripts give, only on those of the carriers
-- that they read; and a destination lies in the words of the carriers that it is counted for.
use Prim.Native.Nat.{ℕ, ◌+◌}
use Rattle.std.specs.Prelude.{◌≡◌, true, false, eqb}
use Rattle.std.proofs.Math.Path.{refl, ap₂, subst}
use Rattle.std.proofs.Common.{sym, ◌∙◌, ap, inl, inr, eq-eqb}
use mathlib.Core.List.{List, [], ◌∷◌, ◌++◌}
use Rattle.std.proofs.Math.Option.{Option, none, some}
use Rattle.rules.specs.Text.Tokens.{Info}
use Rattle.rules.specs.Grammar.Trees.{Bits}
use Rattle.rules.specs.Grammar.Precedence.{Expr, leaf, node, Factor, number, cell, group, Index, no_index, index}
use Rattle.rules.specs.Grammar.Precedence.{inverse as inverse_factor}
use Rattle.rules.specs.Values.{operate, inverse}
use Rattle.rules.specs.Declarations.{Table, Reach, reach, access_low, access_bits}
use Rattle.rules.specs.Steps.Actions.{Access}
use Rattle.rules.specs.Steps.Evaluation.{Carriers, Outcome, gives, faulty, then, Field, word_of, field_in, field_of, read_field}
use Rattle.rules.specs.Steps.Evaluation.{evaluate, evaluate_factor, evaluate_index, evaluate_access, evaluate_accesses}
use Rattle.rules.specs.Whole.Sets.{owner, owner_in, reads_of, factor_reads, index_reads_of, subscript_reads, stores, member}
use Rattle.laws_orders.proofs.Orders.Foot.{Cells}
use Rattle.laws_orders.proofs.Orders.Effect.{Agree}
use Rattle.laws_orders.proofs.Orders.Tests.{impossible, or_left, member_left, member_right}
use Rattle.laws_orders.proofs.Orders.Owners.{owner_at, owned}
use Rattle.laws_orders.proofs.Orders.Fields.{word, Lands, AllLand, lands_more, all_land_more, read_agrees}

-- the words of some carriers
abbrev pub words_in : Table → List ℕ → Cells
words_in ds cs w = member (owner_at ds w) cs

-- what follows a step that gave something, and one that is followed by the same
pub then_same : {A B : Type 0} (x : Outcome A) (f g : A → Outcome B) → ((a : A) → x ≡ gives a → f a ≡ g a) → then x f ≡ then x g
unfolding then
then_same (gives a) f g h = h a refl
then_same (faulty m p) f g h = refl

pub then_gave : {A B : Type 0} (x : Outcome A) (f : A → Outcome B) (b : B) → then x f ≡ gives b → (a : A) × (x ≡ gives a) × (f a ≡ gives b)
unfolding then
then_gave (gives a) f b h = (a, refl, h)
then_gave (faulty m p) f b h = impossible (cc)

module _ (ds : Table) where
  pub field_lands : (i : Info) (b : Bits) (n : ℕ) (f : Field) → field_of ds i b n ≡ gives f → Lands (words_in ds (owner ds i.word)) f
  unfolding field_of field_in owner member
  field_lands i b n f h = by (reach ds i.word) refl h
    where
      there : Reach → ℕ → Field
      there r k = record { word = r.first + k; low = access_low r b; size = access_bits r b }

      landed :
          (r : Reach) → reach ds i.word ≡ some r → (k : ℕ) × (word_of i.place r.words n ≡ gives k) × (gives (there r k) ≡ gives f)
          → words_in ds (r.owner ∷ []) f.word ≡ true
      landed r e k =
          let q : there r k.0 ≡ f = cc in
          or_left (eqb (owner_at ds f.word) r.owner) false
          (eq-eqb (owner_at ds f.word) r.owner (ap (λ x. owner_at ds x.word) (sym q) ∙ owned ds i.word r i.place n k.0 e k.1))

      by :
          (o : Option Reach) → reach ds i.word ≡ o
          → (elim o [ none ↦ gives (record { word = 0; low = 0; size = 0 }) | some r ↦ field_in i b r n ]) ≡ gives f → Lands (words_in ds (owner_in o)) f
      by none e z = let q : record { word = 0; low = 0; size = 0 } ≡ f = cc in inl (ap (λ x. x.size) (sym q))
      by (some r) e z = inr (landed r e (then_gave (word_of i.place r.words n) (λ k. gives (there r k)) f z))

  -- an expression on two lists of carriers
  module _ (s u : Carriers) where
    abbrev pub Alike : List ℕ → Type 0
    Alike cs = Agree word (words_in ds cs) s u

    pub alike_left : (xs ys : List ℕ) → Alike (xs ++ ys) → Alike xs
    alike_left xs ys a i h = a i (member_left (owner_at ds i) xs ys h)

    pub alike_right : (xs ys : List ℕ) → Alike (xs ++ ys) → Alike ys
    alike_right xs ys a i h = a i (member_right (owner_at ds i) xs ys h)

    mutual
      unfolding evaluate evaluate_factor evaluate_index reads_of factor_reads index_reads_of

      pub evaluate_agrees : (e : Expr) → Alike (reads_of ds e) → evaluate ds s e ≡ evaluate ds u e
      evaluate_agrees (leaf f) a = factor_agrees f a
      evaluate_agrees (node o i l r) a =
          ap₂ (λ x y. then x (λ v. then y (λ w. gives (operate o v w))))
          (evaluate_agrees l (alike_left (reads_of ds l) (reads_of ds r) a)) (evaluate_agrees r (alike_right (reads_of ds l) (reads_of ds r) a))

      factor_agrees : (f : Factor) → Alike (factor_reads ds f) → evaluate_factor ds s f ≡ evaluate_factor ds u f
      factor_agrees (number i) a = refl
      factor_agrees (cell i x b) a =
          ap (λ z. then z (λ n. then (field_of ds i b n) (λ f. gives (read_field s f))))
          (index_agrees x (alike_left (index_reads_of ds x) (owner ds i.word) a))
          ∙ then_same (evaluate_index ds u x) _ _ (λ n q. then_same (field_of ds i b n) _ _ (λ f p.
          ap gives (read_agrees (words_in ds (owner ds i.word)) s u f (field_lands i b n f p) (alike_right (index_reads_of ds x) (owner ds i.word) a))))
      factor_agrees (group l e r) a = evaluate_agrees e a
      factor_agrees (inverse_factor i f) a = ap (λ z. then z (λ x. gives (inverse x))) (factor_agrees f a)

      index_agrees : (x : Index) → Alike (index_reads_of ds x) → evaluate_index ds s x ≡ evaluate_index ds u x
      index_agrees no_index a = refl
      index_agrees (index l e r) a = ap (λ z. then z (λ x. gives x.number)) (evaluate_agrees e a)

    pub accesses_agree : (d : List Access) → Alike (subscript_reads ds d) → evaluate_accesses ds s d ≡ evaluate_accesses ds u d
    unfolding evaluate_accesses evaluate_access subscript_reads
    accesses_agree [] a = refl
    accesses_agree (x ∷ d) a =
        ap₂ (λ y z. then (then y (λ n. field_of ds x.name x.bits n)) (λ f. then z (λ fs. gives (f ∷ fs))))
        (index_agrees x.index (alike_left (index_reads_of ds x.index) (subscript_reads ds d) a))
        (accesses_agree d (alike_right (index_reads_of ds x.index) (subscript_reads ds d) a))

  access_lands : (s : Carriers) (x : Access) (f : Field) → evaluate_access ds s x ≡ gives f → Lands (words_in ds (owner ds x.name.word)) f
  unfolding evaluate_access
  access_lands s x f h =
      let g = then_gave (evaluate_index ds s x.index) _ f h in
      field_lands x.name x.bits g.0 f g.2

  pub accesses_land : (s : Carriers) (d : List Access) (fs : List Field) → evaluate_accesses ds s d ≡ gives fs → AllLand (words_in ds (stores ds d)) fs
  unfolding evaluate_accesses stores
  accesses_land s [] fs h = let q : [] ≡ fs = cc in subst (AllLand (words_in ds [])) q tt
  accesses_land s (x ∷ d) fs h =
      let g = then_gave (evaluate_access ds s x) _ fs h in
      let k = then_gave (evaluate_accesses ds s d) _ fs g.2 in
      let q : g.0 ∷ k.0 ≡ fs = cc k.2 in
      let o : List ℕ = owner ds x.name.word in
      subst (AllLand (words_in ds (o ++ stores ds d))) q (
        lands_more (λ i p. member_left (owner_at ds i) o (stores ds d) p) g.0 (access_lands s x g.0 g.1),
        all_land_more (λ i p. member_right (owner_at ds i) o (stores ds d) p) k.0 (accesses_land s d k.0 k.1),
      )
