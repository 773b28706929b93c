-- What is worked out of a sound expression: a value of the length that it was judged to have, from bits of words that are there.
use Rattle.std.specs.Prelude.{ℕ, ◌+◌, ◌/◌, ◌^◌, ◌≤◌, ◌<◌, ◌≡◌, refl, get_or}
use Rattle.std.proofs.Math.Path.{sym, ap, subst}
use Rattle.std.proofs.Common.{◌∙◌, ap₂, mod-lt, pow_pos}
use Rattle.std.proofs.Math.Option.{Option, none, some}
use Rattle.std.proofs.Math.Pow.{ones_sub-lt}
use Rattle.rules.specs.Text.Tokens.{Info, Op}
use Rattle.rules.specs.Grammar.Trees.{Bits}
use Rattle.rules.specs.Grammar.Precedence.{Expr, leaf, node, Factor, number, cell, group, inverse as inverse_factor, Index}
use Rattle.rules.specs.Values.{Value, value, op_bits, op_number, operate, not_number, inverse, field}
use Rattle.rules.specs.Limits.{most_bits}
use Rattle.rules.specs.Declarations.{Word, Table, total_words, Reach, access_low, access_bits}
use Rattle.rules.specs.Steps.Evaluation.{Carriers, Outcome, gives, faulty, then, Field, word_of, field_in, field_of, read_field, evaluate, evaluate_factor, evaluate_index}
use Rattle.rules.specs.Faults.Bodies.{judge, judge_factor, judge_access}
use Rattle.laws_orders.proofs.Orders.Tests.{impossible}
use Rattle.laws_accepted.specs.Cited.Declared.{Declares}
use Rattle.laws_accepted.proofs.Accepted.Within.{reach_inside}
use Rattle.laws_accepted.specs.Cited.Lengths.{Reaches, Sized, SizedFactor}

-- what follows a step of working out was given what that step gave
pub then_gives : {A B : Type 0} (o : Outcome A) (f : A → Outcome B) (b : B) → then o f ≡ gives b → (a : A) × (o ≡ gives a) × (f a ≡ gives b)
unfolding then
then_gives (gives a) f b e = (a, refl, e)
then_gives (faulty m p) f b e = impossible (cc)

-- a value of n bits
pub record Worth (n : ℕ) (v : Value) : Type 0 where
  pub length : v.bits ≡ n
  pub fits : v.number < 2 ^ v.bits

-- the operators' results fit their lengths
abbrev pub ResultsFit : Type 0
ResultsFit = (o : Op) (m a n b : ℕ) → a < 2 ^ m → b < 2 ^ n → op_number o m a n b < 2 ^ op_bits o m n

-- n bits of a word that is there, inside the word
pub record Inside (ds : Table) (n : ℕ) (f : Field) : Type 0 where
  pub word : f.word < total_words ds
  pub size : f.size ≡ n
  pub fits : f.low + f.size ≤ most_bits

read_worth : (s : Carriers) (f : Field) → Worth f.size (read_field s f)
unfolding field
read_worth s f = record { length = refl; fits = mod-lt (get_or s f.word 0 / 2 ^ f.low) (pow_pos f.size) }

inverse_worth : (n : ℕ) (x : Value) → Worth n x → Worth n (inverse x)
unfolding inverse not_number
inverse_worth n x w = record { length = w.length; fits = ones_sub-lt x.bits x.number }

operate_worth : ResultsFit → (o : Op) (m n : ℕ) (x y : Value) → Worth m x → Worth n y → Worth (op_bits o m n) (operate o x y)
unfolding operate
operate_worth results o m n x y v w =
    record { length = ap₂ (op_bits o) v.length w.length; fits = results o x.bits x.number y.bits y.number v.fits w.fits }

module _ {outer : Word} {ds : Table} (h : Declares outer ds) where
  -- the bits that an access stands for, whatever its subscript comes to
  pub field_inside :
      (i : Info) (x : Index) (b : Bits) (n : ℕ) (f : Field) → Reaches outer ds i x b → field_of ds i b n ≡ gives f
      → Inside ds (judge_access outer ds i x b).bits f
  unfolding field_of field_in
  field_inside i x b n f q e =
      let r = q.reached in
      let as_reached : field_in i b r n ≡ gives f
      = ap (λ (o : Option Reach). elim o [ none ↦ gives (record { word = 0; low = 0; size = 0 }) | some r ↦ field_in i b r n ]) (sym q.found) ∙ e in
      let t = then_gives (word_of i.place r.words n) (λ k. gives (record { word = r.first + k; low = access_low r b; size = access_bits r b })) f as_reached in
      let it : record { word = r.first + t.0; low = access_low r b; size = access_bits r b } ≡ f = cc t.2 in
      subst (Inside ds (judge_access outer ds i x b).bits) it
      (record { word = reach_inside h i.word r i.place n t.0 q.found t.1; size = sym q.fitting.size; fits = q.fitting.fits })

  module _ (results : ResultsFit) (s : Carriers) where
    mutual
      unfolding judge judge_factor evaluate evaluate_factor

      pub evaluated : (e : Expr) (v : Value) → Sized outer ds e → evaluate ds s e ≡ gives v → Worth (judge outer ds e).bits v
      evaluated (leaf f) v q e = factor_evaluated f v q e
      evaluated (node o i l r) v q e =
          let x = then_gives (evaluate ds s l) (λ x. then (evaluate ds s r) (λ y. gives (operate o x y))) v e in
          let y = then_gives (evaluate ds s r) (λ y. gives (operate o x.0 y)) v x.2 in
          let it : operate o x.0 y.0 ≡ v = cc y.2 in
          let w =
          operate_worth results o (judge outer ds l).bits (judge outer ds r).bits x.0 y.0 (evaluated l x.0 q.1 x.1)
          (evaluated r y.0 q.2 y.1) in
          subst (Worth (judge outer ds (node o i l r)).bits) it (subst (λ n. Worth n (operate o x.0 y.0)) (sym q.0.size) w)

      pub factor_evaluated : (f : Factor) (v : Value) → SizedFactor outer ds f → evaluate_factor ds s f ≡ gives v → Worth (judge_factor outer ds f).bits v
      factor_evaluated (number i) v q e =
          let it : value i.bits i.value ≡ v = cc in subst (Worth i.bits) it (record { length = refl; fits = q.fits })
      factor_evaluated (cell i x b) v q e =
          let n = then_gives (evaluate_index ds s x) (λ n. then (field_of ds i b n) (λ f. gives (read_field s f))) v e in
          let f = then_gives (field_of ds i b n.0) (λ f. gives (read_field s f)) v n.2 in
          let it : read_field s f.0 ≡ v = cc f.2 in
          let size = (field_inside i x b n.0 f.0 q.1 f.1).size ∙ sym q.0 in
          subst (Worth (judge_factor outer ds (cell i x b)).bits) it (subst (λ n. Worth n (read_field s f.0)) size (read_worth s f.0))
      factor_evaluated (group l x r) v q e = evaluated x v q e
      factor_evaluated (inverse_factor i f) v q e =
          let x = then_gives (evaluate_factor ds s f) (λ x. gives (inverse x)) v e in
          let it : inverse x.0 ≡ v = cc x.2 in
          subst (Worth (judge_factor outer ds f).bits) it (inverse_worth (judge_factor outer ds f).bits x.0 (factor_evaluated f x.0 q x.1))
