-- What is worked out of sound parts: numbers that fit their lengths, operands that an operator may have, bits of words that are there.
-- Assumes nothing.
use Rattle.std.specs.Prelude.{ℕ, ◌<◌, ◌≡◌, refl, List}
use Rattle.std.proofs.Math.Path.{sym, ap}
use Rattle.std.proofs.Common.{ap₂, ◌∙◌, subst, arith}
use Rattle.cells.specs.Cells as bytes
use Rattle.cells.proofs.Laws.{cells_get}
use Rattle.rules.specs.Text.Tokens.{Info, Op}
use Rattle.rules.specs.Grammar.Trees.{Bits, Subscript}
use Rattle.rules.specs.Grammar.Precedence.{Expr, node, Factor, cell, index_of}
use Rattle.rules.specs.Values.{Value, value, op_bits, op_number, operate, field}
use Rattle.rules.specs.Declarations.{Word, Table}
use Rattle.rules.specs.Steps.Actions.{Access, access}
use Rattle.rules.specs.Steps.Evaluation.{Carriers, Outcome, gives, faulty, then, Field, field_of, read_field, evaluate, evaluate_factor, evaluate_index, evaluate_access}
use Rattle.rules.specs.Faults.Bodies.{judge, judge_factor, judge_access}
use Rattle.laws_accepted.specs.Cited.Declared.{Declares, Length}
use Rattle.laws_accepted.specs.Cited.Constants.{InBits}
use Rattle.laws_accepted.specs.Cited.Lengths.{Sized, SizedFactor}
use Rattle.laws_accepted.proofs.Accepted.Lengths.{sized_length, factor_length}
use Rattle.laws_accepted.proofs.Accepted.Evaluated.{then_gives, ResultsFit, Inside, field_inside, evaluated, factor_evaluated}
use Rattle.values.specs.Operands.{Operands}
use Rattle.values.specs.Laws.Results.{result_fits}
use Rattle.operands.specs.Worths.{Within}

results : ResultsFit
results o m a n b p q = result_fits o (record { left = p; right = q })

-- a step that follows one, and is followed
pub then_then : {A B C : Type 0} (o : Outcome A) (f : A → Outcome B) (g : B → Outcome C) → then (then o f) g ≡ then o (λ a. then (f a) g)
unfolding then
then_then (gives a) f g = refl
then_then (faulty m p) f g = refl

module _ {outer : Word} {ds : Table} (h : Declares outer ds) (s : Carriers) where
  pub factor_bits : (f : Factor) (n x : ℕ) → SizedFactor outer ds f → evaluate_factor ds s f ≡ gives (value n x) → InBits n x
  factor_bits f n x q e =
      let w = factor_evaluated h results s f (value n x) q e in
      record { length = subst Length (sym w.length) (factor_length outer ds f q); fits = w.fits }

  pub tree_bits : (e : Expr) (n x : ℕ) → Sized outer ds e → evaluate ds s e ≡ gives (value n x) → InBits n x
  tree_bits e n x q c =
      let w = evaluated h results s e (value n x) q c in
      record { length = subst Length (sym w.length) (sized_length outer ds e q); fits = w.fits }

  -- an operator whose operands are worked out
  module _ (o : Op) (i : Info) (l r : Expr) (m a n b : ℕ) (left : evaluate ds s l ≡ gives (value m a)) (right : evaluate ds s r ≡ gives (value n b)) where
    pub node_comes : evaluate ds s (node o i l r) ≡ gives (value (op_bits o m n) (op_number o m a n b))
    unfolding evaluate then operate
    node_comes =
        ap (λ (x : Outcome Value). then x (λ x. then (evaluate ds s r) (λ y. gives (operate o x y)))) left
        ∙ ap (λ (y : Outcome Value). then y (λ y. gives (operate o (value m a) y))) right

    pub node_operands : Sized outer ds (node o i l r) → Operands o m a n b
    node_operands q =
        let x = tree_bits l m a q.1 left in
        let y = tree_bits r n b q.2 right in
        let same : op_bits o m n ≡ op_bits o (judge outer ds l).bits (judge outer ds r).bits
        = ap₂ (op_bits o) (evaluated h results s l (value m a) q.1 left).length (evaluated h results s r (value n b) q.2 right).length in
        record {
          some = omega (arith, x.length.some);
          fit = record { left = x.fits; right = y.fits };
          short = omega (arith, q.0.length.short);
        }

  -- an access whose subscript is worked out
  module _ (a : Access) (f : Field) (q : SizedFactor outer ds (cell a.name a.index a.bits)) (e : evaluate_access ds s a ≡ gives f) where
    inside : Inside ds (judge_access outer ds a.name a.index a.bits).bits f
    unfolding evaluate_access
    inside =
        let n = then_gives (evaluate_index ds s a.index) (λ n. field_of ds a.name a.bits n) f e in
        field_inside h a.name a.index a.bits n.0 f q.1 n.2

    pub access_within : Within ds f
    access_within = record {
      word = inside.word;
      some = omega (arith, inside.size, q.1.fitting.size, q.1.fitting.length.some);
      fits = inside.fits;
    }

    pub access_size : f.size ≡ (judge_factor outer ds (cell a.name a.index a.bits)).bits
    access_size = inside.size ∙ sym q.0

-- an access in an expression reads its bits
module _ (ds : Table) (s : Carriers) (i : Info) (t : Subscript) (b : Bits) where
  access_read : evaluate_factor ds s (cell i (index_of t) b) ≡ then (evaluate_access ds s (access i t b)) (λ f. gives (read_field s f))
  unfolding evaluate_factor evaluate_access access
  access_read = sym (then_then (evaluate_index ds s (index_of t)) (λ n. field_of ds i b n) (λ f. gives (read_field s f)))

  pub read_comes : (f : Field) → evaluate_access ds s (access i t b) ≡ gives f → evaluate_factor ds s (cell i (index_of t) b) ≡ gives (read_field s f)
  unfolding then
  read_comes f e = access_read ∙ ap (λ o. then o (λ f. gives (read_field s f))) e

  pub read_faults : (m p : ℕ) → evaluate_access ds s (access i t b) ≡ faulty m p → evaluate_factor ds s (cell i (index_of t) b) ≡ faulty m p
  unfolding then
  read_faults m p e = access_read ∙ ap (λ o. then o (λ f. gives (read_field s f))) e

-- a word of the carriers stands in their bytes
pub read_word : (n : ℕ) (c : List ℕ) (f : Field) → f.word < n
    → read_field (bytes.cells 8 n c) f ≡ value f.size (field f.low f.size (bytes.cell 8 c f.word))
read_word n c f h = ap (λ w. value f.size (field f.low f.size w)) (cells_get 8 n c f.word h)
