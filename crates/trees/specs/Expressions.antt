-- The tokens of expressions and destinations. Who reads them passes operands at the depths `deep m`, and bits at every depth.
use Rattle.std.specs.Prelude.{ℕ, ◌≡◌, List, [], ◌∷◌, map, get_or, drop}
use Rattle.std.proofs.Common.{ap}
use Rattle.rules.specs.Text.Tokens.{Kind, Info, tk, Op, op_kind, join, plus, minus, eql, neq, lss, leq, gtr, geq, and, eqv, or, xor}
use Rattle.rules.specs.Text.Tokens.{Name, Const, LPar, RPar, LBra, RBra, Less, Greater, Colon, At, Plus, Minus, NOT, AND, EQV, OR, XOR, EQL, NEQ, LSS, LEQ, GTR, GEQ}
use Rattle.rules.specs.Grammar.Trees.{Tokens, BitsEnd, bit, upto, bits_end_tokens, Bits, all_bits, bits, bits_tokens}
use Rattle.rules.specs.Grammar.Trees.{Operand, constant, access, parens, negated, operand_tokens, Tail, no_more, with_op, tail_tokens, Subscript, no_subscript, subscript, subscript_tokens}
use Rattle.rules.specs.Grammar.Trees.{Joined, alone, joined, joined_tokens, OwnBits, unnamed, named, own_bits_tokens, MainBits, bitless, main_bits, main_bits_tokens}
use Rattle.trees.specs.Written.{Written, nothing, token, then, alone as last, all_equal}

-- kinds that open and close nothing, names apart
pub data Inner : Kind → Type 0 where
  const : Inner Const
  less : Inner Less
  greater : Inner Greater
  colon : Inner Colon
  negation : Inner NOT
  operator : (o : Op) → Inner (op_kind o)

abbrev pub inner_kinds : List Kind
inner_kinds = Const ∷ Less ∷ Greater ∷ Colon ∷ NOT ∷ At ∷ Plus ∷ Minus ∷ EQL ∷ NEQ ∷ LSS ∷ LEQ ∷ GTR ∷ GEQ ∷ AND ∷ EQV ∷ OR ∷ XOR ∷ []

-- what is equal at all of them
pub inner_equal : {X : Type 0} (f g : Kind → X) → map f inner_kinds ≡ map g inner_kinds → {k : Kind} → Inner k → f k ≡ g k
inner_equal f g e const = ap (λ l. get_or l 0 (f Const)) e
inner_equal f g e less = ap (λ l. get_or l 1 (f Less)) e
inner_equal f g e greater = ap (λ l. get_or l 2 (f Greater)) e
inner_equal f g e colon = ap (λ l. get_or l 3 (f Colon)) e
inner_equal f g e negation = ap (λ l. get_or l 4 (f NOT)) e
inner_equal f g e (operator join) = ap (λ l. get_or l 5 (f At)) e
inner_equal f g e (operator plus) = ap (λ l. get_or l 6 (f Plus)) e
inner_equal f g e (operator minus) = ap (λ l. get_or l 7 (f Minus)) e
inner_equal f g e (operator eql) = ap (λ l. get_or l 8 (f EQL)) e
inner_equal f g e (operator neq) = ap (λ l. get_or l 9 (f NEQ)) e
inner_equal f g e (operator lss) = ap (λ l. get_or l 10 (f LSS)) e
inner_equal f g e (operator leq) = ap (λ l. get_or l 11 (f LEQ)) e
inner_equal f g e (operator gtr) = ap (λ l. get_or l 12 (f GTR)) e
inner_equal f g e (operator geq) = ap (λ l. get_or l 13 (f GEQ)) e
inner_equal f g e (operator and) = ap (λ l. get_or l 14 (f AND)) e
inner_equal f g e (operator eqv) = ap (λ l. get_or l 15 (f EQV)) e
inner_equal f g e (operator or) = ap (λ l. get_or l 16 (f OR)) e
inner_equal f g e (operator xor) = ap (λ l. get_or l 17 (f XOR)) e

-- `round` and `square` are the depths behind `(` and `[`
pub data Inside (deep round square : ℕ → ℕ) : ℕ → Kind → ℕ → Type 0 where
  inner : {k : Kind} → Inner k → (m : ℕ) → Inside deep round square m k m
  name : (m : ℕ) → Inside deep round square (deep m) Name (deep m)
  left : (m : ℕ) → Inside deep round square (deep m) LPar (deep (round m))
  right : (m : ℕ) → Inside deep round square (deep (round m)) RPar (deep m)
  open_index : (m : ℕ) → Inside deep round square m LBra (deep (square m))
  shut_index : (m : ℕ) → Inside deep round square (deep (square m)) RBra m

-- what is equal at all of their kinds
abbrev pub expression_kinds : List Kind
expression_kinds = Name ∷ LPar ∷ RPar ∷ LBra ∷ RBra ∷ inner_kinds

pub expression_equal : {X : Type 0} {deep round square : ℕ → ℕ} {l m : ℕ} {k : Kind} (f g : Kind → X) → map f expression_kinds ≡ map g expression_kinds
    → Inside deep round square l k m → f k ≡ g k
expression_equal f g e (inner h m) = inner_equal f g (ap (drop 5) e) h
expression_equal f g e (name m) = ap (λ l. get_or l 0 (f Name)) e
expression_equal f g e (left m) = ap (λ l. get_or l 1 (f LPar)) e
expression_equal f g e (right m) = ap (λ l. get_or l 2 (f RPar)) e
expression_equal f g e (open_index m) = ap (λ l. get_or l 3 (f LBra)) e
expression_equal f g e (shut_index m) = ap (λ l. get_or l 4 (f RBra)) e

abbrev pub Expressed : (ℕ → ℕ) → (ℕ → ℕ) → (ℕ → ℕ) → ℕ → (Tokens → Tokens) → ℕ → Type 0
Expressed deep round square = Written (Inside deep round square)

module _ {deep round square : ℕ → ℕ} where
  pub bits_end_written : (e : BitsEnd) (m : ℕ) → Expressed deep round square m (bits_end_tokens e) m
  bits_end_written (bit g) m = last (inner greater m) g
  bits_end_written (upto c n g) m = token (inner colon m) c (token (inner const m) n (last (inner greater m) g))

  pub bits_written : (b : Bits) (m : ℕ) → Expressed deep round square m (bits_tokens b) m
  bits_written all_bits m = nothing
  bits_written (bits l n e) m = token (inner less m) l (token (inner const m) n (bits_end_written e m))

  mutual
    pub operand_written : (o : Operand) (m : ℕ) → Expressed deep round square (deep m) (operand_tokens o) (deep m)
    operand_written (constant i) m = last (inner const (deep m)) i
    operand_written (access i s b) m = token (name m) i (then (subscript_written s (deep m)) (bits_written b (deep m)))
    operand_written (parens l o t r) m = token (left m) l (then (operand_written o (round m)) (then (tail_written t (round m)) (last (right m) r)))
    operand_written (negated i o) m = token (inner negation (deep m)) i (operand_written o m)

    pub tail_written : (t : Tail) (m : ℕ) → Expressed deep round square (deep m) (tail_tokens t) (deep m)
    tail_written no_more m = nothing
    tail_written (with_op op i o t) m = token (inner (operator op) (deep m)) i (then (operand_written o m) (tail_written t m))

    pub subscript_written : (s : Subscript) (m : ℕ) → Expressed deep round square m (subscript_tokens s) m
    subscript_written no_subscript m = nothing
    subscript_written (subscript l o t r) m =
        token (open_index m) l (then (operand_written o (square m)) (then (tail_written t (square m)) (last (shut_index m) r)))

  pub expression_written : (o : Operand) (t : Tail) (m : ℕ) → Expressed deep round square (deep m) (λ ts. operand_tokens o (tail_tokens t ts)) (deep m)
  expression_written o t m = then (operand_written o m) (tail_written t m)

  -- what stands behind the name of an access
  pub access_written : (s : Subscript) (b : Bits) (m : ℕ) → Expressed deep round square m (λ ts. subscript_tokens s (bits_tokens b ts)) m
  access_written s b m = then (subscript_written s m) (bits_written b m)

  pub joined_written : (j : Joined) (m : ℕ) → Expressed deep round square (deep m) (joined_tokens j) (deep m)
  joined_written alone m = nothing
  joined_written (joined a n s b j) m = token (inner (operator join) (deep m)) a (token (name m) n (then (access_written s b (deep m)) (joined_written j m)))

  pub own_bits_written : (o : OwnBits) (m : ℕ) → Expressed deep round square m (own_bits_tokens o) m
  own_bits_written (unnamed g) m = last (inner greater m) g
  own_bits_written (named n e) m = token (inner const m) n (bits_end_written e m)

  pub main_bits_written : (o : MainBits) (m : ℕ) → Expressed deep round square m (main_bits_tokens o) m
  main_bits_written bitless m = nothing
  main_bits_written (main_bits l o) m = token (inner less m) l (own_bits_written o m)

-- A READER whom none of them changes: to be shown by one `refl`
module _ {A : Type 0} (run : ℕ → Tokens → A) (deep round square : ℕ → ℕ) where
  abbrev X : Type 0
  X = ℕ → Info → Tokens → A

  abbrev pub Deaf : Type 0
  Deaf =
      ◌≡◌ {A = List X × X × X × X × X × X} (
        map (λ k m i ts. run m (tk k i ∷ ts)) inner_kinds,
        λ m i ts. run (deep m) (tk Name i ∷ ts),
        λ m i ts. run (deep m) (tk LPar i ∷ ts),
        λ m i ts. run (deep (round m)) (tk RPar i ∷ ts),
        λ m i ts. run m (tk LBra i ∷ ts),
        λ m i ts. run (deep (square m)) (tk RBra i ∷ ts),
      ) (
        map (λ k m i ts. run m ts) inner_kinds,
        λ m i ts. run (deep m) ts,
        λ m i ts. run (deep (round m)) ts,
        λ m i ts. run (deep m) ts,
        λ m i ts. run (deep (square m)) ts,
        λ m i ts. run m ts,
      )

  step_passed : Deaf → (l m : ℕ) (k : Kind) → Inside deep round square l k m → (i : Info) (ts : Tokens) → run l (tk k i ∷ ts) ≡ run m ts
  step_passed e l n k (inner h m) i ts = ap (λ (f : X). f m i ts) (inner_equal (λ k m i ts. run m (tk k i ∷ ts)) (λ k m i ts. run m ts) (ap (λ p. p.0) e) h)
  step_passed e l n k (name m) i ts = ap (λ p. p.1 m i ts) e
  step_passed e l n k (left m) i ts = ap (λ p. p.2 m i ts) e
  step_passed e l n k (right m) i ts = ap (λ p. p.3 m i ts) e
  step_passed e l n k (open_index m) i ts = ap (λ p. p.4 m i ts) e
  step_passed e l n k (shut_index m) i ts = ap (λ p. p.5 m i ts) e

  pub passes : {m n : ℕ} {f : Tokens → Tokens} → Deaf → Expressed deep round square m f n → (ts : Tokens) → run m (f ts) ≡ run n ts
  passes e = all_equal run (step_passed e)
