-- Constants of 1 to 64 bits: in tokens, and so in the expressions that they stand for.
use Rattle.std.specs.Prelude.{◌≡◌, refl, List, [], ◌∷◌, ◌++◌}
use Rattle.std.proofs.Common.{subst}
use Rattle.rules.specs.Text.Tokens.{Info, tk, Const, RPar, RBra}
use Rattle.rules.specs.Grammar.Trees.{Tokens, bits_tokens, Operand, constant, access, parens, negated, operand_tokens, Tail, no_more, with_op, tail_tokens, Subscript, no_subscript, subscript, subscript_tokens}
use Rattle.rules.specs.Grammar.Precedence.{Expr, leaf, node, Factor, number, cell, group, inverse, Index, no_index, index, Link, insert_by, insert, inserts, arrange, tightness, factor_of, links_of, index_of, expr_of}
use Rattle.std.proofs.Math.Decide.{dec_lt}
use Rattle.laws_grammar.specs.Grammar.Positions.{Writes, operand_writes}
use Rattle.laws_accepted.specs.Cited.Constants.{InBits}

abbrev pub ConstantOk : Info → Type 0
ConstantOk i = InBits i.bits i.value

-- every constant among tokens is so
abbrev pub ConstantsOk : Tokens → Type 0
ConstantsOk [] = Unit {0}
ConstantsOk (t ∷ ts) = (t.kind ≡ Const → ConstantOk t.info) × ConstantsOk ts

-- every constant in an expression is so
abbrev mutual
  pub BitsOk : Expr → Type 0
  BitsOk (leaf f) = FactorOk f
  BitsOk (node o i l r) = BitsOk l × BitsOk r

  pub FactorOk : Factor → Type 0
  FactorOk (number i) = ConstantOk i
  FactorOk (cell i x b) = IndexOk x
  FactorOk (group l e r) = BitsOk e
  FactorOk (inverse i f) = FactorOk f

  pub IndexOk : Index → Type 0
  IndexOk no_index = Unit {0}
  IndexOk (index l e r) = BitsOk e

abbrev LinksOk : List Link → Type 0
LinksOk [] = Unit {0}
LinksOk (k ∷ ks) = FactorOk k.factor × LinksOk ks

insert_by_ok : {P : Type 0} (d : Dec P) (a b : Expr) → BitsOk a → BitsOk b → BitsOk (insert_by d a b)
unfolding insert_by
insert_by_ok (yes _) a b p q = p
insert_by_ok (no _) a b p q = q

insert_ok : (e : Expr) (k : Link) → BitsOk e → FactorOk k.factor → BitsOk (insert e k)
unfolding insert
insert_ok (leaf f) k p q = (p, q)
insert_ok (node o i l r) k p q = insert_by_ok (dec_lt (tightness o) (tightness k.op)) _ _ (p.0, insert_ok r k p.1 q) (p, q)

inserts_ok : (e : Expr) (ks : List Link) → BitsOk e → LinksOk ks → BitsOk (inserts e ks)
unfolding inserts
inserts_ok e [] p q = p
inserts_ok e (k ∷ ks) p q = inserts_ok (insert e k) ks (insert_ok e k p q.0) q.1

-- behind what is written in front of them, and in front of them
pub rest_ok : {f : Tokens → Tokens} → Writes f → (ts : Tokens) → ConstantsOk (f ts) → ConstantsOk ts
rest_ok {f} w ts h = by (f []) (subst ConstantsOk (w.grows [] ts) h)
  where
    by : (xs : Tokens) → ConstantsOk (xs ++ ts) → ConstantsOk ts
    by [] q = q
    by (x ∷ xs) q = by xs q.1

mutual
  unfolding factor_of links_of index_of arrange

  operand_ok : (o : Operand) (ts : Tokens) → ConstantsOk (operand_tokens o ts) → FactorOk (factor_of o)
  operand_ok (constant i) ts h = h.0 refl
  operand_ok (access i s b) ts h = subscript_ok s (bits_tokens b ts) h.1
  operand_ok (parens l o t r) ts h =
      inserts_ok (leaf (factor_of o)) (links_of t) (operand_ok o (tail_tokens t (tk RPar r ∷ ts)) h.1)
      (tail_ok t (tk RPar r ∷ ts) (rest_ok (operand_writes o) (tail_tokens t (tk RPar r ∷ ts)) h.1))
  operand_ok (negated i o) ts h = operand_ok o ts h.1

  tail_ok : (t : Tail) (ts : Tokens) → ConstantsOk (tail_tokens t ts) → LinksOk (links_of t)
  tail_ok no_more ts h = tt
  tail_ok (with_op op i o t) ts h = (operand_ok o (tail_tokens t ts) h.1, tail_ok t ts (rest_ok (operand_writes o) (tail_tokens t ts) h.1))

  pub subscript_ok : (s : Subscript) (ts : Tokens) → ConstantsOk (subscript_tokens s ts) → IndexOk (index_of s)
  subscript_ok no_subscript ts h = tt
  subscript_ok (subscript l o t r) ts h =
      inserts_ok (leaf (factor_of o)) (links_of t) (operand_ok o (tail_tokens t (tk RBra r ∷ ts)) h.1)
      (tail_ok t (tk RBra r ∷ ts) (rest_ok (operand_writes o) (tail_tokens t (tk RBra r ∷ ts)) h.1))

-- an expression in front of other tokens
pub expression_ok : (o : Operand) (t : Tail) (ts : Tokens) → ConstantsOk (operand_tokens o (tail_tokens t ts)) → BitsOk (expr_of o t)
unfolding expr_of arrange
expression_ok o t ts h =
    inserts_ok (leaf (factor_of o)) (links_of t) (operand_ok o (tail_tokens t ts) h) (tail_ok t ts (rest_ok (operand_writes o) (tail_tokens t ts) h))
