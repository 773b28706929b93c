-- "Binding, tightest first: NOT; `@`; `+ -`; relations; AND EQV; OR XOR. Each associates to the left; parentheses override." The tree of a chain
-- `operand op operand op ..` is the one tree that has its operands and operators in their order and in which operators bind so: `Tight` and `arranged_only` of the laws.
use Rattle.std.specs.Prelude.{List, [], ◌∷◌, ℕ}
use Rattle.std.proofs.Math.Decide.{dec_lt}
use Rattle.rules.specs.Text.Tokens.{Info, Op, join, plus, minus, eql, neq, lss, leq, gtr, geq, and, eqv, or, xor}
use Rattle.rules.specs.Grammar.Trees.{Bits, Operand, constant, access, parens, negated, Tail, no_more, with_op, Subscript, no_subscript, subscript}

-- how tightly an operator binds; NOT, which stands in front of one operand, binds tighter than all
abbrev pub tightness : Op → ℕ
tightness join = 5
tightness plus = 4
tightness minus = 4
tightness eql = 3
tightness neq = 3
tightness lss = 3
tightness leq = 3
tightness gtr = 3
tightness geq = 3
tightness and = 2
tightness eqv = 2
tightness or = 1
tightness xor = 1

mutual
  pub data Expr : Type 0 where
    leaf : Factor → Expr
    node : Op → Info → Expr → Expr → Expr

  pub data Factor : Type 0 where
    number : Info → Factor
    cell : Info → Index → Bits → Factor
    group : Info → Expr → Info → Factor
    inverse : Info → Factor → Factor

  pub data Index : Type 0 where
    no_index : Index
    index : Info → Expr → Info → Index

-- an operator with the operand behind it
pub record Link : Type 0 where
  pub op : Op
  pub info : Info
  pub factor : Factor

abbrev pub link : Op → Info → Factor → Link
link o i f = record { op = o; info = i; factor = f }

-- one more link on the right of a tree: it takes the right edge as far down as the operators there bind looser
unfoldable pub insert_by : {P : Type 0} → Dec P → Expr → Expr → Expr
insert_by (yes _) a b = a
insert_by (no _) a b = b

unfoldable pub insert : Expr → Link → Expr
insert (leaf f) k = node k.op k.info (leaf f) (leaf k.factor)
insert (node o i l r) k =
    insert_by (dec_lt (tightness o) (tightness k.op)) (node o i l (insert r k)) (node k.op k.info (node o i l r) (leaf k.factor))

unfoldable pub inserts : Expr → List Link → Expr
inserts e [] = e
inserts e (k ∷ ks) = inserts (insert e k) ks

unfoldable pub arrange : Factor → List Link → Expr
arrange f ks = inserts (leaf f) ks

-- the tree of an expression
unfoldable mutual
  unfolding arrange

  pub factor_of : Operand → Factor
  factor_of (constant i) = number i
  factor_of (access i s b) = cell i (index_of s) b
  factor_of (parens l o t r) = group l (arrange (factor_of o) (links_of t)) r
  factor_of (negated i o) = inverse i (factor_of o)

  pub links_of : Tail → List Link
  links_of no_more = []
  links_of (with_op op i o t) = link op i (factor_of o) ∷ links_of t

  pub index_of : Subscript → Index
  index_of no_subscript = no_index
  index_of (subscript l o t r) = index l (arrange (factor_of o) (links_of t)) r

unfoldable pub expr_of : Operand → Tail → Expr
expr_of o t = arrange (factor_of o) (links_of t)
