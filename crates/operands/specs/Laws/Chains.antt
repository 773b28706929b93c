-- Laws of an expression as a chain: its first operand, then operators with their operands.
-- Assumes nothing.
use Rattle.std.specs.Prelude.{ℕ, ◌+◌, ◌*◌, ◌<◌, ◌≤◌, ◌≡◌, refl, true, List, ◌∷◌, length, drop, Ok}
use Rattle.std.proofs.Common.{sym, ap, ◌∙◌, arith}
use Rattle.rules.specs.Text.Tokens.{Info, Token, tk, Op, op_kind, kind_no}
use Rattle.rules.specs.Limits.{most_tokens}
use Rattle.rules.specs.Grammar.Trees.{Tokens, Operand, operand_tokens, Tail, no_more, with_op, tail_tokens}
use Rattle.rules.specs.Grammar.Precedence.{tightness, factor_of}
use Rattle.laws_grammar.specs.Cited.Nesting.{operand_nest}
use Rattle.laws_accepted.specs.Cited.Lengths.{SizedFactor}
use Rattle.records.specs.Holds.{kind_byte}
use Rattle.table.specs.Laws.Positions.{here, kind_here, record_within}
use Rattle.operands.specs.declared.expressions.Value.{Value as Worked}
use Rattle.table.specs.Operators.{tightness_at, ends_access, ends_expression}
use Rattle.table.specs.Laws.Operators.{tightness_at_lem, tightness_range, no_operator, ends_access_lem, operator_ends}
use Rattle.operands.specs.Scene.{Scene, OperandAt, OperandAnswer}
use Rattle.operands.specs.Chains.{TailAt}

-- the token behind an operand of a chain: the next operator, or what ends the expression
pub record Behind (t : Tail) (ts : Tokens) : Type 0 where
  pub next : Token
  pub rest : Tokens
  pub reads : tail_tokens t ts ≡ next ∷ rest
  pub ends : ends_access next.kind ≡ true

pub behind : (t : Tail) (n : Token) (ts : Tokens) → ends_expression n.kind ≡ true → Behind t (n ∷ ts)
behind no_more n ts e = record { next = n; rest = ts; reads = refl; ends = ends_access_lem n.kind e }
behind (with_op op i o t) n ts e = record { next = tk (op_kind op) i; rest = operand_tokens o (tail_tokens t (n ∷ ts)); reads = refl; ends = operator_ends op }

-- how tightly the first operator binds, if there is one
abbrev pub tail_tight : Tail → ℕ
tail_tight no_more = 0
tail_tight (with_op op i o t) = tightness op

module _ {records values carriers : List ℕ} {s : Scene records values carriers} {p : ℕ} (v : TailAt s p) where
  within : p < length s.tokens
  within = let b = behind v.tail v.next v.rest v.ends in (here s.tokens p _ _ (v.reads ∙ b.reads)).within

  pub tail_room : 8 * p + 8 ≤ length records
  tail_room = record_within s.holds p within

  pub tail_small : p < most_tokens
  tail_small = omega (arith, within, s.holds.few)

  token_kind : (t : Token) (ts : Tokens) → drop p s.tokens ≡ t ∷ ts → kind_byte records p ≡ kind_no t.kind
  token_kind t ts e = kind_here s.holds p t (here _ p t ts e).within (here _ p t ts e).token

  -- how tightly the token p binds
  pub tail_tight_lem : tightness_at (kind_byte records p) ≡ tail_tight v.tail
  tail_tight_lem = go v.tail v.reads
    where
      go : (t : Tail) → drop p s.tokens ≡ tail_tokens t (v.next ∷ v.rest) → tightness_at (kind_byte records p) ≡ tail_tight t
      go no_more e = ap tightness_at (token_kind _ _ e) ∙ no_operator v.next.kind v.ends
      go (with_op op j o t) e = ap tightness_at (token_kind _ _ e) ∙ tightness_at_lem op

  -- it is no operator, and the expression ends
  pub tail_over : tightness_at (kind_byte records p) ≡ 0 → v.tail ≡ no_more
  tail_over z = go v.tail (sym tail_tight_lem ∙ z)
    where
      go : (t : Tail) → tail_tight t ≡ 0 → t ≡ no_more
      go no_more e = refl
      go (with_op op j o t) e = absurd (omega (arith, (tightness_range op).0))

  -- it is one, with the rest of the chain
  pub record Operator : Type 0 where
    pub op : Op
    pub info : Info
    pub right : Operand
    pub more : Tail
    pub are : v.tail ≡ with_op op info right more
    pub kind : kind_byte records p ≡ kind_no (op_kind op)
    pub behind : drop (p + 1) s.tokens ≡ operand_tokens right (tail_tokens more (v.next ∷ v.rest))

  pub tail_operator : (tightness_at (kind_byte records p) ≡ 0 → ⊥) → Operator
  tail_operator nz = go v.tail refl v.reads
    where
      go : (t : Tail) → v.tail ≡ t → drop p s.tokens ≡ tail_tokens t (v.next ∷ v.rest) → Operator
      go no_more q e = absurd (nz (tail_tight_lem ∙ ap tail_tight q))
      go (with_op op j o t) q e = record { op = op; info = j; right = o; more = t; are = q; kind = token_kind _ _ e; behind = (here _ p _ _ e).behind }

-- an operand of the chain from the token p on, and the tail behind it
pub record OperandIn {records values carriers : List ℕ} (s : Scene records values carriers) (p depth : ℕ) : Type 0 where
  pub operand : Operand
  pub tail : Tail
  pub next : Token
  pub rest : Tokens
  pub reads : drop p s.tokens ≡ operand_tokens operand (tail_tokens tail (next ∷ rest))
  pub ends : ends_expression next.kind ≡ true
  pub shallow : operand_nest operand ≤ depth
  pub sized : SizedFactor s.outer s.table (factor_of operand)

module _ {records values carriers : List ℕ} {s : Scene records values carriers} {p depth : ℕ} (v : OperandIn s p depth) where
  abbrev pub operand_at : OperandAt records values carriers p depth
  operand_at =
      let b = behind v.tail v.next v.rest v.ends in
      record {
        scene = s;
        operand = v.operand;
        next = b.next;
        rest = b.rest;
        reads = v.reads ∙ ap (operand_tokens v.operand) b.reads;
        ends = b.ends;
        shallow = v.shallow;
        sized = v.sized;
      }

  unfoldable pub tail_at : {w : Worked} → OperandAnswer operand_at (Ok w) → TailAt s w.next
  tail_at a = record {
    tail = v.tail;
    next = v.next;
    rest = v.rest;
    reads = a.behind ∙ sym (behind v.tail v.next v.rest v.ends).reads;
    ends = v.ends;
  }
