-- Laws of NOTs: past them stands the operand, and its first token tells which it is.
-- Assumes nothing.
use Rattle.std.specs.Prelude.{ℕ, ◌+◌, ◌*◌, ◌≤◌, ◌≡◌, refl, List, ◌∷◌, length, drop}
use Rattle.std.proofs.Common.{sym, ap, ◌∙◌, arith}
use Rattle.rules.specs.Text.Tokens.{Kind, Name, Const, LPar, RPar, NOT, kind_no, Info, tk}
use Rattle.rules.specs.Grammar.Trees.{Tokens, Bits, bits_tokens, Operand, constant, access, parens, negated, operand_tokens, Tail, tail_tokens, Subscript, subscript_tokens}
use Rattle.laws_grammar.specs.Cited.Nesting.{operand_nest}
use Rattle.records.specs.Holds.{kind_byte}
use Rattle.table.specs.Laws.Positions.{Here, here, kind_here, record_within}
use Rattle.nots.specs.Nots.{bare, nots, OperandIn, Bared}

pub bare_nest : (o : Operand) → operand_nest (bare o) ≡ operand_nest o
bare_nest (constant i) = refl
bare_nest (access i s b) = refl
bare_nest (parens l o t r) = refl
bare_nest (negated i o) = bare_nest o

-- an operand's first token
abbrev pub first_kind_of : Operand → Kind
first_kind_of (constant i) = Const
first_kind_of (access i s b) = Name
first_kind_of (parens l o t r) = LPar
first_kind_of (negated i o) = NOT

abbrev pub first_info : Operand → Info
first_info (constant i) = i
first_info (access i s b) = i
first_info (parens l o t r) = l
first_info (negated i o) = i

abbrev pub behind_first : Operand → Tokens → Tokens
behind_first (constant i) ts = ts
behind_first (access i s b) ts = subscript_tokens s (bits_tokens b ts)
behind_first (parens l o t r) ts = operand_tokens o (tail_tokens t (tk RPar r ∷ ts))
behind_first (negated i o) ts = operand_tokens o ts

pub operand_first : (o : Operand) (ts : Tokens) → operand_tokens o ts ≡ tk (first_kind_of o) (first_info o) ∷ behind_first o ts
operand_first (constant i) ts = refl
operand_first (access i s b) ts = refl
operand_first (parens l o t r) ts = refl
operand_first (negated i o) ts = refl

-- by its kind
pub a_constant : (o : Operand) → kind_no (first_kind_of o) ≡ kind_no Const → (i : Info) × (o ≡ constant i)
a_constant (constant i) e = (i, refl)
a_constant (access i s b) e = absurd (omega arith)
a_constant (parens l o t r) e = absurd (omega arith)
a_constant (negated i o) e = absurd (omega arith)

pub an_access : (o : Operand) → kind_no (first_kind_of o) ≡ kind_no Name → (n : Info) × (s : Subscript) × (b : Bits) × (o ≡ access n s b)
an_access (constant i) e = absurd (omega arith)
an_access (access i s b) e = (i, s, b, refl)
an_access (parens l o t r) e = absurd (omega arith)
an_access (negated i o) e = absurd (omega arith)

pub a_group : (o : Operand) → kind_no (first_kind_of o) ≡ kind_no LPar → (l : Info) × (p : Operand) × (t : Tail) × (r : Info) × (o ≡ parens l p t r)
a_group (constant i) e = absurd (omega arith)
a_group (access i s b) e = absurd (omega arith)
a_group (parens l o t r) e = (l, o, t, r, refl)
a_group (negated i o) e = absurd (omega arith)

pub bare_first : (o : Operand) → kind_no (first_kind_of (bare o)) ≡ kind_no NOT → ⊥
bare_first (constant i) e = omega arith
bare_first (access i s b) e = omega arith
bare_first (parens l o t r) e = omega arith
bare_first (negated i o) e = bare_first o e

pub bare_else : (o : Operand) → (kind_no (first_kind_of (bare o)) ≡ kind_no Const → ⊥) → (kind_no (first_kind_of (bare o)) ≡ kind_no LPar → ⊥) → kind_no (first_kind_of (bare o)) ≡ kind_no Name
bare_else (constant i) c p = absurd (c refl)
bare_else (access i s b) c p = refl
bare_else (parens l o t r) c p = absurd (p refl)
bare_else (negated i o) c p = bare_else o c p

a_not : (o : Operand) → kind_no (first_kind_of o) ≡ kind_no NOT → (i : Info) × (p : Operand) × (o ≡ negated i p)
a_not (constant i) e = absurd (omega arith)
a_not (access i s b) e = absurd (omega arith)
a_not (parens l o t r) e = absurd (omega arith)
a_not (negated i o) e = (i, o, refl)

no_not : (o : Operand) → (kind_no (first_kind_of o) ≡ kind_no NOT → ⊥) → (o ≡ bare o) × (nots o ≡ 0)
no_not (constant i) n = (refl, refl)
no_not (access i s b) n = (refl, refl)
no_not (parens l o t r) n = (refl, refl)
no_not (negated i o) n = absurd (n refl)

-- on the way: some NOTs are passed
pub record Baring {records : List ℕ} {i : ℕ} (v : OperandIn records i) (p : ℕ) : Type 0 where
  pub left : Operand
  pub past : p + nots left ≡ i + nots v.operand
  pub reads : drop p v.tokens ≡ operand_tokens left v.rest
  pub same_bare : bare left ≡ bare v.operand

pub not_begun : {records : List ℕ} {i : ℕ} (v : OperandIn records i) → Baring v i
not_begun v = record { left = v.operand; past = refl; reads = v.reads; same_bare = refl }

module _ {records : List ℕ} {i : ℕ} {v : OperandIn records i} {p : ℕ} (b : Baring v p) where
  first_here : Here v.tokens p (tk (first_kind_of b.left) (first_info b.left)) (behind_first b.left v.rest)
  first_here = here v.tokens p _ _ (b.reads ∙ operand_first b.left v.rest)

  pub baring_room : 8 * p + 8 ≤ length records
  baring_room = record_within v.holds p first_here.within

  first_kind : kind_byte records p ≡ kind_no (first_kind_of b.left)
  first_kind = kind_here v.holds p _ first_here.within first_here.token

  pub not_passed : {k : ℕ} → k ≡ kind_byte records p → k ≡ kind_no NOT → Baring v (p + 1)
  not_passed e n =
      let q = a_not b.left (sym first_kind ∙ sym e ∙ n) in
      record {
        left = q.1;
        past = let h = b.past in omega (arith, ap nots q.2);
        reads = first_here.behind ∙ ap (λ o. behind_first o v.rest) q.2;
        same_bare = ap bare (sym q.2) ∙ b.same_bare;
      }

  pub all_passed : {k : ℕ} → k ≡ kind_byte records p → (k ≡ kind_no NOT → ⊥) → Bared v p
  all_passed e n =
      let q = no_not b.left (λ z. n (e ∙ first_kind ∙ z)) in
      record {
        past = let h = b.past in omega (arith, q.1);
        reads = b.reads ∙ ap (λ o. operand_tokens o v.rest) (q.0 ∙ b.same_bare);
      }
