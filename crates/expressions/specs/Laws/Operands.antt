-- Laws of an operand behind its NOTs, told by the kind of its first token: a constant, a parenthesis or an access.
-- Assumes nothing.
use Rattle.std.specs.Prelude.{ℕ, suc, ◌+◌, ◌-◌, ◌*◌, ◌<◌, ◌≤◌, max, ◌≡◌, List, ◌∷◌}
use Rattle.std.proofs.Math.Path.{refl, sym, ap}
use Rattle.std.proofs.Common.{◌∙◌, arith}
use Rattle.std.proofs.Math.ListN.{length}
use Rattle.rules.specs.Text.Tokens.{Const, LPar, RPar, kind_no, Info, Token, tk}
use Rattle.rules.specs.Grammar.Trees.{Bits, Operand, constant, access, parens, negated, operand_tokens, Tail, Subscript}
use Rattle.rules.specs.Grammar.Precedence.{factor_of, expr_of}
use Rattle.rules.specs.Declarations.{Word, Table}
use Rattle.rules.specs.Faults.Bodies.{judge_factor}
use Rattle.laws_grammar.specs.Cited.Nesting.{operand_nest, tail_nest}
use Rattle.records.specs.Holds.{kind_byte, size_byte, token_at}
use Rattle.keys.specs.Keys.{no_key}
use Rattle.table.specs.Laws.Positions.{Here, here, kind_here, record_within}
use Rattle.accesses.specs.declared.Judged.{Judged as Answer}
use Rattle.weighing.specs.Laws.Weights.{weighs_sound}
use Rattle.accesses.specs.Scene.{outer_of, table_of, Answers}
use Rattle.expressions.specs.Expressions.{ExpressionAt, ExpressionAnswer, OperandAt, OperandAnswer, AccessAt, AccessAnswer}
use Rattle.nots.specs.Nots.{bare, OperandIn, Bared}
use Rattle.nots.specs.Laws.Nots.{bare_nest, bare_else, first_kind_of, first_info, behind_first, operand_first, a_constant, an_access, a_group}

-- "NOT keeps it": NOTs change neither faults nor length
pub bare_judged : (outer : Word) (ds : Table) (o : Operand) → judge_factor outer ds (factor_of (bare o)) ≡ judge_factor outer ds (factor_of o)
unfolding judge_factor factor_of
bare_judged outer ds (constant i) = refl
bare_judged outer ds (access i s b) = refl
bare_judged outer ds (parens l o t r) = refl
bare_judged outer ds (negated i o) = bare_judged outer ds o

-- the operand behind its NOTs, and the answer for each kind of it
module _ {records values decls : List ℕ} {i depth : ℕ} (v : OperandAt records values decls i depth) where
  abbrev pub operand_in : OperandIn records i
  operand_in = record {
    text = v.scene.text;
    values = values;
    tokens = v.scene.tokens;
    holds = v.scene.ready.holds;
    operand = v.operand;
    rest = v.next ∷ v.rest;
    reads = v.reads;
  }

  module _ {p : ℕ} (b : Bared operand_in p) where
    bare_here : Here v.scene.tokens p (tk (first_kind_of (bare v.operand)) (first_info (bare v.operand))) (behind_first (bare v.operand) (v.next ∷ v.rest))
    bare_here = here v.scene.tokens p _ _ (b.reads ∙ operand_first (bare v.operand) (v.next ∷ v.rest))

    pub bare_room : 8 * p + 8 ≤ length records
    bare_room = record_within v.scene.ready.holds p bare_here.within

    bare_kind : kind_byte records p ≡ kind_no (first_kind_of (bare v.operand))
    bare_kind = kind_here v.scene.ready.holds p _ bare_here.within bare_here.token

    -- the answer for the bare operand is that for the whole
    answered : (o : Operand) {r : Answer} → bare v.operand ≡ o
        → Answers v.scene.tokens (v.next ∷ v.rest) p (judge_factor (outer_of v.scene) (table_of v.scene) (factor_of o)) r → OperandAnswer v r
    answered o e a =
        let whole = ap (λ o. judge_factor (outer_of v.scene) (table_of v.scene) (factor_of o)) (sym e) ∙ bare_judged (outer_of v.scene) (table_of v.scene) v.operand in
        record { weighs = rw whole at a.weighs; past = let h = b.past in let q = a.past in omega arith; behind = a.behind }

    module _ {k : ℕ} (e : k ≡ kind_byte records p) where
      pub constant_answer : {n : ℕ} → k ≡ kind_no Const → n ≡ size_byte records p → OperandAnswer v (record { key = no_key; bits = n; next = p + 1 })
      unfolding judge_factor factor_of
      constant_answer {n} c m =
          let q = a_constant (bare v.operand) (sym bare_kind ∙ sym e ∙ c) in
          let t = bare_here.token ∙ ap (λ o. tk (first_kind_of o) (first_info o)) q.1 in
          let h = v.scene.ready.holds.entry p bare_here.within in
          let w = h.constant (ap (λ (t : Token). t.kind) t) in
          let x : (token_at v.scene.tokens p).info.bits ≡ q.0.bits = ap (λ (t : Token). t.info.bits) t in
          let s : n ≡ q.0.bits = omega (arith, m, h.size, ap length w.wordless) in
          answered (constant q.0) q.1 (record {
            weighs = rw s (weighs_sound q.0.bits refl (omega (arith, w.some_bits)) (omega (arith, w.few_bits)));
            past = omega arith;
            behind = bare_here.behind ∙ ap (λ o. behind_first o (v.next ∷ v.rest)) q.1;
          })

      module _ (c : k ≡ kind_no LPar) where
        inner : (l : Info) × (p : Operand) × (t : Tail) × (r : Info) × (bare v.operand ≡ parens l p t r)
        inner = a_group (bare v.operand) (sym bare_kind ∙ sym e ∙ c)

        inner_nest : suc (max (operand_nest inner.1) (tail_nest inner.2)) ≤ depth
        inner_nest = let h = v.shallow in omega (arith, ap operand_nest inner.4, bare_nest v.operand)

        pub group_depth : 0 < depth
        group_depth = omega (arith, inner_nest)

        pub group_at : ExpressionAt records values decls (p + 1) (depth - 1)
        group_at = record {
          scene = v.scene;
          first = inner.1;
          tail = inner.2;
          next = tk RPar inner.3;
          rest = v.next ∷ v.rest;
          reads = bare_here.behind ∙ ap (λ o. behind_first o (v.next ∷ v.rest)) inner.4;
          ends = refl;
          shallow = omega (arith, inner_nest);
        }

        pub group_answer : {r : Answer} → ExpressionAnswer group_at r → OperandAnswer v (record { key = r.key; bits = r.bits; next = r.next + 1 })
        unfolding judge_factor factor_of expr_of group_at inner
        group_answer {r} a =
            answered (parens inner.0 inner.1 inner.2 inner.3) inner.4 (record {
              weighs = a.weighs;
              past = let h = a.past in omega arith;
              behind = (here v.scene.tokens r.next _ _ a.behind).behind;
            })

      module _ (c : k ≡ kind_no Const → ⊥) (l : k ≡ kind_no LPar → ⊥) where
        accessed : (n : Info) × (s : Subscript) × (b : Bits) × (bare v.operand ≡ access n s b)
        accessed = an_access (bare v.operand) (bare_else v.operand (λ z. c (e ∙ bare_kind ∙ z)) (λ z. l (e ∙ bare_kind ∙ z)))

        pub access_at : AccessAt records values decls p depth
        access_at = record {
          scene = v.scene;
          name = accessed.0;
          subscript = accessed.1;
          bits = accessed.2;
          next = v.next;
          rest = v.rest;
          reads = b.reads ∙ ap (λ o. operand_tokens o (v.next ∷ v.rest)) accessed.3;
          ends = v.ends;
          shallow = let h = v.shallow in omega (arith, ap operand_nest accessed.3, bare_nest v.operand);
        }

        pub access_answer : {r : Answer} → AccessAnswer access_at r → OperandAnswer v r
        unfolding judge_factor factor_of access_at accessed
        access_answer a = answered (access accessed.0 accessed.1 accessed.2) accessed.3 a
