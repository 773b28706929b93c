-- Laws of an operand, told by the kind of its first token: an access, a constant, a parenthesis or a NOT.
-- Assumes nothing.
use Rattle.std.specs.Prelude.{ℕ, suc, ◌+◌, ◌-◌, ◌*◌, ◌<◌, ◌≤◌, max, ◌≡◌, refl, Bool, true, false, List, ◌∷◌, eqb, Result, Ok, Err}
use Rattle.std.proofs.Math.Path.{sym, ap, subst}
use Rattle.std.proofs.Common.{◌∙◌, arith, eq-eqb, ne_eqb}
use Rattle.std.proofs.Math.ListN.{length}
use Rattle.rules.specs.Text.Tokens.{Name, Const, LPar, RPar, NOT, kind_no, Info, Token, tk}
use Rattle.rules.specs.Limits.{most_tokens}
use Rattle.rules.specs.Grammar.Trees.{Bits, Operand, constant, access, parens, negated, operand_tokens, Tail, Subscript}
use Rattle.rules.specs.Grammar.Precedence.{factor_of, expr_of}
use Rattle.rules.specs.Values.{truth}
use Rattle.rules.specs.Declarations.{total_words}
use Rattle.rules.specs.Steps.Actions as actions
use Rattle.rules.specs.Steps.Evaluation.{gives, Field, evaluate_factor, evaluate_access}
use Rattle.laws_grammar.specs.Cited.Nesting.{operand_nest, tail_nest}
use Rattle.laws_accepted.specs.Cited.Lengths.{SizedFactor}
use Rattle.records.specs.Holds.{kind_byte, size_byte, value_cell_of}
use Rattle.table.specs.Laws.Positions.{Here, here, kind_here, record_within, value_within}
use Rattle.operands.specs.declared.accesses.Field.{Field as Located}
use Rattle.operands.specs.declared.accesses.Outside.{Outside}
use Rattle.operands.specs.declared.expressions.Value.{Value as Worked}
use Rattle.operands.specs.Answers.{Readable, read_at, Closable, closed, Invertible, inverted}
use Rattle.operands.specs.Scene.{words_of, ExpressionAt, ExpressionAnswer, OperandAt, OperandAnswer, AccessAt, AccessAnswer}
use Rattle.operands.specs.Laws.Scene.{ExpressionTold, OperandTold, AccessTold}
use Rattle.nots.specs.Nots.{bare, nots, OperandIn, Bared}
use Rattle.nots.specs.Laws.Nots.{bare_nest, bare_first, first_kind_of, first_info, behind_first, operand_first, a_constant, an_access, a_group}
use Rattle.operands.specs.Laws.Nots.{bare_sized, nots_given, nots_faulty}
use Rattle.operands.specs.Worths.{Within}
use Rattle.operands.specs.Laws.Worths.{factor_bits, access_within, read_comes, read_faults, read_word}
use Rattle.operands.specs.Operands.{NestedAt}

-- 1 for a NOT, else 0: what is left of an operand falls where NOTs are passed
abbrev pub not_first : List ℕ → ℕ → ℕ
not_first records i = truth (eqb (kind_byte records i) (kind_no NOT))

pub not_first_small : (records : List ℕ) (i : ℕ) → not_first records i ≤ 1
not_first_small records i = by (eqb (kind_byte records i) (kind_no NOT))
  where
    by : (t : Bool) → truth t ≤ 1
    by true = omega arith
    by false = omega arith

module _ {records values carriers : List ℕ} {i depth : ℕ} (v : OperandAt records values carriers i depth) where
  first_here : Here v.scene.tokens i (tk (first_kind_of v.operand) (first_info v.operand)) (behind_first v.operand (v.next ∷ v.rest))
  first_here = here v.scene.tokens i _ _ (v.reads ∙ operand_first v.operand (v.next ∷ v.rest))

  pub operand_room : 8 * i + 8 ≤ length records
  operand_room = record_within v.scene.holds i first_here.within

  pub operand_small : i < most_tokens
  operand_small = omega (arith, first_here.within, v.scene.holds.few)

  first_kind : kind_byte records i ≡ kind_no (first_kind_of v.operand)
  first_kind = kind_here v.scene.holds i _ first_here.within first_here.token

  -- an access
  record Named : Type 0 where
    view : AccessAt records values carriers i depth
    readable : (f : Located) → AccessAnswer view (Ok f) → Readable carriers f
    answer : (f : Located) → AccessAnswer view (Ok f) → OperandAnswer v (Ok (read_at carriers f))
    faults : (o : Outside) → AccessAnswer view (Err o) → OperandAnswer v (Err o)

  named : {k : ℕ} → k ≡ kind_byte records i → k ≡ kind_no Name → Named
  unfolding factor_of actions.access
  named e n = record { view = view; readable = readable; answer = answer; faults = faults }
    where
      q : (n : Info) × (s : Subscript) × (b : Bits) × (v.operand ≡ access n s b)
      q = an_access v.operand (sym first_kind ∙ sym e ∙ n)

      view : AccessAt records values carriers i depth
      view = record {
        scene = v.scene;
        name = q.0;
        subscript = q.1;
        bits = q.2;
        next = v.next;
        rest = v.rest;
        reads = v.reads ∙ ap (λ o. operand_tokens o (v.next ∷ v.rest)) q.3;
        ends = v.ends;
        shallow = omega (arith, ap operand_nest q.3, v.shallow);
        sized = subst (λ o. SizedFactor v.scene.outer v.scene.table (factor_of o)) q.3 v.sized;
      }

      within : (f : Field) → evaluate_access v.scene.table (words_of v.scene) (actions.access q.0 q.1 q.2) ≡ gives f → Within v.scene.table f
      within f = access_within v.scene.declares (words_of v.scene) (actions.access q.0 q.1 q.2) f view.sized

      readable : (f : Located) → AccessAnswer view (Ok f) → Readable carriers f
      readable f a =
          let g = within (record { word = f.word; low = f.low; size = f.size }) a.comes in
          (omega (arith, g.word, v.scene.words), (omega (arith, g.some, g.fits), g.fits))

      whole : evaluate_factor v.scene.table (words_of v.scene) (factor_of v.operand) ≡ evaluate_factor v.scene.table (words_of v.scene) (factor_of (access q.0 q.1 q.2))
      whole = ap (λ o. evaluate_factor v.scene.table (words_of v.scene) (factor_of o)) q.3

      answer : (r : Located) → AccessAnswer view (Ok r) → OperandAnswer v (Ok (read_at carriers r))
      answer r a =
          let f : Field = record { word = r.word; low = r.low; size = r.size } in
          record {
            comes =
                whole ∙ read_comes v.scene.table (words_of v.scene) q.0 q.1 q.2 f a.comes
                ∙ ap gives (read_word (total_words v.scene.table) carriers f (within f a.comes).word);
            past = a.past;
            behind = a.behind;
          }

      faults : (o : Outside) → AccessAnswer view (Err o) → OperandAnswer v (Err o)
      faults o a = whole ∙ read_faults v.scene.table (words_of v.scene) q.0 q.1 q.2 70 o.place a

  module _ {k : ℕ} (e : k ≡ kind_byte records i) (n : k ≡ kind_no Name) where
    pub name_view : AccessAt records values carriers i depth
    name_view = (named e n).view

    module _ {r : Result Located Outside} (told : AccessTold records values carriers i depth r) where
      pub name_readable : {f : Located} → r ≡ Ok f → Readable carriers f
      name_readable {f} is = (named e n).readable f (subst (AccessAnswer (named e n).view) is (told (named e n).view))

      pub name_answer : {f : Located} {q : Worked} → r ≡ Ok f → q ≡ read_at carriers f → OperandAnswer v (Ok q)
      name_answer {f} is q =
          subst (λ q. OperandAnswer v (Ok q)) (sym q) ((named e n).answer f (subst (AccessAnswer (named e n).view) is (told (named e n).view)))

      pub name_faults : {o : Outside} → r ≡ Err o → OperandAnswer v (Err o)
      name_faults {o} is = (named e n).faults o (subst (AccessAnswer (named e n).view) is (told (named e n).view))

  -- a constant
  pub value_room : 8 * i + 8 ≤ length values
  value_room = value_within v.scene.holds i first_here.within

  pub constant_answer : {k : ℕ} → k ≡ kind_byte records i → k ≡ kind_no Const → {x n : ℕ} → x ≡ value_cell_of values i → n ≡ size_byte records i → OperandAnswer v (Ok (record { number = x; bits = n; next = i + 1 }))
  unfolding factor_of evaluate_factor
  constant_answer e c {x} {n} d m =
      let q = a_constant v.operand (sym first_kind ∙ sym e ∙ c) in
      let t = first_here.token ∙ ap (λ o. tk (first_kind_of o) (first_info o)) q.1 in
      let h = v.scene.holds.entry i first_here.within in
      let w = h.constant (ap (λ (t : Token). t.kind) t) in
      let y : x ≡ q.0.value = d ∙ w.value ∙ ap (λ (t : Token). t.info.value) t in
      let z : n ≡ q.0.bits = omega (arith, m, h.size, ap length w.wordless, ap (λ (t : Token). t.info.bits) t) in
      record {
        comes = ap (λ o. evaluate_factor v.scene.table (words_of v.scene) (factor_of o)) q.1 ∙ rw (y, z) refl;
        past = omega arith;
        behind = first_here.behind ∙ ap (λ o. behind_first o (v.next ∷ v.rest)) q.1;
      }

  -- a parenthesis
  record Group : Type 0 where
    deep : 0 < depth
    view : ExpressionAt records values carriers (i + 1) (depth - 1)
    closable : (w : Worked) → ExpressionAnswer view (Ok w) → Closable w
    answer : (w : Worked) → ExpressionAnswer view (Ok w) → OperandAnswer v (Ok (closed w))
    faults : (o : Outside) → ExpressionAnswer view (Err o) → OperandAnswer v (Err o)

  group : {k : ℕ} → k ≡ kind_byte records i → k ≡ kind_no LPar → Group
  unfolding factor_of evaluate_factor expr_of
  group e c = record {
    deep = omega (arith, nest);
    view = view;
    closable = closable;
    answer = answer;
    faults = λ o a. whole ∙ a;
  }
    where
      q : (l : Info) × (p : Operand) × (t : Tail) × (r : Info) × (v.operand ≡ parens l p t r)
      q = a_group v.operand (sym first_kind ∙ sym e ∙ c)

      nest : suc (max (operand_nest q.1) (tail_nest q.2)) ≤ depth
      nest = omega (arith, ap operand_nest q.4, v.shallow)

      view : ExpressionAt records values carriers (i + 1) (depth - 1)
      view = record {
        scene = v.scene;
        first = q.1;
        tail = q.2;
        next = tk RPar q.3;
        rest = v.next ∷ v.rest;
        reads = first_here.behind ∙ ap (λ o. behind_first o (v.next ∷ v.rest)) q.4;
        ends = refl;
        shallow = omega (arith, nest);
        sized = subst (λ o. SizedFactor v.scene.outer v.scene.table (factor_of o)) q.4 v.sized;
      }

      whole : evaluate_factor v.scene.table (words_of v.scene) (factor_of v.operand)
          ≡ evaluate_factor v.scene.table (words_of v.scene) (factor_of (parens q.0 q.1 q.2 q.3))
      whole = ap (λ o. evaluate_factor v.scene.table (words_of v.scene) (factor_of o)) q.4

      closable : (w : Worked) → ExpressionAnswer view (Ok w) → Closable w
      closable w a = omega (arith, (here v.scene.tokens w.next _ _ a.behind).within, v.scene.holds.few)

      answer : (w : Worked) → ExpressionAnswer view (Ok w) → OperandAnswer v (Ok (closed w))
      answer w a = record { comes = whole ∙ a.comes; past = omega (arith, a.past); behind = (here v.scene.tokens w.next _ _ a.behind).behind }

  -- NOTs
  abbrev pub operand_in : OperandIn records i
  operand_in = record {
    text = v.scene.text;
    values = values;
    tokens = v.scene.tokens;
    holds = v.scene.holds;
    operand = v.operand;
    rest = v.next ∷ v.rest;
    reads = v.reads;
  }

  record Negated (p : ℕ) : Type 0 where
    before : i ≤ p
    falls : not_first records p < not_first records i
    view : OperandAt records values carriers p depth
    invertible : (w : Worked) → OperandAnswer view (Ok w) → Invertible w
    answer : (w : Worked) → OperandAnswer view (Ok w) → OperandAnswer v (Ok (inverted (p - i) w))
    faults : (o : Outside) → OperandAnswer view (Err o) → OperandAnswer v (Err o)

  all_nots : (kind_byte records i ≡ kind_no Name → ⊥) → (kind_byte records i ≡ kind_no Const → ⊥) → {k : ℕ} → k ≡ kind_byte records i → (k ≡ kind_no LPar → ⊥)
      → {p : ℕ} → ((o : OperandIn records i) → Bared o p) → Negated p
  all_nots n c e l {p} f = record {
    before = omega (arith, b.past);
    falls = falls;
    view = view;
    invertible = invertible;
    answer = answer;
    faults = λ o a. nots_faulty v.scene.table (words_of v.scene) v.operand 70 o.place a;
  }
    where
      b : Bared operand_in p
      b = f operand_in

      is_not : (o : Operand) → kind_byte records i ≡ kind_no (first_kind_of o) → kind_byte records i ≡ kind_no NOT
      is_not (constant j) e = absurd (c e)
      is_not (access j s b) e = absurd (n e)
      is_not (parens j o t r) z = absurd (l (e ∙ z))
      is_not (negated j o) e = e

      bare_here : Here v.scene.tokens p (tk (first_kind_of (bare v.operand)) (first_info (bare v.operand))) (behind_first (bare v.operand) (v.next ∷ v.rest))
      bare_here = here v.scene.tokens p _ _ (b.reads ∙ operand_first (bare v.operand) (v.next ∷ v.rest))

      falls : not_first records p < not_first records i
      falls =
          let k = kind_here v.scene.holds p _ bare_here.within bare_here.token in
          rw (eq-eqb (kind_byte records i) (kind_no NOT) (is_not v.operand first_kind), ne_eqb (kind_byte records p) (kind_no NOT) (λ e. bare_first v.operand (sym k ∙ e)))
          (omega arith)

      view : OperandAt records values carriers p depth
      view = record {
        scene = v.scene;
        operand = bare v.operand;
        next = v.next;
        rest = v.rest;
        reads = b.reads;
        ends = v.ends;
        shallow = omega (arith, bare_nest v.operand, v.shallow);
        sized = bare_sized v.scene.outer v.scene.table v.operand v.sized;
      }

      invertible : (w : Worked) → OperandAnswer view (Ok w) → Invertible w
      invertible w a =
          let f = factor_bits v.scene.declares (words_of v.scene) (factor_of (bare v.operand)) w.bits w.number view.sized a.comes in
          (f.length.short, f.fits)

      answer : (w : Worked) → OperandAnswer view (Ok w) → OperandAnswer v (Ok (inverted (p - i) w))
      answer w a =
          let so_many : p - i ≡ nots v.operand = omega (arith, b.past) in
          record {
            comes = rw so_many (nots_given v.scene.table (words_of v.scene) v.operand w.bits w.number (invertible w a).1 a.comes);
            past = omega (arith, a.past, b.past);
            behind = a.behind;
          }

module _ {records values carriers : List ℕ} {i depth : ℕ} (v : NestedAt records values carriers i depth) where
  pub nested_room : 8 * i + 8 ≤ length records
  nested_room = operand_room v.view

  pub nested_small : i < most_tokens
  nested_small = operand_small v.view

  pub nested_in : OperandIn records i
  nested_in = operand_in v.view

  module _ {k : ℕ} (e : k ≡ kind_byte records i) (c : k ≡ kind_no LPar) where
    pub group_deep : 0 < depth
    group_deep = (group v.view e c).deep

    pub group_view : ExpressionAt records values carriers (i + 1) (depth - 1)
    group_view = (group v.view e c).view

    module _ {r : Result Worked Outside} (told : ExpressionTold records values carriers (i + 1) (depth - 1) r) where
      pub group_closable : {w : Worked} → r ≡ Ok w → Closable w
      unfolding group group_view
      group_closable {w} is = (group v.view e c).closable w (subst (ExpressionAnswer group_view) is (told group_view))

      pub group_answer : {w q : Worked} → r ≡ Ok w → q ≡ closed w → OperandAnswer v.view (Ok q)
      unfolding group group_view
      group_answer {w} is q =
          subst (λ q. OperandAnswer v.view (Ok q)) (sym q) ((group v.view e c).answer w (subst (ExpressionAnswer group_view) is (told group_view)))

      pub group_faults : {o : Outside} → r ≡ Err o → OperandAnswer v.view (Err o)
      unfolding group group_view
      group_faults {o} is = (group v.view e c).faults o (subst (ExpressionAnswer group_view) is (told group_view))

  module _ {k p : ℕ} (e : k ≡ kind_byte records i) (l : k ≡ kind_no LPar → ⊥) (f : (o : OperandIn records i) → Bared o p) where
    negated_by : Negated v.view p
    negated_by = all_nots v.view v.no_name v.no_constant e l f

    pub nots_before : i ≤ p
    nots_before = negated_by.before

    pub nots_fall : not_first records p < not_first records i
    nots_fall = negated_by.falls

    pub nots_view : OperandAt records values carriers p depth
    nots_view = negated_by.view

    module _ {r : Result Worked Outside} (told : OperandTold records values carriers p depth r) where
      pub nots_invertible : {w : Worked} → r ≡ Ok w → Invertible w
      unfolding negated_by nots_view
      nots_invertible {w} is = negated_by.invertible w (subst (OperandAnswer nots_view) is (told nots_view))

      pub nots_answer : {w q : Worked} → r ≡ Ok w → q ≡ inverted (p - i) w → OperandAnswer v.view (Ok q)
      unfolding negated_by nots_view
      nots_answer {w} is q = subst (λ q. OperandAnswer v.view (Ok q)) (sym q) (negated_by.answer w (subst (OperandAnswer nots_view) is (told nots_view)))

      pub nots_faults : {o : Outside} → r ≡ Err o → OperandAnswer v.view (Err o)
      unfolding negated_by nots_view
      nots_faults {o} is = negated_by.faults o (subst (OperandAnswer nots_view) is (told nots_view))

module _ {records values carriers : List ℕ} {i depth : ℕ} (v : OperandAt records values carriers i depth) {k : ℕ} (e : k ≡ kind_byte records i)
    (n : k ≡ kind_no Name → ⊥) (c : k ≡ kind_no Const → ⊥) where
  pub nested_at : NestedAt records values carriers i depth
  nested_at = record { view = v; no_name = λ z. n (e ∙ z); no_constant = λ z. c (e ∙ z) }

  pub nested_answers : (r : Result Worked Outside) → ((x : NestedAt records values carriers i depth) → OperandAnswer x.view r) → OperandAnswer v r
  unfolding nested_at
  nested_answers r f = f nested_at
