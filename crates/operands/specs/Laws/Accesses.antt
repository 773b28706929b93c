-- An access: its cell, and what stands behind its name, a subscript or not.
-- Assumes nothing.
use Rattle.std.specs.Prelude.{ℕ, ◌+◌, ◌-◌, ◌*◌, ◌<◌, ◌≤◌, ◌≡◌, not, List, [], ◌∷◌, ◌++◌, length, drop, Result, Ok, Err}
use Rattle.std.proofs.Math.Path.{refl, ap}
use Rattle.std.proofs.Common.{sym, ◌∙◌, subst, arith}
use Rattle.std.proofs.Math.Bool.{true}
use Rattle.std.proofs.Math.Option.{Option, none, some}
use Rattle.rules.specs.Text.Tokens.{Name, Const, LBra, RBra, Less, kind_no, Info, Token, tk}
use Rattle.rules.specs.Text.Scan.{same_bytes}
use Rattle.rules.specs.Limits.{most_tokens}
use Rattle.rules.specs.Grammar.Trees.{Tokens, Bits, all_bits, bits, bits_tokens, bits_end_tokens, Operand, operand_tokens, Tail, tail_tokens, Subscript, no_subscript, subscript, subscript_tokens}
use Rattle.rules.specs.Grammar.Precedence.{Index, no_index, index_of, expr_of}
use Rattle.rules.specs.Values.{Value}
use Rattle.rules.specs.Declarations.{Word, Names, BitNames, Declared, Table, number_of, Reach, access_low, access_bits}
use Rattle.rules.specs.Steps.Actions.{access}
use Rattle.rules.specs.Steps.Evaluation.{Outcome, gives, then, Field, word_of, field_in, field_of, evaluate_index, evaluate_access}
use Rattle.rules.specs.Faults.Fault.{Fault, when}
use Rattle.rules.specs.Faults.Declared.{declared_at}
use Rattle.rules.specs.Faults.Bodies.{sound_bits, subscripted, bits_judged, access_judged, judge_name, judge_access}
use Rattle.laws_grammar.specs.Cited.Nesting.{subscript_nest}
use Rattle.laws_orders.proofs.Orders.Tests.{impossible}
use Rattle.laws_accepted.specs.Cited.Lengths.{Reaches, SizedIndex}
use Rattle.records.specs.Holds.{kind_byte, value_cell_of}
use Rattle.table.specs.Laws.Positions.{Here, here, behind_far, kind_here, record_within, value_within}
use Rattle.table.specs.Bits.{BitsView}
use Rattle.promise.specs.Accesses.{left_name, right_name, access_cell}
use Rattle.operands.specs.declared.accesses.Field.{Field as Located}
use Rattle.operands.specs.declared.accesses.Outside.{Outside}
use Rattle.operands.specs.declared.expressions.Value.{Value as Worked}
use Rattle.table.specs.Laws.Operators as kinds
use Rattle.operands.specs.Cells.{Parts, located_at}
use Rattle.operands.specs.Laws.Cells.{words_named, cell_parts}
use Rattle.operands.specs.Scene.{words_of, ExpressionAt, ExpressionAnswer, AccessAt, AccessAnswer, Locates}
use Rattle.operands.specs.Laws.Scene.{ExpressionTold}
use Rattle.operands.specs.Subscripts.{BitsAt, SubscriptedAt, SubscriptedAnswer}
use Rattle.operands.specs.Laws.Subscripts.{SizeTold, bits_view, bits_small, behind_bits, same}

-- an access that is judged to have bits has no fault
sound_if : (fs : List Fault) (n : ℕ) → 1 ≤ sound_bits fs n → fs ≡ []
sound_if [] n h = refl
sound_if (f ∷ fs) n h = absurd (omega arith)

access_sound : (outer : Word) (ds : Table) (i : Info) (x : Index) (b : Bits) → 1 ≤ (judge_access outer ds i x b).bits → (judge_access outer ds i x b).faults ≡ []
unfolding judge_access judge_name
access_sound outer ds i x b h = by (declared_at ds (number_of ds i.word)) h
  where
    with_bits : (w : Option Names) (c : Option BitNames) → 1 ≤ (access_judged i.place w c x b).bits → (access_judged i.place w c x b).faults ≡ []
    with_bits w none h = absurd (omega arith)
    with_bits w (some c) h =
        let j = bits_judged i.place c b in sound_if (when (not (subscripted w x)) 41 i.place ++ j.faults) j.bits h

    by : (d : Option Declared) → 1 ≤ (judge_name outer ds i x b d).bits → (judge_name outer ds i x b d).faults ≡ []
    by none h = sound_if (when (not (same_bytes outer i.word)) 40 i.place ++ when (same_bytes outer i.word) 41 i.place) 0 h
    by (some d) h = with_bits d.words d.bits h

-- what stands behind the name
record Second (s : Subscript) (b : Bits) (ts : Tokens) : Type 0 where
  token : Token
  rest : Tokens
  reads : subscript_tokens s (bits_tokens b ts) ≡ token ∷ rest

second : (s : Subscript) (b : Bits) (n : Token) (ts : Tokens) → Second s b (n ∷ ts)
second no_subscript all_bits n ts = record { token = n; rest = ts; reads = refl }
second no_subscript (bits l c e) n ts = record { token = tk Less l; rest = tk Const c ∷ bits_end_tokens e (n ∷ ts); reads = refl }
second (subscript l o t r) b n ts = record { token = tk LBra l; rest = operand_tokens o (tail_tokens t (tk RBra r ∷ bits_tokens b (n ∷ ts))); reads = refl }

module _ {records values carriers : List ℕ} {i depth : ℕ} (v : AccessAt records values carriers i depth) where
  name_here : Here v.scene.tokens i (tk Name v.name) (subscript_tokens v.subscript (bits_tokens v.bits (v.next ∷ v.rest)))
  name_here = here v.scene.tokens i _ _ v.reads

  pub cell_room : 8 * i + 8 ≤ length values
  cell_room = value_within v.scene.holds i name_here.within

  abbrev behind_name : Second v.subscript v.bits (v.next ∷ v.rest)
  behind_name = second v.subscript v.bits v.next v.rest

  second_here : Here v.scene.tokens (i + 1) behind_name.token behind_name.rest
  second_here = here v.scene.tokens (i + 1) _ _ (name_here.behind ∙ behind_name.reads)

  pub second_room : 8 * (i + 1) + 8 ≤ length records
  second_room = record_within v.scene.holds (i + 1) second_here.within

  pub access_small : i + 1 < most_tokens
  access_small = omega (arith, second_here.within, v.scene.holds.few)

  second_kind : kind_byte records (i + 1) ≡ kind_no behind_name.token.kind
  second_kind = kind_here v.scene.holds (i + 1) _ second_here.within second_here.token

  abbrev reaches : Reaches v.scene.outer v.scene.table v.name (index_of v.subscript) v.bits
  reaches = v.sized.1

  -- the cell of the name has the place of its bits
  cell_here : value_cell_of values i ≡ access_cell reaches.reached v.bits
  cell_here =
      v.scene.accesses.at i v.name v.subscript v.bits (v.next ∷ v.rest) reaches.reached v.reads
      (record {
        next = v.next;
        more = v.rest;
        is = refl;
        no_subscript = λ e. kinds.no_index v.next.kind v.ends (ap kind_no e);
        no_bits = λ e. kinds.no_bits v.next.kind v.ends (ap kind_no e);
      })
      (access_sound v.scene.outer v.scene.table v.name (index_of v.subscript) v.bits (omega (arith, reaches.fitting.size, reaches.fitting.length.some)))
      reaches.found

  parts_here : Parts (value_cell_of values i) reaches.reached v.bits
  parts_here =
      subst (λ c. Parts c reaches.reached v.bits) (sym cell_here)
      (cell_parts v.scene.declares v.name.word reaches.reached v.bits reaches.found reaches.fitting.fits)

  -- the access by what its name reaches
  field_here : (n : ℕ) → field_of v.scene.table v.name v.bits n ≡ field_in v.name v.bits reaches.reached n
  unfolding field_of
  field_here n =
      ap (λ (o : Option Reach). elim o [ none ↦ gives (record { word = 0; low = 0; size = 0 }) | some r ↦ field_in v.name v.bits r n ]) reaches.found

  -- without a subscript
  record Plain : Type 0 where
    behind : BitsAt records (i + 1)
    answer : {n : ℕ} {f : Located} → SizeTold records (i + 1) n → f ≡ located_at (value_cell_of values i) 0 (i + 1 + n) → AccessAnswer v (Ok f)

  plain : {k : ℕ} → k ≡ kind_byte records (i + 1) → (k ≡ kind_no LBra → ⊥) → Plain
  unfolding second index_of evaluate_access evaluate_index access then field_in word_of
  plain {k} is n = go v.subscript refl second_kind
    where
      wordless : (w : Option Names) → subscripted w no_index ≡ true → w ≡ none
      wordless none e = refl
      wordless (some s) e = impossible (cc)

      go : (s : Subscript) → v.subscript ≡ s → (kind_byte records (i + 1) ≡ kind_no (second s v.bits v.next v.rest).token.kind) → Plain
      go no_subscript q k =
          let r = reaches.reached in
          let behind : BitsAt records (i + 1) = record {
            text = v.scene.text;
            values = values;
            tokens = v.scene.tokens;
            holds = v.scene.holds;
            bits = v.bits;
            next = v.next;
            rest = v.rest;
            reads = name_here.behind ∙ ap (λ s. subscript_tokens s (bits_tokens v.bits (v.next ∷ v.rest))) q;
            ends = v.ends;
          } in
          let bare : r.words ≡ none = wordless r.words (ap (λ s. subscripted r.words (index_of s)) (sym q) ∙ reaches.fitting.subscripts) in
          let one : field_in v.name v.bits r 0 ≡ gives (record { word = r.first + 0; low = access_low r v.bits; size = access_bits r v.bits })
          = ap (λ (w : Option Names). then (word_of v.name.place w 0) (λ k. gives (record { word = r.first + k; low = access_low r v.bits; size = access_bits r v.bits }))) bare in
          record {
            behind = behind;
            answer = λ size is. subst (λ f. AccessAnswer v (Ok f)) (sym is) (record {
              comes =
                  ap (λ s. then (evaluate_index v.scene.table (words_of v.scene) (index_of s)) (λ n. field_of v.scene.table v.name v.bits n)) q
                  ∙ field_here 0 ∙ one ∙ same 0 parts_here.first parts_here.low parts_here.bits;
              past = omega arith;
              behind = behind_bits behind size;
            });
          }
      go (subscript l o t r) q k = absurd (n (is ∙ k))

  module _ {k : ℕ} (is : k ≡ kind_byte records (i + 1)) (n : k ≡ kind_no LBra → ⊥) where
    pub plain_bits : (values : List ℕ) × BitsView records values (i + 1)
    plain_bits = ((plain is n).behind.values, bits_view (plain is n).behind)

    pub plain_small : {m : ℕ} → SizeTold records (i + 1) m → i + 1 + m < most_tokens
    plain_small f = bits_small (plain is n).behind f

    pub plain_answer : {m : ℕ} {g : Located} → SizeTold records (i + 1) m → g ≡ located_at (value_cell_of values i) 0 (i + 1 + m) → AccessAnswer v (Ok g)
    plain_answer f e = (plain is n).answer f e

  -- with one
  record Indexed : Type 0 where
    deep : 0 < depth
    view : ExpressionAt records values carriers (i + 2) (depth - 1)
    small : {r : Result Worked Outside} {w : Worked} → ExpressionTold records values carriers (i + 2) (depth - 1) r → r ≡ Ok w → w.next < most_tokens
    inside : {r : Result Worked Outside} {w : Worked} → ExpressionTold records values carriers (i + 2) (depth - 1) r → r ≡ Ok w
        → SubscriptedAt records values i w.number (w.next + 1)
    answer : {r : Result Worked Outside} {w : Worked} (f : ExpressionTold records values carriers (i + 2) (depth - 1) r) (e : r ≡ Ok w) (q : Result Located Outside)
        → ((s : SubscriptedAt records values i w.number (w.next + 1)) → SubscriptedAnswer s q) → AccessAnswer v q
    faults : {r : Result Worked Outside} {o : Outside} → ExpressionTold records values carriers (i + 2) (depth - 1) r → r ≡ Err o → AccessAnswer v (Err o)

  indexed : kind_byte records (i + 1) ≡ kind_no LBra → Indexed
  unfolding second index_of expr_of evaluate_access evaluate_index access then
  indexed n = go v.subscript refl second_kind v.shallow
    where
      has_words : (w : Option Names) (l : Info) (o : Operand) (t : Tail) (r : Info) → subscripted w (index_of (subscript l o t r)) ≡ true → (s : Names) × (w ≡ some s)
      has_words none l o t r e = impossible (cc)
      has_words (some s) l o t r e = (s, refl)

      go : (s : Subscript) → v.subscript ≡ s → kind_byte records (i + 1) ≡ kind_no (second s v.bits v.next v.rest).token.kind → subscript_nest s ≤ depth → Indexed
      go no_subscript q k h = absurd (no_bracket v.bits k)
        where
          no_bracket : (b : Bits) → kind_byte records (i + 1) ≡ kind_no (second no_subscript b v.next v.rest).token.kind → ⊥
          no_bracket all_bits k = kinds.no_index v.next.kind v.ends (sym k ∙ n)
          no_bracket (bits l c r) k = omega arith
      go (subscript l o t r) q k h =
          let ds = v.scene.table in
          let s = words_of v.scene in
          let reached = reaches.reached in
          let has = has_words reached.words l o t r (ap (λ s. subscripted reached.words (index_of s)) (sym q) ∙ reaches.fitting.subscripts) in
          let named = words_named v.scene.declares v.name.word reached reaches.found in
          let whole : evaluate_access ds s (access v.name v.subscript v.bits) ≡ evaluate_access ds s (access v.name (subscript l o t r) v.bits)
          = ap (λ t. evaluate_access ds s (access v.name t v.bits)) q in
          let view : ExpressionAt records values carriers (i + 2) (depth - 1) = record {
            scene = v.scene;
            first = o;
            tail = t;
            next = tk RBra r;
            rest = bits_tokens v.bits (v.next ∷ v.rest);
            reads =
                behind_far v.scene.tokens i _ v.reads 2
                ∙ ap (λ s. drop 2 (tk Name v.name ∷ subscript_tokens s (bits_tokens v.bits (v.next ∷ v.rest)))) q;
            ends = refl;
            shallow = omega arith;
            sized = subst (λ t. SizedIndex v.scene.outer ds (index_of t)) q v.sized.2;
          } in
          let inside : (w : Worked) → ExpressionAnswer view (Ok w) → SubscriptedAt records values i w.number (w.next + 1) = λ w a.
          record {
            behind = record {
              text = v.scene.text;
              values = values;
              tokens = v.scene.tokens;
              holds = v.scene.holds;
              bits = v.bits;
              next = v.next;
              rest = v.rest;
              reads = (here v.scene.tokens w.next _ _ a.behind).behind;
              ends = v.ends;
            };
            name = v.name;
            within = name_here.within;
            here = name_here.token;
            before = omega (arith, a.past);
            room = cell_room;
            reached = reached;
            words = has.0;
            has = has.1;
            parts = parts_here;
            left_small = omega (arith, named.left, ap left_name has.1);
            right_small = omega (arith, named.right, ap right_name has.1);
          } in
          let chosen : Outcome Value → Outcome Field = λ o. then (then o (λ x. gives x.number)) (λ n. field_of ds v.name v.bits n) in
          record {
            deep = omega arith;
            view = view;
            small = λ {r} {w} f e.
                omega (arith, (here v.scene.tokens w.next _ _ (subst (ExpressionAnswer view) e (f view)).behind).within, v.scene.holds.few);
            inside = λ {r} {w} f e. inside w (subst (ExpressionAnswer view) e (f view));
            answer = λ {r} {w} f e d g.
                let a = subst (ExpressionAnswer view) e (f view) in by d (whole ∙ ap chosen a.comes ∙ field_here w.number) (g (inside w a));
            faults = λ {r} {o} f e. whole ∙ ap chosen (subst (ExpressionAnswer view) e (f view));
          }
        where
          by : {o : Outcome Field} (r : Result Located Outside) → evaluate_access v.scene.table (words_of v.scene) (access v.name v.subscript v.bits) ≡ o
              → Locates v.scene.tokens (v.next ∷ v.rest) i o r → AccessAnswer v r
          by (Ok f) e a = record { comes = e ∙ a.comes; past = a.past; behind = a.behind }
          by (Err o) e a = e ∙ a

  module _ (n : kind_byte records (i + 1) ≡ kind_no LBra) where
    pub index_deep : 0 < depth
    index_deep = (indexed n).deep

    pub index_view : ExpressionAt records values carriers (i + 2) (depth - 1)
    index_view = (indexed n).view

    pub index_faults : {r : Result Worked Outside} {o : Outside} → ExpressionTold records values carriers (i + 2) (depth - 1) r → r ≡ Err o → AccessAnswer v (Err o)
    index_faults f e = (indexed n).faults f e

    module _ {r : Result Worked Outside} {w : Worked} (f : ExpressionTold records values carriers (i + 2) (depth - 1) r) (e : r ≡ Ok w) where
      pub index_small : w.next < most_tokens
      index_small = (indexed n).small f e

      pub index_inside : SubscriptedAt records values i w.number (w.next + 1)
      index_inside = (indexed n).inside f e

      pub index_answer : (q : Result Located Outside) → ((s : SubscriptedAt records values i w.number (w.next + 1)) → SubscriptedAnswer s q) → AccessAnswer v q
      index_answer q g = (indexed n).answer f e q g
