-- An access: its name, perhaps a subscript, perhaps bits.
-- Assumes nothing.
use Rattle.std.specs.Prelude.{ℕ, ◌+◌, ◌-◌, ◌*◌, ◌<◌, ◌≤◌, min, ◌≡◌, true, false, List, ◌∷◌, length}
use Rattle.std.proofs.Math.Path.{refl, sym, ap}
use Rattle.std.proofs.Common.{◌∙◌}
use native.Mathlib.Omega.{arith}
use Rattle.std.proofs.Math.ListN.{drop}
use Rattle.rules.specs.Text.Tokens.{Name, Const, LBra, RBra, Less, kind_no, Token, tk}
use Rattle.rules.specs.Grammar.Trees.{Tokens, Bits, all_bits, bits, bits_tokens, bits_end_tokens, operand_tokens, tail_tokens, Subscript, no_subscript, subscript, subscript_tokens}
use Rattle.rules.specs.Grammar.Precedence.{no_index, index, index_of, expr_of}
use Rattle.rules.specs.Faults.Bodies.{judge_factor, judge_index}
use Rattle.laws_grammar.specs.Cited.Nesting.{subscript_nest}
use Rattle.records.specs.Holds.{kind_byte}
use Rattle.keys.specs.Keys.{no_key}
use Rattle.table.specs.Laws.Positions.{Here, here, behind_far, kind_here, record_within}
use Rattle.accesses.specs.declared.Judged.{Judged as Answer}
use Rattle.table.specs.Laws.Operators as kinds
use Rattle.weighing.specs.Laws.Weights.{weighs_again, beside_unsound, beside_sound}
use Rattle.expressions.specs.Expressions.{ExpressionAt, ExpressionAnswer, AccessAt, AccessAnswer}
use Rattle.accesses.specs.Names.{NamedAt, NamedAnswer}

-- what stands behind the name
record Second (s : Subscript) (b : Bits) (ts : Tokens) : Type 0 where
  token : Token
  rest : Tokens
  reads : subscript_tokens s (bits_tokens b ts) ≡ token ∷ rest

second : (s : Subscript) (b : Bits) (n : Token) (ts : Tokens) → Second s b (n ∷ ts)
second no_subscript all_bits n ts = record { token = n; rest = ts; reads = refl }
second no_subscript (bits l c e) n ts = record { token = tk Less l; rest = tk Const c ∷ bits_end_tokens e (n ∷ ts); reads = refl }
second (subscript l o t r) b n ts = record { token = tk LBra l; rest = operand_tokens o (tail_tokens t (tk RBra r ∷ bits_tokens b (n ∷ ts))); reads = refl }

module _ {records values decls : List ℕ} {i depth : ℕ} (v : AccessAt records values decls i depth) where
  name_here : Here v.scene.tokens i (tk Name v.name) (subscript_tokens v.subscript (bits_tokens v.bits (v.next ∷ v.rest)))
  name_here = here v.scene.tokens i _ _ v.reads

  abbrev behind_name : Second v.subscript v.bits (v.next ∷ v.rest)
  behind_name = second v.subscript v.bits v.next v.rest

  second_here : Here v.scene.tokens (i + 1) behind_name.token behind_name.rest
  second_here = here v.scene.tokens (i + 1) _ _ (name_here.behind ∙ behind_name.reads)

  pub second_room : 8 * (i + 1) + 8 ≤ length records
  second_room = record_within v.scene.ready.holds (i + 1) second_here.within

  second_kind : kind_byte records (i + 1) ≡ kind_no behind_name.token.kind
  second_kind = kind_here v.scene.ready.holds (i + 1) _ second_here.within second_here.token

  -- without a subscript
  pub record Plain : Type 0 where
    pub view : NamedAt records values decls i (i + 1)
    pub answer : {r : Answer} → NamedAnswer view false r → AccessAnswer v r

  pub plain : {k : ℕ} → k ≡ kind_byte records (i + 1) → (k ≡ kind_no LBra → ⊥) → Plain
  unfolding second judge_factor judge_index index_of
  plain e n = go v.subscript refl second_kind
    where
      go : (s : Subscript) → v.subscript ≡ s → (kind_byte records (i + 1) ≡ kind_no (second s v.bits v.next v.rest).token.kind) → Plain
      go no_subscript q k = record {
        view = record {
          scene = v.scene;
          name = v.name;
          bits = v.bits;
          next = v.next;
          rest = v.rest;
          within = name_here.within;
          here = name_here.token;
          before = omega arith;
          reads = name_here.behind ∙ ap (λ s. subscript_tokens s (bits_tokens v.bits (v.next ∷ v.rest))) q;
          ends = v.ends;
        };
        answer = λ f. let a = f no_index refl in record { weighs = rw q (weighs_again a.weighs); past = a.past; behind = a.behind };
      }
      go (subscript l o t r) q k = absurd (n (e ∙ k))

  -- with one
  pub record Indexed : Type 0 where
    pub deep : 0 < depth
    pub view : ExpressionAt records values decls (i + 2) (depth - 1)
    pub name_view : {r : Answer} → ExpressionAnswer view r → NamedAt records values decls i (r.next + 1)
    pub unsound : {r q : Answer} (a : ExpressionAnswer view r) → NamedAnswer (name_view a) true q → min r.key q.key < no_key
        → AccessAnswer v (record { key = min r.key q.key; bits = 0; next = q.next })
    pub sound : {r q : Answer} (a : ExpressionAnswer view r) → NamedAnswer (name_view a) true q → no_key ≤ min r.key q.key
        → AccessAnswer v (record { key = min r.key q.key; bits = q.bits; next = q.next })

  pub indexed : {k : ℕ} → k ≡ kind_byte records (i + 1) → k ≡ kind_no LBra → Indexed
  unfolding second judge_factor judge_index index_of expr_of
  indexed e n = go v.subscript refl second_kind v.shallow
    where
      go : (s : Subscript) → v.subscript ≡ s → kind_byte records (i + 1) ≡ kind_no (second s v.bits v.next v.rest).token.kind → subscript_nest s ≤ depth → Indexed
      go no_subscript q k h = absurd (no_bracket v.bits k)
        where
          no_bracket : (b : Bits) → kind_byte records (i + 1) ≡ kind_no (second no_subscript b v.next v.rest).token.kind → ⊥
          no_bracket all_bits k = kinds.no_index v.next.kind v.ends (sym k ∙ sym e ∙ n)
          no_bracket (bits l c r) k = omega arith
      go (subscript l o t r) q k h = record {
        deep = omega arith;
        view = record {
          scene = v.scene;
          first = o;
          tail = t;
          next = tk RBra r;
          rest = bits_tokens v.bits (v.next ∷ v.rest);
          reads =
              behind_far v.scene.tokens i _ v.reads 2
              ∙ ap (λ s. drop 2 (tk Name v.name ∷ subscript_tokens s (bits_tokens v.bits (v.next ∷ v.rest)))) q;
          ends = refl;
          shallow = omega arith;
        };
        name_view = λ {r} a. record {
          scene = v.scene;
          name = v.name;
          bits = v.bits;
          next = v.next;
          rest = v.rest;
          within = name_here.within;
          here = name_here.token;
          before = let h = a.past in omega arith;
          reads = (here v.scene.tokens r.next _ _ a.behind).behind;
          ends = v.ends;
        };
        unsound = λ a f m. let b = f (index l (expr_of o t) r) refl in record { weighs = rw q (beside_unsound a.weighs b.weighs m); past = b.past; behind = b.behind };
        sound = λ a f m. let b = f (index l (expr_of o t) r) refl in record { weighs = rw q (beside_sound a.weighs b.weighs m); past = b.past; behind = b.behind };
      }
