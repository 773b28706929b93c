-- What the promise says of expressions and destinations, as the walk takes it: their constants fit, so what has no fault is sized.
-- Assumes nothing.
use Rattle.std.specs.Prelude.{ℕ, suc, ◌<◌, ◌≡◌, List, [], ◌∷◌, ◌++◌, length, take, drop, Result, Ok, Err}
use Rattle.std.proofs.Common.{sym, ◌∙◌, subst, arith, take-append-drop, length-drop}
use Rattle.std.proofs.Math.Path.{ap}
use Rattle.rules.specs.Text.Tokens.{Name, Const, Info, Token, tk}
use Rattle.rules.specs.Grammar.Trees.{Tokens, Bits, bits_tokens, operand_tokens, tail_tokens, Subscript, subscript_tokens, Joined, joined_tokens}
use Rattle.rules.specs.Grammar.Precedence.{Expr}
use Rattle.rules.specs.Limits.{deepest, most_tokens}
use Rattle.rules.specs.Steps.Evaluation.{evaluate}
use Rattle.rules.specs.Faults.Bodies.{judge_destination, judge_joined}
use Rattle.rules.specs.Steps.Actions.{access, joined_accesses}
use Rattle.laws_accepted.proofs.Accepted.Constants.{ConstantOk, ConstantsOk, BitsOk, expression_ok}
use Rattle.laws_accepted.specs.Cited.Lengths.{Sized}
use Rattle.laws_accepted.proofs.Accepted.Lengths.{sized}
use Rattle.laws_accepted.proofs.Accepted.Destinations.{subscripts_ok, destination_sized}
use Rattle.laws_accepted.specs.Cited.Destinations.{SizedDestination}
use Rattle.records.specs.Holds.{token_at}
use Rattle.table.specs.Laws.Positions.{here}
use Rattle.promise.specs.Instructions.{ExpressionStands}
use Rattle.operands.specs.declared.accesses.Outside.{Outside}
use Rattle.operands.specs.declared.expressions.Value.{Value as Worked}
use Rattle.evaluation.specs.Laws.Kinds.{ends_here}
use Rattle.nots.specs.Laws.Nots.{operand_first}
use Rattle.operands.specs.Scene.{Scene, words_of, ExpressionAt, ExpressionAnswer}
use Rattle.evaluation.specs.Standing.{Stood}

-- each constant token is one of 1 to 64 bits
all_ok : (ts : Tokens) → ((i : ℕ) → i < length ts → (token_at ts i).kind ≡ Const → ConstantOk (token_at ts i).info) → ConstantsOk ts
all_ok [] h = tt
all_ok (t ∷ ts) h = (h 0 (omega arith), all_ok ts (λ i l. h (suc i) (omega arith)))

behind_ok : (xs ys : Tokens) → ConstantsOk (xs ++ ys) → ConstantsOk ys
behind_ok [] ys h = h
behind_ok (x ∷ xs) ys h = behind_ok xs ys h.1

-- where two rests of a text are the same, so are their places
pub same_place : (ts : Tokens) (i j : ℕ) (t : Token) (rest : Tokens) → drop i ts ≡ t ∷ rest → drop j ts ≡ t ∷ rest → i ≡ j
same_place ts i j t rest e f =
    omega (arith, (here ts i t rest e).within, (here ts j t rest f).within, length-drop i ts, length-drop j ts, ap length (e ∙ sym f))

module _ {records values carriers : List ℕ} (s : Scene records values carriers) where
  constants_here : (i : ℕ) → ConstantsOk (drop i s.tokens)
  constants_here i =
      behind_ok (take i s.tokens) (drop i s.tokens) (subst ConstantsOk (sym (take-append-drop i s.tokens))
      (all_ok s.tokens (λ i l k. let h = (s.holds.entry i l).constant k in
      record { length = record { some = h.some_bits; short = h.few_bits }; fits = s.fits i l k })))

  -- an expression that stands there
  pub expression_at : (i j : ℕ) (e : Expr) → ExpressionStands s.tokens s.outer s.table i j e → ExpressionAt records values carriers i deepest
  expression_at i j e v =
      let ok = expression_ok v.operand v.tail v.rest (subst ConstantsOk v.reads (constants_here i)) in
      record {
        scene = s;
        first = v.operand;
        tail = v.tail;
        next = v.ends.next;
        rest = v.ends.more;
        reads = v.reads ∙ ap (λ ts. operand_tokens v.operand (tail_tokens v.tail ts)) v.ends.is;
        ends = ends_here v.ends.next.kind v.ends.no_operator v.ends.no_subscript v.ends.no_bits;
        shallow = omega (arith, v.operand_shallow, v.tail_shallow);
        sized = subst (Sized s.outer s.table) v.is (sized s.declares e (subst BitsOk (sym v.is) ok) v.sound);
      }

  pub expression_stood : (i j : ℕ) (e : Expr) (v : ExpressionStands s.tokens s.outer s.table i j e) (r : Result Worked Outside)
      → ExpressionAnswer (expression_at i j e v) r → Stood s j e r
  unfolding expression_at
  expression_stood i j e v (Ok w) a =
      (ap (evaluate s.table (words_of s)) v.is ∙ a.comes, same_place s.tokens w.next j _ _ a.behind (v.behind ∙ v.ends.is))
  expression_stood i j e v (Err o) a = ap (evaluate s.table (words_of s)) v.is ∙ a

  pub expression_small : (i j : ℕ) (e : Expr) → ExpressionStands s.tokens s.outer s.table i j e → i < most_tokens
  expression_small i j e v = omega (arith, (here s.tokens i _ _ (v.reads ∙ operand_first v.operand (tail_tokens v.tail v.rest))).within, s.holds.few)

  -- a destination that stands there is sized
  pub destination_fits : (i : ℕ) (n : Info) (t : Subscript) (b : Bits) (k : Joined) (ts : Tokens)
      → drop i s.tokens ≡ tk Name n ∷ subscript_tokens t (bits_tokens b (joined_tokens k ts))
      → judge_joined s.outer s.table (judge_destination s.outer s.table n t b) k ≡ []
      → SizedDestination s.outer s.table (access n t b ∷ joined_accesses k)
  destination_fits i n t b k ts reads sound =
      destination_sized s.declares n t b k (subscripts_ok n t b k ts (subst ConstantsOk reads (constants_here i)).1) sound
