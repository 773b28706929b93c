-- Which action stands at a token, by the kinds of its first two tokens in the table.
-- Assumes nothing.
use Rattle.std.specs.Prelude.{ℕ, ◌+◌, ◌<◌, ◌≡◌, refl, Bool, true, false, List, ◌∷◌, length, drop}
use Rattle.std.proofs.Common.{sym, ap, ◌∙◌, subst, arith, ne_eqb}
use Rattle.rules.specs.Text.Tokens.{Kind, kind_no, same, Token, tk, Name, LPar, Becomes, BEGIN, IF, DECODE, REPEAT, LEAVE, RESTART, STOP, NO-OP}
use Rattle.rules.specs.Grammar.Trees.{Tokens, all_bits, bits, no_subscript, subscript, alone, joined, Action, block, labelled, if_then, decode, repeat, leave, restart, activate, stop, no_op, transfer, action_tokens}
use Rattle.laws_grammar.specs.Cited.Kinds.{kind_at}
use Rattle.laws_grammar.specs.Grammar.Kinds.{kind_at_kind_no}
use Rattle.laws_grammar.specs.Cited.Heads.{head_kind}
use Rattle.laws_grammar.specs.Grammar.Heads.{behind_head, action_head, second_kind, a_Block, a_label, a_test, a_choice, a_loop, a_leave, a_restart, an_activation, a_stop, a_no_op, a_transfer, named_form, form_of, Is, view}
use Rattle.laws_code.specs.Cited.Code.{first_of}
use Rattle.records.specs.Holds.{kind_byte, Holds}
use Rattle.table.specs.Laws.Positions.{here, kind_here}

pub kind_of : (k : Kind) (n : ℕ) → kind_no k ≡ n → k ≡ kind_at n
kind_of k n e = sym (kind_at_kind_no k) ∙ ap kind_at e

pub not_kind : (k l : Kind) → (kind_no k ≡ kind_no l → ⊥) → k ≡ l → ⊥
not_kind k l n e = n (ap kind_no e)

module _ (a : Action) where
  headed : (k : Kind) → head_kind a ≡ k → Is (form_of k (second_kind a)) a
  headed k e = subst (λ (k : Kind). Is (form_of k (second_kind a)) a) e (view a)

  pub block_is : head_kind a ≡ BEGIN → Is a_Block a
  block_is e = headed BEGIN e

  pub test_is : head_kind a ≡ IF → Is a_test a
  test_is e = headed IF e

  pub choice_is : head_kind a ≡ DECODE → Is a_choice a
  choice_is e = headed DECODE e

  pub loop-is : head_kind a ≡ REPEAT → Is a_loop a
  loop-is e = headed REPEAT e

  pub leave_is : head_kind a ≡ LEAVE → Is a_leave a
  leave_is e = headed LEAVE e

  pub restart_is : head_kind a ≡ RESTART → Is a_restart a
  restart_is e = headed RESTART e

  pub stop_is : head_kind a ≡ STOP → Is a_stop a
  stop_is e = headed STOP e

  pub no_op_is : head_kind a ≡ NO-OP → Is a_no_op a
  no_op_is e = headed NO-OP e

  module _ (named : head_kind a ≡ Name) where
    named_is : (l : Kind) → second_kind a ≡ l → Is (named_form l) a
    named_is l e = subst (λ (l : Kind). Is (named_form l) a) e (headed Name named)

    pub label_is : second_kind a ≡ Becomes → Is a_label a
    label_is e = named_is Becomes e

    pub activation_is : second_kind a ≡ LPar → Is an_activation a
    activation_is e = named_is LPar e

    pub transfer_is : (kind_no (second_kind a) ≡ kind_no Becomes → ⊥) → (kind_no (second_kind a) ≡ kind_no LPar → ⊥) → Is a_transfer a
    transfer_is n m = by (same (second_kind a) Becomes) (same (second_kind a) LPar) (ne_eqb _ 12 n) (ne_eqb _ 3 m) (headed Name named)
      where
        by : (x y : Bool) → x ≡ false → y ≡ false → Is (elim x [ true ↦ a_label | false ↦ elim y [ true ↦ an_activation | false ↦ a_transfer ] ]) a → Is a_transfer a
        by true y p q h = absurd (let z : ◌≡◌ {A = ℕ} 0 1 = cc in omega arith)
        by false true p q h = absurd (let z : ◌≡◌ {A = ℕ} 0 1 = cc in omega arith)
        by false false p q h = h

-- an action whose first token is its first instruction
pub first_here : (a : Action) (i : ℕ) → (head_kind a ≡ BEGIN → ⊥) → (head_kind a ≡ Name → second_kind a ≡ Becomes → ⊥) → first_of i a ≡ i
unfolding first_of
first_here (block b a m) i n l = absurd (n refl)
first_here (labelled x b a) i n l = absurd (l refl refl)
first_here (if_then x o t w a) i n l = refl
first_here (decode x o t w b v) i n l = refl
first_here (repeat x a) i n l = refl
first_here (leave x y) i n l = refl
first_here (restart x y) i n l = refl
first_here (activate x y z) i n l = refl
first_here (stop x y z) i n l = refl
first_here (no_op x y z) i n l = refl
first_here (transfer x s b j e o t) i n l = refl

-- the second token of an action that begins with a name
pub record Second (a : Action) (ts : Tokens) : Type 0 where
  pub token : Token
  pub more : Tokens
  pub is : behind_head a ts ≡ token ∷ more
  pub kind : token.kind ≡ second_kind a

clash : {A : Type 0} (k : Kind) → (kind_no k ≡ kind_no Name → ⊥) → k ≡ Name → A
clash k n e = absurd (n (ap kind_no e))

second : (a : Action) (ts : Tokens) → head_kind a ≡ Name → Second a ts
second (block b a m) ts e = clash BEGIN (λ z. omega arith) e
second (labelled n b a) ts e = record { token = tk Becomes b; more = action_tokens a ts; is = refl; kind = refl }
second (if_then i o t w a) ts e = clash IF (λ z. omega arith) e
second (decode i o t w b v) ts e = clash DECODE (λ z. omega arith) e
second (repeat i a) ts e = clash REPEAT (λ z. omega arith) e
second (leave i n) ts e = clash LEAVE (λ z. omega arith) e
second (restart i n) ts e = clash RESTART (λ z. omega arith) e
second (activate n l r) ts e = record { token = tk LPar l; more = _; is = refl; kind = refl }
second (stop i l r) ts e = clash STOP (λ z. omega arith) e
second (no_op i l r) ts e = clash NO-OP (λ z. omega arith) e
second (transfer n no_subscript all_bits alone q o t) ts e = record { token = _; more = _; is = refl; kind = refl }
second (transfer n no_subscript all_bits (joined x y s b j) q o t) ts e = record { token = _; more = _; is = refl; kind = refl }
second (transfer n no_subscript (bits l c r) j q o t) ts e = record { token = _; more = _; is = refl; kind = refl }
second (transfer n (subscript l p q r) b j f o t) ts e = record { token = _; more = _; is = refl; kind = refl }

-- what the table has of an action that begins at i
module _ {text records values : List ℕ} {ts : Tokens} (h : Holds text records values ts) (i : ℕ) (a : Action) (rest : Tokens)
    (reads : drop i ts ≡ action_tokens a rest) where
  pub action_within : i < length ts
  action_within = (here ts i _ _ (reads ∙ action_head a rest)).within

  pub head_byte : kind_byte records i ≡ kind_no (head_kind a)
  head_byte = let x = here ts i _ _ (reads ∙ action_head a rest) in kind_here h i _ x.within x.token

  pub head_is : {k : ℕ} (n : ℕ) → k ≡ kind_byte records i → k ≡ n → head_kind a ≡ kind_at n
  head_is n e q = kind_of (head_kind a) n (sym head_byte ∙ (sym e ∙ q))

  module _ (named : head_kind a ≡ Name) where
    second_here : Second a rest
    second_here = second a rest named

    behind_name : drop (i + 1) ts ≡ second_here.token ∷ second_here.more
    behind_name = (here ts i _ _ (reads ∙ action_head a rest)).behind ∙ second_here.is

    pub second_within : i + 1 < length ts
    second_within = (here ts (i + 1) _ _ behind_name).within

    pub second_byte : kind_byte records (i + 1) ≡ kind_no (second_kind a)
    second_byte =
        let x = here ts (i + 1) _ _ behind_name in kind_here h (i + 1) _ x.within x.token ∙ ap kind_no second_here.kind

    pub second_is : {k : ℕ} (n : ℕ) → k ≡ kind_byte records (i + 1) → k ≡ n → second_kind a ≡ kind_at n
    second_is n e q = kind_of (second_kind a) n (sym second_byte ∙ (sym e ∙ q))
