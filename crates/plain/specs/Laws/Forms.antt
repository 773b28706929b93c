-- Which simple action stands in the table, by the kinds of its first two tokens.
-- Assumes nothing.
use Rattle.std.specs.Prelude.{ℕ, ◌+◌, ◌*◌, ◌<◌, ◌≤◌, ◌≡◌, true, false, not, List, [], ◌∷◌, length}
use Rattle.std.proofs.Math.Path.{refl, sym, ap}
use Rattle.std.proofs.Common.{ap₂, ◌∙◌, true≢false, arith, length-drop, length-append}
use Rattle.std.proofs.Math.ListN.{drop}
use Rattle.laws_grammar.specs.Grammar.Heads.{action_head}
use Rattle.laws_grammar.specs.Cited.Nesting.{action_nest}
use Rattle.laws_grammar.specs.Grammar.Positions.{action_writes}
use Rattle.rules.specs.Text.Tokens.{Kind, Name, LPar, RPar, Equals, LEAVE, RESTART, STOP, NO-OP, Info, Token, tk, kind_no, Becomes}
use Rattle.rules.specs.Grammar.Trees.{Tokens, Bits, all_bits, bits, bits_tokens, Operand, operand_tokens, Tail, tail_tokens, Subscript, no_subscript, subscript, subscript_tokens, Joined, alone, joined, joined_tokens}
use Rattle.rules.specs.Grammar.Trees.{Action, block, labelled, if_then, decode, repeat, leave, restart, activate, stop, no_op, transfer, action_tokens}
use Rattle.rules.specs.Declarations.{number_of}
use Rattle.rules.specs.Faults.Fault.{when}
use Rattle.rules.specs.Faults.Declared.{is_known, declared_at}
use Rattle.rules.specs.Faults.Bodies.{activated, action_faults}
use Rattle.records.specs.Holds.{kind_byte, token_at}
use Rattle.keys.specs.Keys.{no_key, least_by, least_key}
use Rattle.table.specs.Laws.Positions.{here, far, token_far, behind_far, kind_far}
use Rattle.records.specs.Words.{NameAt, word_at}
use Rattle.stacks.specs.Stacks.{stacked_words}
use Rattle.plain.specs.declared.Walked.{Walked}
use Rattle.plain.specs.Stage.{Stage, outer_of, table_of}
use Rattle.plain.specs.Actions.{ActionView, faults_under, ActionAnswer, Simple}
use Rattle.plain.specs.Jumps.{is_jump, JumpView, jump_faults, CallView, call_faults, TransferView, TransferAnswer}
use Rattle.plain.specs.Laws.Known.{token_room}

-- behind the name of a transfer stands a token, and neither `(` nor `:=`
abbrev pub behind_name : Subscript → Bits → Joined → Info → Tokens → Tokens
behind_name s b j e ts = subscript_tokens s (bits_tokens b (joined_tokens j (tk Equals e ∷ ts)))

pub second_token : (s : Subscript) (b : Bits) (j : Joined) (e : Info) (ts : Tokens)
    → (0 < length (behind_name s b j e ts))
    × ((kind_no (token_at (behind_name s b j e ts) 0).kind ≡ kind_no LPar → ⊥) × (kind_no (token_at (behind_name s b j e ts) 0).kind ≡ kind_no Becomes → ⊥))
second_token (subscript l o t r) b j e ts = (omega arith, (λ z. omega arith, λ z. omega arith))
second_token no_subscript (bits l n x) j e ts = (omega arith, (λ z. omega arith, λ z. omega arith))
second_token no_subscript all_bits (joined a n s b j) e ts = (omega arith, (λ z. omega arith, λ z. omega arith))
second_token no_subscript all_bits alone e ts = (omega arith, (λ z. omega arith, λ z. omega arith))

module _ {text records values decls : List ℕ} (s : Stage text records values decls) (i : ℕ) (rest : Tokens) where
  abbrev ts : Tokens
  ts = s.tokens

  pub data SeenSimple : Action → Type 0 where
    jump_seen : {a : Action} → (kind_byte records i ≡ kind_no Name → ⊥) → is_jump (kind_byte records i) ≡ true → NameAt ts (i + 1) → drop (i + 2) ts ≡ rest
        → ((ws : List (List ℕ)) → action_faults (outer_of s) (table_of s) ws a ≡ when (not (is_known (word_at ts (i + 1)) ws)) 44 (token_at ts i).info.place)
        → SeenSimple a
    call_seen : {a : Action} → kind_byte records i ≡ kind_no Name → kind_byte records (i + 1) ≡ kind_no LPar → NameAt ts i → drop (i + 3) ts ≡ rest
        → ((ws : List (List ℕ)) → action_faults (outer_of s) (table_of s) ws a
        ≡ activated (outer_of s) (table_of s) (token_at ts i).info (declared_at (table_of s) (number_of (table_of s) (token_at ts i).info.word)))
        → SeenSimple a
    plain_seen : {a : Action} → (kind_byte records i ≡ kind_no Name → ⊥) → is_jump (kind_byte records i) ≡ false → i + 2 < length ts → drop (i + 3) ts ≡ rest
        → ((ws : List (List ℕ)) → action_faults (outer_of s) (table_of s) ws a ≡ []) → SeenSimple a
    transfer_seen : {a : Action} {n : Info} {x : Subscript} {b : Bits} {j : Joined} {e : Info} {o : Operand} {t : Tail} → kind_byte records i ≡ kind_no Name
        → (kind_byte records (i + 1) ≡ kind_no LPar → ⊥) → a ≡ transfer n x b j e o t → SeenSimple a

  module _ (xs : Tokens) (reads : drop i ts ≡ xs) where
    pub first_kind : 0 < length xs → kind_byte records i ≡ kind_no (token_at xs 0).kind
    first_kind l = kind_far s.ready.holds i xs reads i 0 (omega arith) l

    pub next_kind : 1 < length xs → kind_byte records (i + 1) ≡ kind_no (token_at xs 1).kind
    next_kind l = kind_far s.ready.holds i xs reads (i + 1) 1 refl l

    pub token_now : token_at ts i ≡ token_at xs 0
    token_now = ap (token_at ts) (omega arith) ∙ token_far ts i xs reads 0

    pub token_next : token_at ts (i + 1) ≡ token_at xs 1
    token_next = token_far ts i xs reads 1

  see_jump : (a : Action) (k : Kind) (x n : Info) → drop i ts ≡ tk k x ∷ tk Name n ∷ rest → (kind_no k ≡ kind_no Name → ⊥) → is_jump (kind_no k) ≡ true
      → ((ws : List (List ℕ)) → action_faults (outer_of s) (table_of s) ws a ≡ when (not (is_known n.word ws)) 44 x.place) → SeenSimple a
  see_jump a k x n e z j f =
      let is_kind = first_kind _ e (omega arith) in
      jump_seen (λ q. z (sym is_kind ∙ q)) (ap is_jump is_kind ∙ j)
      (record { within = far ts i _ e 1 (omega arith); kind = ap (λ (t : Token). t.kind) (token_next _ e) }) (behind_far ts i _ e 2)
      (λ ws. f ws ∙ sym (ap₂ (λ (t u : Token). when (not (is_known t.info.word ws)) 44 u.info.place) (token_next _ e) (token_now _ e)))

  see_plain : (a : Action) (k : Kind) (x l r : Info) → drop i ts ≡ tk k x ∷ tk LPar l ∷ tk RPar r ∷ rest → (kind_no k ≡ kind_no Name → ⊥) → is_jump (kind_no k) ≡ false
      → ((ws : List (List ℕ)) → action_faults (outer_of s) (table_of s) ws a ≡ []) → SeenSimple a
  see_plain a k x l r e z j f =
      let is_kind = first_kind _ e (omega arith) in
      plain_seen (λ q. z (sym is_kind ∙ q)) (ap is_jump is_kind ∙ j) (far ts i _ e 2 (omega arith)) (behind_far ts i _ e 3) f

  pub see_simple : (a : Action) → Simple a → drop i ts ≡ action_tokens a rest → SeenSimple a
  unfolding action_faults
  see_simple (block b a m) p e = absurd p
  see_simple (labelled n b a) p e = absurd p
  see_simple (if_then x o t w a) p e = absurd p
  see_simple (decode x o t w b v) p e = absurd p
  see_simple (repeat x a) p e = absurd p
  see_simple (leave x n) p e = see_jump (leave x n) LEAVE x n e (λ z. omega arith) refl (λ ws. refl)
  see_simple (restart x n) p e = see_jump (restart x n) RESTART x n e (λ z. omega arith) refl (λ ws. refl)
  see_simple (activate n l r) p e =
      call_seen (first_kind _ e (omega arith)) (next_kind _ e (omega arith))
      (record { within = (here ts i _ _ e).within; kind = ap (λ (t : Token). t.kind) (token_now _ e) }) (behind_far ts i _ e 3)
      (λ ws. sym (ap (λ (t : Token). activated (outer_of s) (table_of s) t.info (declared_at (table_of s) (number_of (table_of s) t.info.word))) (token_now _ e)))
  see_simple (stop x l r) p e = see_plain (stop x l r) STOP x l r e (λ z. omega arith) refl (λ ws. refl)
  see_simple (no_op x l r) p e = see_plain (no_op x l r) NO-OP x l r e (λ z. omega arith) refl (λ ws. refl)
  see_simple (transfer n x b j q o t) p e =
      let second = second_token x b j q (operand_tokens o (tail_tokens t rest)) in
      transfer_seen (first_kind _ e (omega arith)) (λ z. second.1.0 (sym (next_kind _ e (let l = second.0 in omega arith)) ∙ z)) refl

-- two tokens at least stand there
pub action_within : {text records values decls : List ℕ} (s : Stage text records values decls) (i : ℕ) (a : Action) (x : Token) (rest : Tokens)
    → drop i s.tokens ≡ action_tokens a (x ∷ rest) → i + 1 < length s.tokens
action_within s i a x rest e =
    omega (
      arith,
      ap length e,
      length-drop i s.tokens,
      ap length ((action_writes a).grows [] (x ∷ rest)),
      length-append (action_tokens a []) (x ∷ rest),
      ap length (action_head a []),
    )

-- THE ANSWERS
module _ {text records values decls room : List ℕ} {i count depth : ℕ} (v : ActionView text records values decls room i count depth) where
  abbrev pub second_within : i + 1 < length v.stage.tokens
  second_within = action_within v.stage i v.action v.next v.rest v.reads

  pub action_inside : i + 1 < 8192
  action_inside = omega (arith, second_within, v.stage.ready.holds.few)

  pub first_room : 8 * i + 8 ≤ length records
  first_room = token_room v.stage (let l = second_within in omega arith)

  pub second_room : 8 * (i + 1) + 8 ≤ length records
  second_room = token_room v.stage second_within

module _ {text records values decls room : List ℕ} {i count depth : ℕ} (v : ActionView text records values decls room i count depth) (p : Simple v.action) where
  abbrev rest : Tokens
  rest = v.next ∷ v.rest

  abbrev Seen : Action → Type 0
  Seen a = SeenSimple v.stage i rest a

  pub seen : Seen v.action
  seen = see_simple v.stage i rest v.action p v.reads

  module _ {k : ℕ} (is_kind : k ≡ kind_byte records i) where
    -- LEAVE and RESTART
    module _ (z : k ≡ kind_no Name → ⊥) (j : is_jump k ≡ true) where
      pub jump_target : {a : Action} → Seen a → NameAt v.stage.tokens (i + 1)
      jump_target (jump_seen _ _ n _ _) = n
      jump_target (call_seen e _ _ _ _) = absurd (z (is_kind ∙ e))
      jump_target (plain_seen _ n _ _ _) = absurd (true≢false (sym j ∙ ap is_jump is_kind ∙ n))
      jump_target (transfer_seen e _ _) = absurd (z (is_kind ∙ e))

      abbrev pub jump_view : JumpView records room i count
      jump_view = record { text = text; values = values; decls = decls; stage = v.stage; stacked = v.stacked; target = jump_target seen; large = v.large }

      pub jump_answer : {r : ℕ} → r ≡ least_key (jump_faults jump_view) → ActionAnswer v (record { key = r; next = i + 2 })
      jump_answer {r} e = go seen
        where
          go : Seen v.action → ActionAnswer v (record { key = r; next = i + 2 })
          go (jump_seen _ _ _ d f) = record { key = e ∙ ap least_key (sym (f (stacked_words v.stage.tokens room count))); past = omega arith; behind = d }
          go (call_seen q _ _ _ _) = absurd (z (is_kind ∙ q))
          go (plain_seen _ n _ _ _) = absurd (true≢false (sym j ∙ ap is_jump is_kind ∙ n))
          go (transfer_seen q _ _) = absurd (z (is_kind ∙ q))

    -- STOP() and NO.OP()
    module _ (z : k ≡ kind_no Name → ⊥) (j : is_jump k ≡ false) where
      pub plain_answer : ActionAnswer v (record { key = no_key; next = i + 3 })
      unfolding least_by
      plain_answer = go seen
        where
          go : Seen v.action → ActionAnswer v (record { key = no_key; next = i + 3 })
          go (jump_seen _ n _ _ _) = absurd (true≢false (sym n ∙ sym (ap is_jump is_kind) ∙ j))
          go (call_seen q _ _ _ _) = absurd (z (is_kind ∙ q))
          go (plain_seen _ _ _ d f) = record { key = sym (ap least_key (f (stacked_words v.stage.tokens room count))); past = omega arith; behind = d }
          go (transfer_seen q _ _) = absurd (z (is_kind ∙ q))

    module _ (n : k ≡ kind_no Name) {m : ℕ} (is_next : m ≡ kind_byte records (i + 1)) where
      -- an activation
      module _ (c : m ≡ 3) where
        pub call_name : {a : Action} → Seen a → NameAt v.stage.tokens i
        call_name (jump_seen z _ _ _ _) = absurd (z (sym is_kind ∙ n))
        call_name (call_seen _ _ x _ _) = x
        call_name (plain_seen z _ _ _ _) = absurd (z (sym is_kind ∙ n))
        call_name (transfer_seen _ q _) = absurd (q (sym is_next ∙ c))

        abbrev pub call_view : CallView records decls i
        call_view = record { text = text; values = values; stage = v.stage; name = call_name seen }

        pub call_answer : {r : ℕ} → r ≡ least_key (call_faults call_view) → ActionAnswer v (record { key = r; next = i + 3 })
        call_answer {r} e = go seen
          where
            go : Seen v.action → ActionAnswer v (record { key = r; next = i + 3 })
            go (jump_seen z _ _ _ _) = absurd (z (sym is_kind ∙ n))
            go (call_seen _ _ _ d f) = record { key = e ∙ ap least_key (sym (f (stacked_words v.stage.tokens room count))); past = omega arith; behind = d }
            go (plain_seen z _ _ _ _) = absurd (z (sym is_kind ∙ n))
            go (transfer_seen _ q _) = absurd (q (sym is_next ∙ c))

      -- a transfer
      module _ (c : m ≡ 3 → ⊥) where
        pub record TransferHere : Type 0 where
          pub view : TransferView records values decls i depth
          pub answers : (r : Walked) → TransferAnswer view r → ActionAnswer v r

        pub transfer_here : TransferHere
        unfolding action_faults
        transfer_here = go v.action seen v.reads v.shallow (λ r k l d. record { key = k; past = l; behind = d })
          where
            go : (a : Action) → Seen a → drop i v.stage.tokens ≡ action_tokens a rest → action_nest a ≤ depth
                → ((r : Walked) → r.key ≡ least_key (faults_under v.stage room count a) → i < r.next → drop r.next v.stage.tokens ≡ rest → ActionAnswer v r)
                → TransferHere
            go a (jump_seen z _ _ _ _) e h f = absurd (z (sym is_kind ∙ n))
            go a (call_seen _ q _ _ _) e h f = absurd (c (is_next ∙ q))
            go a (plain_seen z _ _ _ _) e h f = absurd (z (sym is_kind ∙ n))
            go a (transfer_seen {n = x} {x = s} {b = b} {j = j} {e = q} {o = o} {t = t} _ _ is) e h f = record {
              view = record {
                text = text;
                stage = v.stage;
                name = x;
                subscript = s;
                bits = b;
                joined = j;
                equals = q;
                first = o;
                tail = t;
                next = v.next;
                rest = v.rest;
                reads = rw is at e;
                ends = v.ends;
                shallow = rw is at h;
              };
              answers = λ r y. f r (rw is y.key) y.past y.behind;
            }
