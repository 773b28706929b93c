-- The first tokens of an action tell which action it is: `view` gives, for their kinds, the constructor with its parts.
use Rattle.std.specs.Prelude.{true, false, ◌≡◌, refl, ◌∷◌}
use Rattle.rules.specs.Text.Tokens.{Kind, Info, tk, same, Name, LPar, RPar, LBra, Less, Becomes, Equals, Arrow, At, BEGIN, IF, DECODE, REPEAT, LEAVE, RESTART, STOP}
use Rattle.rules.specs.Grammar.Trees.{Tokens, Bits, all_bits, bits, bits_tokens, Operand, operand_tokens, Tail, tail_tokens, Subscript, no_subscript, subscript, subscript_tokens, Joined, alone, joined, joined_tokens, Action, block, labelled, if_then, decode, repeat, leave, restart, activate, stop, no_op, transfer, action_tokens, Members, members_tokens, Alternatives, alternatives_tokens}
use Rattle.laws_grammar.specs.Cited.Heads.{head_kind}

abbrev pub head_info : Action → Info
head_info (block b a m) = b
head_info (labelled n b a) = n
head_info (if_then i o t w a) = i
head_info (decode i o t w b v) = i
head_info (repeat i a) = i
head_info (leave i n) = i
head_info (restart i n) = i
head_info (activate n l r) = n
head_info (stop i l r) = i
head_info (no_op i l r) = i
head_info (transfer n s b j e o t) = n

abbrev pub behind_head : Action → Tokens → Tokens
behind_head (block b a m) ts = action_tokens a (members_tokens m ts)
behind_head (labelled n b a) ts = tk Becomes b ∷ action_tokens a ts
behind_head (if_then i o t w a) ts = operand_tokens o (tail_tokens t (tk Arrow w ∷ action_tokens a ts))
behind_head (decode i o t w b v) ts = operand_tokens o (tail_tokens t (tk Arrow w ∷ tk BEGIN b ∷ alternatives_tokens v ts))
behind_head (repeat i a) ts = action_tokens a ts
behind_head (leave i n) ts = tk Name n ∷ ts
behind_head (restart i n) ts = tk Name n ∷ ts
behind_head (activate n l r) ts = tk LPar l ∷ tk RPar r ∷ ts
behind_head (stop i l r) ts = tk LPar l ∷ tk RPar r ∷ ts
behind_head (no_op i l r) ts = tk LPar l ∷ tk RPar r ∷ ts
behind_head (transfer n s b j e o t) ts = subscript_tokens s (bits_tokens b (joined_tokens j (tk Equals e ∷ operand_tokens o (tail_tokens t ts))))

pub action_head : (a : Action) (ts : Tokens) → action_tokens a ts ≡ tk (head_kind a) (head_info a) ∷ behind_head a ts
action_head (block b a m) ts = refl
action_head (labelled n b a) ts = refl
action_head (if_then i o t w a) ts = refl
action_head (decode i o t w b v) ts = refl
action_head (repeat i a) ts = refl
action_head (leave i n) ts = refl
action_head (restart i n) ts = refl
action_head (activate n l r) ts = refl
action_head (stop i l r) ts = refl
action_head (no_op i l r) ts = refl
action_head (transfer n s b j e o t) ts = refl

-- what stands behind the name of a transfer: `[`, `<`, `@` or `=`
abbrev pub joined_kind : Joined → Kind
joined_kind alone = Equals
joined_kind (joined a n s b j) = At

abbrev pub bits_kind : Bits → Kind → Kind
bits_kind all_bits k = k
bits_kind (bits l n e) k = Less

abbrev pub subscript_kind : Subscript → Kind → Kind
subscript_kind no_subscript k = k
subscript_kind (subscript l o t r) k = LBra

-- the second token of an action that begins with a name
abbrev pub second_kind : Action → Kind
second_kind (block b a m) = Name
second_kind (labelled n b a) = Becomes
second_kind (if_then i o t w a) = Name
second_kind (decode i o t w b v) = Name
second_kind (repeat i a) = Name
second_kind (leave i n) = Name
second_kind (restart i n) = Name
second_kind (activate n l r) = LPar
second_kind (stop i l r) = Name
second_kind (no_op i l r) = Name
second_kind (transfer n s b j e o t) = subscript_kind s (bits_kind b (joined_kind j))

-- which action it is, by the kinds of its first two tokens; the second counts only behind a name
pub data Form : Type 0 where
  a_Block a_label a_test a_choice a_loop a_leave a_restart an_activation a_stop a_no_op a_transfer : Form

abbrev pub named_form : Kind → Form
named_form k = elim (same k Becomes) [ true ↦ a_label | false ↦ elim (same k LPar) [ true ↦ an_activation | false ↦ a_transfer ] ]

abbrev pub form_of : Kind → Kind → Form
form_of k l =
    elim (same k Name) [
      | true ↦ named_form l
      | false ↦ elim (same k BEGIN) [
        | true ↦ a_Block
        | false ↦ elim (same k IF) [
          | true ↦ a_test
          | false ↦ elim (same k DECODE) [
            | true ↦ a_choice
            | false ↦ elim (same k REPEAT) [
              | true ↦ a_loop
              | false ↦ elim (same k LEAVE) [
                | true ↦ a_leave
                | false ↦ elim (same k RESTART) [
                  | true ↦ a_restart
                  | false ↦ elim (same k STOP) [ true ↦ a_stop | false ↦ a_no_op ]
                ]
              ]
            ]
          ]
        ]
      ]
    ]

-- the constructor of each form, with its parts
abbrev pub Is : Form → Action → Type 0
Is a_Block a = (b : Info) × (x : Action) × (m : Members) × (a ≡ block b x m)
Is a_label a = (n : Info) × (b : Info) × (x : Action) × (a ≡ labelled n b x)
Is a_test a = (i : Info) × (o : Operand) × (t : Tail) × (w : Info) × (x : Action) × (a ≡ if_then i o t w x)
Is a_choice a = (i : Info) × (o : Operand) × (t : Tail) × (w : Info) × (b : Info) × (v : Alternatives) × (a ≡ decode i o t w b v)
Is a_loop a = (i : Info) × (x : Action) × (a ≡ repeat i x)
Is a_leave a = (i : Info) × (n : Info) × (a ≡ leave i n)
Is a_restart a = (i : Info) × (n : Info) × (a ≡ restart i n)
Is an_activation a = (n : Info) × (l : Info) × (r : Info) × (a ≡ activate n l r)
Is a_stop a = (i : Info) × (l : Info) × (r : Info) × (a ≡ stop i l r)
Is a_no_op a = (i : Info) × (l : Info) × (r : Info) × (a ≡ no_op i l r)
Is a_transfer a =
    (n : Info) × (s : Subscript) × (b : Bits) × (j : Joined) × (e : Info) × (o : Operand) × (t : Tail) × (a ≡ transfer n s b j e o t)

transfer_view : (n : Info) (s : Subscript) (b : Bits) (j : Joined) (e : Info) (o : Operand) (t : Tail)
    → Is (named_form (second_kind (transfer n s b j e o t))) (transfer n s b j e o t)
transfer_view n no_subscript all_bits alone e o t = (n, no_subscript, all_bits, alone, e, o, t, refl)
transfer_view n no_subscript all_bits (joined a m x y j) e o t = (n, no_subscript, all_bits, joined a m x y j, e, o, t, refl)
transfer_view n no_subscript (bits l c r) j e o t = (n, no_subscript, bits l c r, j, e, o, t, refl)
transfer_view n (subscript l p q r) b j e o t = (n, subscript l p q r, b, j, e, o, t, refl)

pub view : (a : Action) → Is (form_of (head_kind a) (second_kind a)) a
view (block b a m) = (b, a, m, refl)
view (labelled n b a) = (n, b, a, refl)
view (if_then i o t w a) = (i, o, t, w, a, refl)
view (decode i o t w b v) = (i, o, t, w, b, v, refl)
view (repeat i a) = (i, a, refl)
view (leave i n) = (i, n, refl)
view (restart i n) = (i, n, refl)
view (activate n l r) = (n, l, r, refl)
view (stop i l r) = (i, l, r, refl)
view (no_op i l r) = (i, l, r, refl)
view (transfer n s b j e o t) = transfer_view n s b j e o t
