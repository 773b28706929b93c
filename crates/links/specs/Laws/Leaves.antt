-- Laws of actions with no action inside: the links of each.
-- Assumes nothing.
use Rattle.std.specs.Prelude.{ℕ, ◌+◌, ◌*◌, ◌≤◌, ◌≡◌, refl, false, List, ◌∷◌, length, drop}
use Rattle.std.proofs.Common.{sym, ap, ◌∙◌, arith}
use Rattle.std.proofs.lemmas.Bool.{false≢true}
use Rattle.rules.specs.Text.Tokens.{kind_no, Info, Token, tk, Name, Equals, BEGIN, DECODE, LEAVE, RESTART, STOP, NO-OP, Becomes, LPar}
use Rattle.rules.specs.Grammar.Trees.{Tokens, Bits, all_bits, bits, bits_tokens, Subscript, no_subscript, subscript, subscript_tokens, Joined, alone, joined, joined_tokens, operand_tokens, tail_tokens, Operand, Tail, Action, block, labelled, if_then, decode, repeat, leave, restart, activate, stop, no_op, transfer, action_tokens}
use Rattle.laws_grammar.specs.Grammar.Positions.{Writes, subscript_writes, bits_writes, joined_writes}
use Rattle.laws_grammar.specs.Cited.Heads.{head_kind}
use Rattle.laws_grammar.specs.Grammar.Heads.{second_kind}
use Rattle.laws_code.specs.Cited.Code.{action_size}
use Rattle.records.specs.Holds.{kind_byte, link_cell}
use Rattle.table.specs.Laws.Positions.{here}
use Rattle.records.specs.Words.{NameAt, word_at}
use Rattle.table.specs.Laws.Scans.{equals, past_subscript, past_bits, past_joined}
use Rattle.table.specs.Scans.{scan, halts, stops}
use Rattle.ways.specs.Seeking.{Ground, Seeks}
use Rattle.ways.specs.Laws.Seeking.{found_at}
use Rattle.ways.specs.Laws.Forms.{leave_is, restart_is, stop_is, no_op_is, activation_is, transfer_is, second_within, second_byte, second_is}
use Rattle.records.specs.Kept.{Kept, LinkPut, InsidePut}
use Rattle.records.specs.Laws.Kept.{kept_none, kept_then, kept_wide}
use Rattle.ways.specs.Linked.{Linked}
use Rattle.ways.specs.Laws.Stack.{labels_none, aims_behind, aims_start}
use Rattle.ways.specs.Stack.{JumpAt, aims}
use Rattle.room.specs.Links.{most_labels}
use Rattle.ways.specs.Standing.{ActionAt, Done}
use Rattle.ways.specs.Laws.Standing.{within}
use Rattle.ways.specs.Prefixes.{prefixed}
use Rattle.links.specs.Leaves.{Named}

pub destination_writes : (s : Subscript) (b : Bits) (j : Joined) → Writes (λ ts. subscript_tokens s (bits_tokens b (joined_tokens j ts)))
destination_writes s b j = record {
  grows = λ xs ys.
      ap (λ l. subscript_tokens s (bits_tokens b l)) ((joined_writes j).grows xs ys)
      ∙ (ap (subscript_tokens s) ((bits_writes b).grows (joined_tokens j xs) ys) ∙ (subscript_writes s).grows (bits_tokens b (joined_tokens j xs)) ys);
}

equals_here : (e : Info) (ts : Tokens) → scan 13 0 (tk Equals e ∷ ts) ≡ tk Equals e ∷ ts
unfolding scan halts stops
equals_here e ts = refl

module _ {g : Ground} {records labels : List ℕ} {i link count first depth : ℕ} (v : ActionAt g records labels i link count first depth) where
  -- one link, or two, of the first token
  linked_there : {now : List ℕ} → Kept records now i (i + 1) → 1 ≤ action_size v.action
      → Linked now g.outer g.table v.around i v.behind v.action → Done v now labels
  linked_there k n l = record { linked = l; kept = kept_wide i _ k (omega arith) (omega arith); stack = labels_none labels count }

  -- NO.OP and STOP
  pub no_op_done : head_kind v.action ≡ NO-OP → {now : List ℕ} → LinkPut records now i link → Done v now labels
  no_op_done e p = let x = no_op_is v.action e in linked_there p.kept (rw x.3 (omega arith)) (rw x.3 (p.link ∙ v.link_is))

  pub stop_done : head_kind v.action ≡ STOP → Done v records labels
  stop_done e = let x = stop_is v.action e in linked_there (kept_none records i (i + 1)) (rw x.3 (omega arith)) (rw x.3 tt)

  -- jumps
  jump_name : (n : Info) (t : Token) → drop i g.tokens ≡ t ∷ tk Name n ∷ v.next ∷ v.rest → NameAt g.tokens (i + 1) × (word_at g.tokens (i + 1) ≡ n.word)
  jump_name n t e =
      let h = here g.tokens (i + 1) _ _ (here g.tokens i _ _ e).behind in
      (record { within = h.within; kind = ap (λ (t : Token). t.kind) h.token }, ap (λ (t : Token). t.info.word) h.token)

  few_labels : count ≤ most_labels
  few_labels = omega (arith, (within v).2, v.few)

  spelled_name : NameAt g.tokens (i + 1) → link_cell records (i + 1) ≡ g.spelling (i + 1)
  spelled_name n = (v.means (i + 1) (omega arith) n.within n.kind).1

  module _ (text : List ℕ) (same : g.text ≡ text) where
    module _ (e : head_kind v.action ≡ LEAVE) where
      leave_name : let x = leave_is v.action e in NameAt g.tokens (i + 1) × (word_at g.tokens (i + 1) ≡ x.1.word)
      leave_name = let x = leave_is v.action e in jump_name x.1 _ (v.reads ∙ ap (λ (a : Action). action_tokens a (v.next ∷ v.rest)) x.2)

      pub leave_at : JumpAt g text records labels count (i + 1)
      leave_at = record {
        same_text = same;
        holds = v.holds;
        around = v.around;
        held = v.held;
        few = few_labels;
        room = v.room;
        name = leave_name.0;
        spelled = spelled_name leave_name.0;
      }

      pub leave_done : {r : ℕ} {now : List ℕ} → r ≡ aims 2 leave_at.around (word_at g.tokens (i + 1)) → LinkPut records now i r → Done v now labels
      unfolding leave_at
      leave_done q p =
          let x = leave_is v.action e in
          linked_there p.kept (rw x.2 (omega arith))
          (rw x.2 (p.link ∙ (q ∙ (ap (aims 2 v.around) leave_name.1 ∙ aims_behind v.around x.1.word))))

    module _ (e : head_kind v.action ≡ RESTART) where
      restart_name : let x = restart_is v.action e in NameAt g.tokens (i + 1) × (word_at g.tokens (i + 1) ≡ x.1.word)
      restart_name = let x = restart_is v.action e in jump_name x.1 _ (v.reads ∙ ap (λ (a : Action). action_tokens a (v.next ∷ v.rest)) x.2)

      pub restart_at : JumpAt g text records labels count (i + 1)
      restart_at = record {
        same_text = same;
        holds = v.holds;
        around = v.around;
        held = v.held;
        few = few_labels;
        room = v.room;
        name = restart_name.0;
        spelled = spelled_name restart_name.0;
      }

      pub restart_done : {r : ℕ} {now : List ℕ} → r ≡ aims 1 restart_at.around (word_at g.tokens (i + 1)) → LinkPut records now i r → Done v now labels
      unfolding restart_at
      restart_done q p =
          let x = restart_is v.action e in
          linked_there p.kept (rw x.2 (omega arith))
          (rw x.2 (p.link ∙ (q ∙ (ap (aims 1 v.around) restart_name.1 ∙ aims_start v.around x.1.word))))

  -- activations and transfers
  module _ (named : Named v) where
    pub behind_within : 8 * (i + 1) + 8 ≤ length records
    behind_within =
        let w = second_within v.holds i v.action (v.next ∷ v.rest) v.reads named.0 in omega (arith, v.holds.record_room)

    module _ {k : ℕ} (after : k ≡ kind_byte records (i + 1)) where
      pub activation_done : k ≡ kind_no LPar → {now : List ℕ} → LinkPut records now i link → Done v now labels
      activation_done e p =
          let x = activation_is v.action named.0 (second_is v.holds i v.action (v.next ∷ v.rest) v.reads named.0 3 after e) in
          let h = here g.tokens i _ _ (v.reads ∙ ap (λ (a : Action). action_tokens a (v.next ∷ v.rest)) x.3) in
          let means = (v.means i (omega arith) h.within (ap (λ (t : Token). t.kind) h.token)).0 in
          let word : word_at g.tokens i ≡ x.0.word = ap (λ (t : Token). t.info.word) h.token in
          linked_there p.kept (rw x.3 (omega arith)) (rw x.3 (p.link ∙ v.link_is, p.inside ∙ rw word at means))

      module _ (n : k ≡ kind_no LPar → ⊥) where
        not_label : (a : Action) → prefixed a ≡ false → head_kind a ≡ Name → kind_no (second_kind a) ≡ kind_no Becomes → ⊥
        not_label (block b a m) p h e = omega (arith, ap kind_no h)
        not_label (labelled y b a) p h e = false≢true (sym p)
        not_label (if_then x o t w a) p h e = omega (arith, ap kind_no h)
        not_label (decode x o t w b u) p h e = omega (arith, ap kind_no h)
        not_label (repeat x a) p h e = omega (arith, ap kind_no h)
        not_label (leave x y) p h e = omega (arith, ap kind_no h)
        not_label (restart x y) p h e = omega (arith, ap kind_no h)
        not_label (activate x y z) p h e = omega arith
        not_label (stop x y z) p h e = omega (arith, ap kind_no h)
        not_label (no_op x y z) p h e = omega (arith, ap kind_no h)
        not_label (transfer x s b j q o t) p h e = second s b j e
          where
            second : (s : Subscript) (b : Bits) (j : Joined) → kind_no (second_kind (transfer x s b j q o t)) ≡ kind_no Becomes → ⊥
            second no_subscript all_bits alone e = omega arith
            second no_subscript all_bits (joined y z s b j) e = omega arith
            second no_subscript (bits y z r) j e = omega arith
            second (subscript y o t z) b j e = omega arith

        transfers : (x : Info) × (s : Subscript) × (b : Bits) × (j : Joined) × (e : Info) × (o : Operand) × (t : Tail) × (v.action ≡ transfer x s b j e o t)
        transfers =
            let byte = second_byte v.holds i v.action (v.next ∷ v.rest) v.reads named.0 in
            transfer_is v.action named.0 (not_label v.action named.1 named.0) (λ z. n (after ∙ (byte ∙ z)))

        behind_first : let x = transfers in
            drop (i + 1) g.tokens
            ≡ subscript_tokens x.1 (bits_tokens x.2 (joined_tokens x.3 (tk Equals x.4 ∷ operand_tokens x.5 (tail_tokens x.6 (v.next ∷ v.rest)))))
        behind_first = let x = transfers in (here g.tokens i _ _ (v.reads ∙ ap (λ (a : Action). action_tokens a (v.next ∷ v.rest)) x.7)).behind

        pub equals_sought : Seeks g records (i + 1) 13
        equals_sought =
            let x = transfers in
            record { holds = v.holds; next = tk Equals x.4; rest = operand_tokens x.5 (tail_tokens x.6 (v.next ∷ v.rest)); finds = finds }
          where
            finds : let x = transfers in scan 13 0 (drop (i + 1) g.tokens) ≡ tk Equals x.4 ∷ operand_tokens x.5 (tail_tokens x.6 (v.next ∷ v.rest))
            finds =
                let x = transfers in
                ap (scan 13 0) behind_first
                ∙ (past_subscript equals 0 x.1 _ ∙ (past_bits equals 0 x.2 _ ∙ (past_joined equals 0 x.3 _ ∙ equals_here x.4 _)))

        pub transfer_done : (r : ℕ) {mid now : List ℕ} → drop r g.tokens ≡ equals_sought.next ∷ equals_sought.rest → InsidePut records mid i r
            → LinkPut mid now i link
            → Done v now labels
        unfolding equals_sought
        transfer_done r q a b =
            let x = transfers in
            let place = found_at _ (destination_writes x.1 x.2 x.3) g.tokens (i + 1) r _ _ behind_first q in
            linked_there (kept_then i (i + 1) a.kept b.kept (omega arith) (omega arith) (omega arith) (omega arith)) (rw x.7 (omega arith))
            (rw x.7 (b.inside ∙ (a.inside ∙ omega arith), b.link ∙ v.link_is))

-- what is left when it is none of the four keywords
pub leaf_named : (a : Action) → prefixed a ≡ false → (head_kind a ≡ BEGIN → ⊥) → (head_kind a ≡ DECODE → ⊥) → (head_kind a ≡ LEAVE → ⊥) → (head_kind a ≡ RESTART → ⊥)
    → (head_kind a ≡ NO-OP → ⊥) → (head_kind a ≡ STOP → ⊥) → head_kind a ≡ Name
leaf_named (block b a m) p f g h i j k = absurd (f refl)
leaf_named (labelled x b a) p f g h i j k = refl
leaf_named (if_then x o t w a) p f g h i j k = absurd (false≢true (sym p))
leaf_named (decode x o t w b v) p f g h i j k = absurd (g refl)
leaf_named (repeat x a) p f g h i j k = absurd (false≢true (sym p))
leaf_named (leave x n) p f g h i j k = absurd (h refl)
leaf_named (restart x n) p f g h i j k = absurd (i refl)
leaf_named (activate n l r) p f g h i j k = refl
leaf_named (stop x l r) p f g h i j k = absurd (k refl)
leaf_named (no_op x l r) p f g h i j k = absurd (j refl)
leaf_named (transfer n s b y e o t) p f g h i j k = refl
