-- Reading the tokens of an action from left to right, one hears the events of its tree.
use Rattle.std.specs.Prelude.{ℕ, zero, suc, ◌≡◌, refl, true, false, List, [], ◌∷◌, ◌++◌}
use Rattle.std.proofs.Common.{sym, ap, ◌∙◌}
use Rattle.rules.specs.Text.Tokens.{Info, tk, kind_no, Op, op_kind, Name, Comma, Semi, END, NEXT, Equals, RPar, RBra, Arrow, BEGIN, Becomes}
use Rattle.rules.specs.Grammar.Trees.{Tokens, bit, upto, Bits, all_bits, bits, bits_tokens, Operand, constant, access, parens, negated, operand_tokens, Tail, no_more, with_op, tail_tokens, Subscript, no_subscript, subscript, subscript_tokens, Joined, alone, joined, joined_tokens, Selector, selector_tokens, Action, block, labelled, if_then, decode, repeat, leave, restart, activate, stop, no_op, transfer, action_tokens, Members, end, also, next, members_tokens, Alternatives, counted, selected, alternatives_tokens, Counted, counted_end, counted_more, counted_tokens, Selected, select, otherwise, selected_tokens, SelectedMore, selected_end, selected_more, selected_more_tokens}
use Rattle.rules.specs.Whole.Sets.{member}
use Rattle.trees.specs.Written.{level}
use Rattle.trees.specs.Expressions.{operator, inner_equal}
use Rattle.trees.specs.Selectors.{settles, selector_written}
use Rattle.reading.specs.Kinds.{next_no, tests, begins, stores, closes, mode}
use Rattle.reading.specs.Events.{Event, reads, writes, acting_event, name_event, event, heard}
use Rattle.reading.specs.Laws.Events.{operand_events, tail_events, subscript_events, joined_events, action_events, members_events, alternatives_events, counted_events, selected_events, selected_more_events}
use Rattle.table.specs.Scans.{separates, outermost, deeper, halts, stops}

-- what may stand behind an action
pub data Apart : Tokens → Type 0 where
  by_comma : {i : Info} {ts : Tokens} → Apart (tk Comma i ∷ ts)
  by_semi : {i : Info} {ts : Tokens} → Apart (tk Semi i ∷ ts)
  by_end : {i : Info} {ts : Tokens} → Apart (tk END i ∷ ts)
  by_next : {i : Info} {ts : Tokens} → Apart (tk NEXT i ∷ ts)

pub members_apart : (m : Members) (ts : Tokens) → Apart (members_tokens m ts)
members_apart (end i) ts = by_end
members_apart (also i a m) ts = by_semi
members_apart (next i a m) ts = by_next

pub counted_apart : (c : Counted) (ts : Tokens) → Apart (counted_tokens c ts)
counted_apart (counted_end i) ts = by_end
counted_apart (counted_more i a c) ts = by_comma

pub more_apart : (m : SelectedMore) (ts : Tokens) → Apart (selected_more_tokens m ts)
more_apart (selected_end i) ts = by_end
more_apart (selected_more i s) ts = by_comma

bits_heard : (b : Bits) (d m : ℕ) (ts : Tokens) → heard d m (bits_tokens b ts) ≡ heard d m ts
unfolding heard event halts stops closes deeper mode separates tests begins member
bits_heard all_bits d m ts = refl
bits_heard (bits l n (bit g)) d m ts = refl
bits_heard (bits l n (upto c k g)) d m ts = refl

op_heard : (op : Op) (i : Info) (d m : ℕ) (ts : Tokens) → heard d m (tk (op_kind op) i ∷ ts) ≡ heard d m ts
unfolding heard event halts stops closes deeper mode separates tests begins member
op_heard op i d m ts =
    ap (λ (f : ℕ → ℕ → Info → Tokens → List Event). f d m i ts)
    (inner_equal (λ k d m i ts. heard d m (tk k i ∷ ts)) (λ k d m i ts. heard d m ts) refl (operator op))

mutual
  unfolding heard event name_event halts stops closes deeper mode separates tests begins member operand_events

  operand_heard : (o : Operand) (d m : ℕ) (ts : Tokens) → heard d (suc m) (operand_tokens o ts) ≡ operand_events o (heard d (suc m) ts)
  operand_heard (constant i) d m ts = refl
  operand_heard (access i s b) d m ts =
      ap (λ es. reads i.word ∷ es) (subscript_heard s d (suc m) (bits_tokens b ts) ∙ ap (subscript_events s) (bits_heard b d (suc m) ts))
  operand_heard (parens l o t r) d m ts =
      operand_heard o d m (tail_tokens t (tk RPar r ∷ ts)) ∙ ap (operand_events o) (tail_heard t d m (tk RPar r ∷ ts))
  operand_heard (negated i o) d m ts = operand_heard o d m ts

  tail_heard : (t : Tail) (d m : ℕ) (ts : Tokens) → heard d (suc m) (tail_tokens t ts) ≡ tail_events t (heard d (suc m) ts)
  tail_heard no_more d m ts = refl
  tail_heard (with_op op i o t) d m ts =
      op_heard op i d (suc m) (operand_tokens o (tail_tokens t ts))
      ∙ (operand_heard o d m (tail_tokens t ts) ∙ ap (operand_events o) (tail_heard t d m ts))

  subscript_heard : (s : Subscript) (d m : ℕ) (ts : Tokens) → heard d m (subscript_tokens s ts) ≡ subscript_events s (heard d m ts)
  subscript_heard no_subscript d m ts = refl
  subscript_heard (subscript l o t r) d m ts =
      operand_heard o d m (tail_tokens t (tk RBra r ∷ ts)) ∙ ap (operand_events o) (tail_heard t d m (tk RBra r ∷ ts))

-- behind a name that is stored to
stored_event : (w : List ℕ) (s : Subscript) (b : Bits) (j : Joined) (e : Info) (ts : Tokens)
    → acting_event w (next_no (subscript_tokens s (bits_tokens b (joined_tokens j (tk Equals e ∷ ts))))) ≡ writes w ∷ []
unfolding acting_event stores member
stored_event w no_subscript all_bits alone e ts = refl
stored_event w no_subscript all_bits (joined a n s b j) e ts = refl
stored_event w no_subscript (bits l n c) j e ts = refl
stored_event w (subscript l o t r) b j e ts = refl

stored_heard : (n : Info) (s : Subscript) (b : Bits) (j : Joined) (e : Info) (d : ℕ) (ts : Tokens) (es : List Event)
    → heard d 0 (joined_tokens j (tk Equals e ∷ ts)) ≡ es
    → heard d 0 (tk Name n ∷ subscript_tokens s (bits_tokens b (joined_tokens j (tk Equals e ∷ ts)))) ≡ writes n.word ∷ subscript_events s es
unfolding heard event name_event halts stops closes deeper mode separates tests begins member
stored_heard n s b j e d ts es h =
    let rest = joined_tokens j (tk Equals e ∷ ts) in
    ap (λ l. l ++ heard d 0 (subscript_tokens s (bits_tokens b rest))) (stored_event n.word s b j e ts)
    ∙ ap (λ l. writes n.word ∷ l) (subscript_heard s d 0 (bits_tokens b rest) ∙ ap (subscript_events s) (bits_heard b d 0 rest ∙ h))

joined_heard : (j : Joined) (e : Info) (d : ℕ) (ts : Tokens) → heard d 0 (joined_tokens j (tk Equals e ∷ ts)) ≡ joined_events j (heard d 1 ts)
unfolding heard event halts stops closes deeper mode separates tests begins member joined_events
joined_heard alone e d ts = refl
joined_heard (joined a n s b j) e d ts = stored_heard n s b j e d ts (joined_events j (heard d 1 ts)) (joined_heard j e d ts)

-- a selector names nothing, and `:=` stands behind it
selector_heard : (s : Selector) (d : ℕ) (b : Info) (ts : Tokens) → heard (suc d) 0 (selector_tokens s (tk Becomes b ∷ ts)) ≡ heard (suc d) 0 ts
unfolding heard event halts stops closes deeper mode separates tests begins member
selector_heard s d b ts =
    settles (heard (suc d)) (λ k m. mode m (kind_no k)) refl refl (selector_written {square = level} s 0) (tk Becomes b ∷ ts) (λ m. refl) 0

-- behind an action it does not matter whether it was one that reads, and a target stands before a separator
apart_mode : {ts : Tokens} (d m : ℕ) → Apart ts → heard d m ts ≡ heard d 0 ts
unfolding heard event closes deeper mode tests begins member
apart_mode d m by_comma = refl
apart_mode d m by_semi = refl
apart_mode d m by_end = refl
apart_mode d m by_next = refl

target_heard : {ts : Tokens} (n : Info) (d : ℕ) → Apart ts → heard d 0 (tk Name n ∷ ts) ≡ heard d 0 ts
unfolding heard event name_event acting_event halts stops closes deeper mode separates tests begins stores member
target_heard n d by_comma = refl
target_heard n d by_semi = refl
target_heard n d by_end = refl
target_heard n d by_next = refl

-- behind the END of a block: nothing more of its action, unless it stands in another
unfoldable pub further : ℕ → Tokens → List Event
further d ts = elim (outermost d) [ true ↦ [] | false ↦ heard d 0 ts ]

silent : {ts : Tokens} → Apart ts → heard 0 0 ts ≡ []
unfolding heard halts stops separates member
silent by_comma = refl
silent by_semi = refl
silent by_end = refl
silent by_next = refl

further_apart : {ts : Tokens} (d : ℕ) → Apart ts → further d ts ≡ heard d 0 ts
unfolding further
further_apart zero s = sym (silent s)
further_apart (suc d) s = refl

-- an expression that is tested or stored
expression_heard : (o : Operand) (t : Tail) (d : ℕ) (ts : Tokens) → heard d 1 (operand_tokens o (tail_tokens t ts)) ≡ operand_events o
    (tail_events t (heard d 1 ts))
expression_heard o t d ts = operand_heard o d 0 (tail_tokens t ts) ∙ ap (operand_events o) (tail_heard t d 0 ts)

mutual
  unfolding heard event name_event acting_event halts stops closes deeper mode separates tests begins stores member action_events further

  pub action_heard : (a : Action) (d : ℕ) (ts : Tokens) → Apart ts → heard d 0 (action_tokens a ts) ≡ action_events a (heard d 0 ts)
  action_heard (block b a m) d ts s =
      action_heard a (suc d) (members_tokens m ts) (members_apart m ts) ∙ ap (λ es. action_events a es)
      (members_heard m d ts ∙ ap (members_events m) (further_apart d s))
  action_heard (labelled n b a) d ts s = action_heard a d ts s
  action_heard (if_then i o t w a) d ts s =
      expression_heard o t d (tk Arrow w ∷ action_tokens a ts) ∙ ap (λ es. operand_events o (tail_events t es)) (action_heard a d ts s)
  action_heard (decode i o t w b v) d ts s =
      expression_heard o t d (tk Arrow w ∷ tk BEGIN b ∷ alternatives_tokens v ts)
      ∙ ap (λ es. operand_events o (tail_events t es)) (alternatives_heard v d ts ∙ ap (alternatives_events v) (further_apart d s))
  action_heard (repeat i a) d ts s = action_heard a d ts s
  action_heard (leave i n) d ts s = target_heard n d s
  action_heard (restart i n) d ts s = target_heard n d s
  action_heard (activate n l r) d ts s = refl
  action_heard (stop i l r) d ts s = refl
  action_heard (no_op i l r) d ts s = refl
  action_heard (transfer n x b j e o t) d ts s =
      let rest = operand_tokens o (tail_tokens t ts) in
      stored_heard n x b j e d rest (joined_events j (heard d 1 rest)) (joined_heard j e d rest)
      ∙ ap (λ es. writes n.word ∷ subscript_events x (joined_events j es))
      (expression_heard o t d ts ∙ ap (λ es. operand_events o (tail_events t es)) (apart_mode d 1 s))

  members_heard : (m : Members) (d : ℕ) (ts : Tokens) → heard (suc d) 0 (members_tokens m ts) ≡ members_events m (further d ts)
  members_heard (end i) d ts = refl
  members_heard (also i a m) d ts =
      action_heard a (suc d) (members_tokens m ts) (members_apart m ts) ∙ ap (action_events a) (members_heard m d ts)
  members_heard (next i a m) d ts =
      action_heard a (suc d) (members_tokens m ts) (members_apart m ts) ∙ ap (action_events a) (members_heard m d ts)

  alternatives_heard : (v : Alternatives) (d : ℕ) (ts : Tokens) → heard (suc d) 0 (alternatives_tokens v ts) ≡ alternatives_events v (further d ts)
  alternatives_heard (counted a c) d ts =
      action_heard a (suc d) (counted_tokens c ts) (counted_apart c ts) ∙ ap (action_events a) (counted_heard c d ts)
  alternatives_heard (selected x) d ts = selected_heard x d ts

  counted_heard : (c : Counted) (d : ℕ) (ts : Tokens) → heard (suc d) 0 (counted_tokens c ts) ≡ counted_events c (further d ts)
  counted_heard (counted_end i) d ts = refl
  counted_heard (counted_more i a c) d ts =
      action_heard a (suc d) (counted_tokens c ts) (counted_apart c ts) ∙ ap (action_events a) (counted_heard c d ts)

  selected_heard : (x : Selected) (d : ℕ) (ts : Tokens) → heard (suc d) 0 (selected_tokens x ts) ≡ selected_events x (further d ts)
  selected_heard (select x b a m) d ts =
      selector_heard x d b (action_tokens a (selected_more_tokens m ts))
      ∙ (action_heard a (suc d) (selected_more_tokens m ts) (more_apart m ts) ∙ ap (action_events a) (more_heard m d ts))
  selected_heard (otherwise i b a e) d ts = action_heard a (suc d) (tk END e ∷ ts) by_end

  more_heard : (m : SelectedMore) (d : ℕ) (ts : Tokens) → heard (suc d) 0 (selected_more_tokens m ts) ≡ selected_more_events m (further d ts)
  more_heard (selected_end i) d ts = refl
  more_heard (selected_more i x) d ts = selected_heard x d ts

-- THE EVENTS of an action, and of a body, whatever stands behind it
pub heard_action : (a : Action) (ts : Tokens) → Apart ts → heard 0 0 (action_tokens a ts) ≡ action_events a []
heard_action a ts s = action_heard a 0 ts s ∙ ap (action_events a) (silent s)

pub heard_body : (b : Info) (a : Action) (m : Members) (ts : Tokens) → heard 0 0 (action_tokens (block b a m) ts) ≡ action_events (block b a m) []
unfolding heard event halts stops closes deeper mode separates tests begins member action_events further
heard_body b a m ts = action_heard a 1 (members_tokens m ts) (members_apart m ts) ∙ ap (action_events a) (members_heard m 0 ts)
