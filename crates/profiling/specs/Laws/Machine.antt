-- Reading the tokens of a body one by one does what the walk of its tree does.
use Prim.Native.Nat.{ℕ, suc, ◌+◌, ◌<◌, ◌≤◌}
use Rattle.std.specs.Prelude.{◌≡◌, Bool, cond, ◌||◌, ◌&&◌, length}
use Rattle.std.proofs.Math.Path.{refl, ap}
use Rattle.std.proofs.Common.{sym, ◌∙◌, arith, lt-ltb}
use Rattle.std.proofs.Math.Bool.{true, false, or-false, or_assoc}
use mathlib.Core.List.{List, [], ◌∷◌}
use Rattle.rules.specs.Text.Tokens.{Info, tk, kind_no, Name, END, Equals, Arrow, BEGIN, Becomes}
use Rattle.rules.specs.Grammar.Trees.{Tokens, Bits, all_bits, bits, bits_tokens, Operand, operand_tokens, Tail, tail_tokens, Subscript, no_subscript, subscript, subscript_tokens}
use Rattle.rules.specs.Grammar.Trees.{Joined, alone, joined, joined_tokens, Selector, selector_tokens}
use Rattle.rules.specs.Grammar.Trees.{Action, block, labelled, if_then, decode, repeat, leave, restart, activate, stop, no_op, transfer, action_tokens}
use Rattle.rules.specs.Grammar.Trees.{Members, end, also, next, members_tokens, Alternatives, counted, selected, alternatives_tokens, Counted, counted_end, counted_more, counted_tokens}
use Rattle.rules.specs.Grammar.Trees.{Selected, select, otherwise, selected_tokens, SelectedMore, selected_end, selected_more, selected_more_tokens}
use Rattle.rules.specs.Limits.{deepest}
use Rattle.rules.specs.Declarations.{Word, Table}
use Rattle.rules.specs.Steps.Actions.{access as access_of, joined_accesses}
use Rattle.rules.specs.Whole.Sets.{member, owner, stores as stores_of}
use Rattle.trees.specs.Written.{level}
use Rattle.trees.specs.Expressions.{Expressed, passes, access_written, expression_written}
use Rattle.trees.specs.Selectors.{settles, selector_written}
use Rattle.laws_grammar.specs.Cited.Nesting.{action_nest, members_nest, alternatives_nest, counted_nest, selected_nest, selected_more_nest}
use Rattle.laws_orders.proofs.Orders.Tests.{member_append}
use Rattle.paths.specs.Cited.Early.{Report}
use Rattle.paths.specs.Cited.Marks.{Marks, Slot, slot, marked, cleared, added, unmarked}
use Rattle.paths.specs.Walk.{walk, walk_members, walk_alternatives, walk_counted, walk_selected, walk_more, walk_body}
use Rattle.reading.specs.Kinds.{stores, tests, begins, mode}
use Rattle.reading.specs.Laws.Hearing.{Apart, by_comma, by_semi, by_end, by_next, members_apart, counted_apart, more_apart}
use Rattle.nesting.specs.Machine.{Frame, frame, Dest, idle, parts, State, state, settled, begun, opened, none_open, acted, run, outset}

module _ (ds : Table) (test : Word) (output : ℕ) (known : Word → Report) where
  abbrev R : ℕ → State → Tokens → Marks
  R = run ds test output known

  -- behind a token, in the mode m
  abbrev after : ℕ → Tokens → State → Marks
  after m ts s = elim (none_open s.frames) [ true ↦ s.marks | false ↦ R m s ts ]

  -- with the innermost frame and those around it
  module _ (f : Frame) (fs : List Frame) (d : ℕ) where
    module _ (w : Marks) (ls : List Slot) (k : ℕ) (b c : Bool) (x : Dest) where
      abbrev S : State
      S = state (f ∷ fs) d w ls k b c x

      expressed : {m n : ℕ} {h : Tokens → Tokens} → Expressed suc level level m h n → (ts : Tokens) → R m S (h ts) ≡ R n S ts
      unfolding run acted mode tests begins member
      expressed = passes (λ m. R m S) suc level level refl

      expression_passed : (o : Operand) (t : Tail) (ts : Tokens) → R 1 S (operand_tokens o (tail_tokens t ts)) ≡ R 1 S ts
      expression_passed o t = expressed (expression_written o t 0)

    -- at a separator nothing counts but the frames and the marks
    apart : {ts : Tokens} (w : Marks) (ls : List Slot) (k : ℕ) (b c : Bool) (x : Dest) (m : ℕ) → Apart ts → R m (state (f ∷ fs) d w ls k b c x) ts ≡ R 0 (settled (f ∷ fs) d w) ts
    unfolding run acted mode tests begins member
    apart w ls k b c x m by_comma = refl
    apart w ls k b c x m by_semi = refl
    apart w ls k b c x m by_end = refl
    apart w ls k b c x m by_next = refl

    target_passed : {ts : Tokens} (w : Marks) (ls : List Slot) (k : ℕ) (b c : Bool) (x : Dest) (n : Info) → Apart ts
        → R 0 (state (f ∷ fs) d w ls k b c x) (tk Name n ∷ ts) ≡ R 0 (settled (f ∷ fs) d w) ts
    unfolding run acted mode tests begins stores member
    target_passed w ls k b c x n by_comma = refl
    target_passed w ls k b c x n by_semi = refl
    target_passed w ls k b c x n by_end = refl
    target_passed w ls k b c x n by_next = refl

    module _ (w : Marks) (ls : List Slot) (k : ℕ) (b : Bool) where
      -- a part of a destination
      abbrev D : Dest → State
      D x = state (f ∷ fs) d w ls k b false x

      name_passed : (n : Info) (s : Subscript) (v : Bits) (j : Joined) (e : Info) (ts : Tokens) (x : Dest) (p : ℕ) (h : Bool)
          → (acted ds test output known 0 0 (tk Name n) (subscript_tokens s (bits_tokens v (joined_tokens j (tk Equals e ∷ ts)))) (D x) ≡ D (parts p h))
          → R 0 (D x) (tk Name n ∷ subscript_tokens s (bits_tokens v (joined_tokens j (tk Equals e ∷ ts)))) ≡ R 0 (D (parts p h)) (joined_tokens j (tk Equals e ∷ ts))
      unfolding run mode tests begins member
      name_passed n s v j e ts x p h q =
          let rest = joined_tokens j (tk Equals e ∷ ts) in
          ap (after 0 (subscript_tokens s (bits_tokens v rest))) q ∙ expressed w ls k b false (parts p h) (access_written s v 0) rest

      first_acted : (n : Info) (s : Subscript) (v : Bits) (j : Joined) (e : Info) (ts : Tokens)
          → acted ds test output known 0 0 (tk Name n) (subscript_tokens s (bits_tokens v (joined_tokens j (tk Equals e ∷ ts)))) (D idle)
          ≡ D (parts n.place (member output (owner ds n.word)))
      unfolding acted stores member
      first_acted n no_subscript all_bits alone e ts = refl
      first_acted n no_subscript all_bits (joined _ _ _ _ _) e ts = refl
      first_acted n no_subscript (bits _ _ _) j e ts = refl
      first_acted n (subscript _ _ _ _) v j e ts = refl

      later_acted : (n : Info) (s : Subscript) (v : Bits) (j : Joined) (e : Info) (ts : Tokens) (p : ℕ) (h : Bool)
          → acted ds test output known 0 0 (tk Name n) (subscript_tokens s (bits_tokens v (joined_tokens j (tk Equals e ∷ ts)))) (D (parts p h))
          ≡ D (parts p (h || member output (owner ds n.word)))
      unfolding acted stores member
      later_acted n no_subscript all_bits alone e ts p h = refl
      later_acted n no_subscript all_bits (joined _ _ _ _ _) e ts p h = refl
      later_acted n no_subscript (bits _ _ _) j e ts p h = refl
      later_acted n (subscript _ _ _ _) v j e ts p h = refl

      abbrev T : ℕ → Bool → State
      T p h = state (f ∷ fs) d (marked k b (added (cond b (cond h (p ∷ []) []) []) w)) ls k b false idle

      joined_passed : (j : Joined) (e : Info) (ts : Tokens) (p : ℕ) (h : Bool)
          → R 0 (D (parts p h)) (joined_tokens j (tk Equals e ∷ ts)) ≡ R 1 (T p (h || member output (stores_of ds (joined_accesses j)))) ts
      unfolding run acted mode tests begins member stores_of joined_accesses access_of
      joined_passed alone e ts p h = ap (λ y. R 1 (T p y) ts) (sym (or-false h))
      joined_passed (joined a n s v j) e ts p h =
          let o = member output (owner ds n.word) in
          let r = member output (stores_of ds (joined_accesses j)) in
          name_passed n s v j e ts (parts p h) p (h || o) (later_acted n s v j e ts p h) ∙ (joined_passed j e ts p (h || o)
          ∙ ap (λ y. R 1 (T p y) ts) (or_assoc h o r ∙ ap (λ y. h || y) (sym (member_append output (owner ds n.word) (stores_of ds (joined_accesses j))))))

      transfer_passed : (n : Info) (s : Subscript) (v : Bits) (j : Joined) (e : Info) (o : Operand) (t : Tail) (ts : Tokens) → Apart ts
          → R 0 (D idle) (action_tokens (transfer n s v j e o t) ts)
          ≡ R 0 (settled (f ∷ fs) d (walk ds test output known (transfer n s v j e o t) ls d k b w)) ts
      unfolding walk stores_of access_of
      transfer_passed n s v j e o t ts h =
          let q = member output (owner ds n.word) in
          let r = member output (stores_of ds (joined_accesses j)) in
          let rest = operand_tokens o (tail_tokens t ts) in
          name_passed n s v j e rest idle n.place q (first_acted n s v j e rest) ∙ (joined_passed j e rest n.place q
          ∙ (expression_passed (marked k b (added (cond b (cond (q || r) (n.place ∷ []) []) []) w)) ls k b false idle o t ts
          ∙ (apart (marked k b (added (cond b (cond (q || r) (n.place ∷ []) []) []) w)) ls k b false idle 1 h
          ∙ ap (λ y. R 0 (settled (f ∷ fs) d (marked k b (added (cond b (cond y (n.place ∷ []) []) []) w))) ts)
          (sym (member_append output (owner ds n.word) (stores_of ds (joined_accesses j)))))))

    -- the selector of an alternative: at the state that the frame has
    module _ (w : Marks) where
      abbrev A : State
      A = state (f ∷ fs) d w f.labels f.flag f.comes false idle

      selector_passed : (s : Selector) (b : Info) (ts : Tokens) → R 0 A (selector_tokens s (tk Becomes b ∷ ts)) ≡ R 0 A ts
      unfolding run acted mode tests begins member
      selector_passed s b ts =
          settles (λ m. R m A) (λ k m. mode m (kind_no k)) refl refl (selector_written {square = level} s 0) (tk Becomes b ∷ ts) (λ m. refl) 0

  -- behind the END of a block: the end, unless it stands in another
  abbrev onwards : List Frame → ℕ → Marks → Tokens → Marks
  onwards [] d w ts = w
  onwards (f ∷ fs) d w ts = R 0 (settled (f ∷ fs) d w) ts

  abbrev Then : List Frame → Tokens → Type 0
  Then [] ts = Unit {0}
  Then (f ∷ fs) ts = Apart ts

  -- BEGIN, not too deep
  begin_read : (fs : List Frame) (d : ℕ) (w : Marks) (ls : List Slot) (k : ℕ) (b c : Bool) (i : Info) (ts : Tokens) → length fs < deepest
      → R 0 (state fs d w ls k b c idle) (tk BEGIN i ∷ ts) ≡ after 0 ts (begun c (state fs d w ls k b c idle))
  unfolding run acted mode tests begins member
  begin_read fs d w ls k b c i ts h = ap (λ y. after 0 ts (opened y (state fs d w ls k b c idle))) (lt-ltb (length fs) deepest h)

  end_read : (fs : List Frame) (f : Frame) (d e : ℕ) (w : Marks) (ls : List Slot) (k : ℕ) (b c : Bool) (x : Dest) (m : ℕ) (i : Info) (ts : Tokens) → Then fs ts
      → R m (state (f ∷ fs) d w ls k b c x) (tk END i ∷ ts)
      ≡ onwards fs f.own (cond f.group (marked f.flag (f.ended && w.flags f.own) w) w) ts
  unfolding run acted mode tests begins member
  end_read [] f d e w ls k b c x m i ts h = refl
  end_read (g ∷ fs) f d e w ls k b c x m i ts h = apart g fs f.own (cond f.group (marked f.flag (f.ended && w.flags f.own) w) w) f.labels 0 false false idle 0 h

  mutual
    unfolding run acted mode tests begins stores member walk walk_members walk_alternatives walk_counted walk_selected walk_more

    action_read : (a : Action) (f : Frame) (fs : List Frame) (ls : List Slot) (d k : ℕ) (b : Bool) (w : Marks) (ts : Tokens) → length fs + 1 + action_nest a ≤ deepest
        → Apart ts → R 0 (state (f ∷ fs) d w ls k b false idle) (action_tokens a ts) ≡ R 0 (settled (f ∷ fs) d (walk ds test output known a ls d k b w)) ts
    action_read (block i a m) f fs ls d k b w ts h p =
        begin_read (f ∷ fs) d w ls k b false i (action_tokens a (members_tokens m ts)) (omega arith)
        ∙ (action_read a (frame ls k d b true true) (f ∷ fs) ls (suc d) d b (cleared d w) (members_tokens m ts) (omega arith) (members_apart m ts)
        ∙ members_read m (f ∷ fs) ls d k b true (walk ds test output known a ls (suc d) d b (cleared d w)) ts (omega arith) p)
    action_read (labelled n i a) f fs ls d k b w ts h p = action_read a f fs (slot n.word k ∷ ls) d k b w ts h p
    action_read (if_then i o t e a) f fs ls d k b w ts h p =
        expression_passed f fs d (marked k b w) ls k b false idle o t (tk Arrow e ∷ action_tokens a ts)
        ∙ action_read a f fs ls d k b (marked k b w) ts (omega arith) p
    action_read (decode i o t e g v) f fs ls d k b w ts h p =
        expression_passed f fs d w ls k b true idle o t (tk Arrow e ∷ tk BEGIN g ∷ alternatives_tokens v ts)
        ∙ (begin_read (f ∷ fs) d w ls k b true g (alternatives_tokens v ts) (omega arith) ∙ alternatives_read v f fs ls d k b w ts (omega arith) p)
    action_read (repeat i a) f fs ls d k b w ts h p = action_read a f fs ls d 0 b w ts h p
    action_read (leave i n) f fs ls d k b w ts h p = target_passed f fs d (walk ds test output known (leave i n) ls d k b w) ls k b false idle n p
    action_read (restart i n) f fs ls d k b w ts h p = target_passed f fs d w ls k b false idle n p
    action_read (activate n l r) f fs ls d k b w ts h p = apart f fs d (walk ds test output known (activate n l r) ls d k b w) ls k b false idle 0 p
    action_read (stop i l r) f fs ls d k b w ts h p = apart f fs d w ls k b false idle 0 p
    action_read (no_op i l r) f fs ls d k b w ts h p = apart f fs d (marked k b w) ls k b false idle 0 p
    action_read (transfer n s v j e o t) f fs ls d k b w ts h p = transfer_passed f fs d w ls k b n s v j e o t ts p

    members_read : (m : Members) (fs : List Frame) (ls : List Slot) (d k : ℕ) (b c : Bool) (w : Marks) (ts : Tokens) → length fs + 1 + members_nest m ≤ deepest → Then fs ts
        → R 0 (settled (frame ls k d b c true ∷ fs) (suc d) w) (members_tokens m ts) ≡ onwards fs d (walk_members ds test output known m ls d k b c w) ts
    members_read (end i) fs ls d k b c w ts h p = end_read fs (frame ls k d b c true) (suc d) d w [] 0 false false idle 0 i ts p
    members_read (also i a m) fs ls d k b c w ts h p =
        action_read a (frame ls k d b (c && w.flags d) true) fs ls (suc d) d b (cleared d w) (members_tokens m ts) (omega arith) (members_apart m ts)
        ∙ members_read m fs ls d k b (c && w.flags d) (walk ds test output known a ls (suc d) d b (cleared d w)) ts (omega arith) p
    members_read (next i a m) fs ls d k b c w ts h p =
        let g : Bool = c && w.flags d in
        action_read a (frame ls k d g true true) fs ls (suc d) d g (cleared d w) (members_tokens m ts) (omega arith) (members_apart m ts)
        ∙ members_read m fs ls d k g true (walk ds test output known a ls (suc d) d g (cleared d w)) ts (omega arith) p

    alternatives_read : (v : Alternatives) (f : Frame) (fs : List Frame) (ls : List Slot) (d k : ℕ) (b : Bool) (w : Marks) (ts : Tokens)
        → length fs + 2 + alternatives_nest v ≤ deepest → Apart ts
        → R 0 (state (frame ls k d b true false ∷ f ∷ fs) d w ls k b false idle) (alternatives_tokens v ts)
        ≡ R 0 (settled (f ∷ fs) d (walk_alternatives ds test output known v ls d k b w)) ts
    alternatives_read (counted a c) f fs ls d k b w ts h p =
        action_read a (frame ls k d b true false) (f ∷ fs) ls d k b w (counted_tokens c ts) (omega arith) (counted_apart c ts)
        ∙ counted_read c f fs ls d k b (walk ds test output known a ls d k b w) ts (omega arith) p
    alternatives_read (selected s) f fs ls d k b w ts h p = selected_read s f fs ls d k b w ts h p

    counted_read : (c : Counted) (f : Frame) (fs : List Frame) (ls : List Slot) (d k : ℕ) (b : Bool) (w : Marks) (ts : Tokens)
        → length fs + 2 + counted_nest c ≤ deepest → Apart ts
        → R 0 (settled (frame ls k d b true false ∷ f ∷ fs) d w) (counted_tokens c ts)
        ≡ R 0 (settled (f ∷ fs) d (walk_counted ds test output known c ls d k b w)) ts
    counted_read (counted_end i) f fs ls d k b w ts h p = apart f fs d w ls 0 false false idle 0 p
    counted_read (counted_more i a c) f fs ls d k b w ts h p =
        action_read a (frame ls k d b true false) (f ∷ fs) ls d k b w (counted_tokens c ts) (omega arith) (counted_apart c ts)
        ∙ counted_read c f fs ls d k b (walk ds test output known a ls d k b w) ts (omega arith) p

    selected_read : (s : Selected) (f : Frame) (fs : List Frame) (ls : List Slot) (d k : ℕ) (b : Bool) (w : Marks) (ts : Tokens)
        → length fs + 2 + selected_nest s ≤ deepest → Apart ts
        → R 0 (state (frame ls k d b true false ∷ f ∷ fs) d w ls k b false idle) (selected_tokens s ts)
        ≡ R 0 (settled (f ∷ fs) d (walk_selected ds test output known s ls d k b w)) ts
    selected_read (select s i a m) f fs ls d k b w ts h p =
        selector_passed (frame ls k d b true false) (f ∷ fs) d w s i (action_tokens a (selected_more_tokens m ts))
        ∙ (action_read a (frame ls k d b true false) (f ∷ fs) ls d k b w (selected_more_tokens m ts) (omega arith) (more_apart m ts)
        ∙ more_read m f fs ls d k b (walk ds test output known a ls d k b w) ts (omega arith) p)
    selected_read (otherwise i e a g) f fs ls d k b w ts h p =
        action_read a (frame ls k d b true false) (f ∷ fs) ls d k b w (tk END g ∷ ts) (omega arith) by_end
        ∙ apart f fs d (walk ds test output known a ls d k b w) ls 0 false false idle 0 p

    more_read : (m : SelectedMore) (f : Frame) (fs : List Frame) (ls : List Slot) (d k : ℕ) (b : Bool) (w : Marks) (ts : Tokens)
        → length fs + 2 + selected_more_nest m ≤ deepest → Apart ts
        → R 0 (settled (frame ls k d b true false ∷ f ∷ fs) d w) (selected_more_tokens m ts)
        ≡ R 0 (settled (f ∷ fs) d (walk_more ds test output known m ls d k b w)) ts
    more_read (selected_end i) f fs ls d k b w ts h p = apart f fs d w ls 0 false false idle 0 p
    more_read (selected_more i s) f fs ls d k b w ts h p = selected_read s f fs ls d k b w ts h p

  -- THE TOKENS OF A BODY, which is a block, read one by one
  pub body_read : (i : Info) (a : Action) (m : Members) (n : Word) (ts : Tokens) → action_nest (block i a m) ≤ deepest
      → R 0 (outset n) (action_tokens (block i a m) ts) ≡ walk_body ds test output known (block i a m) n
  unfolding walk walk_body
  body_read i a m n ts h =
      let ls = slot n 1 ∷ [] in
      begin_read [] 2 unmarked ls 1 true false i (action_tokens a (members_tokens m ts)) (omega arith)
      ∙ (action_read a (frame ls 1 2 true true true) [] ls 3 2 true (cleared 2 unmarked) (members_tokens m ts) (omega arith) (members_apart m ts)
      ∙ members_read m [] ls 2 1 true true (walk ds test output known a ls 3 2 true (cleared 2 unmarked)) ts (omega arith) tt)
