-- Reading the tokens of a body one by one does what the walk of its tree does.
use Prim.Native.Nat.{ℕ, suc, ◌+◌, ◌<◌, ◌≤◌, max}
use Rattle.std.specs.Prelude.{◌≡◌, true, false, length}
use Rattle.std.proofs.Math.Path.{refl, ap}
use Rattle.std.proofs.Common.{◌∙◌, arith, lt-ltb}
use mathlib.Core.List.{List, [], ◌∷◌}
use Rattle.rules.specs.Text.Tokens.{Info, tk, kind_no, Name, END, Equals, Arrow, BEGIN, Becomes}
use Rattle.rules.specs.Grammar.Trees.{Tokens, Bits, all_bits, bits, bits_tokens, Operand, operand_tokens, Tail, tail_tokens, Subscript, no_subscript, subscript, subscript_tokens}
use Rattle.rules.specs.Grammar.Trees.{Joined, alone, joined, joined_tokens, Selector, selector_tokens}
use Rattle.rules.specs.Grammar.Trees.{Action, block, labelled, if_then, decode, repeat, leave, restart, activate, stop, no_op, transfer, action_tokens}
use Rattle.rules.specs.Grammar.Trees.{Members, end, also, next, members_tokens, Alternatives, counted, selected, alternatives_tokens, Counted, counted_end, counted_more, counted_tokens}
use Rattle.rules.specs.Grammar.Trees.{Selected, select, otherwise, selected_tokens, SelectedMore, selected_end, selected_more, selected_more_tokens}
use Rattle.rules.specs.Limits.{deepest}
use Rattle.rules.specs.Declarations.{Word}
use Rattle.rules.specs.Whole.Sets.{member}
use Rattle.laws_grammar.specs.Cited.Nesting.{action_nest, members_nest, alternatives_nest, counted_nest, selected_nest, selected_more_nest}
use Rattle.trees.specs.Written.{level}
use Rattle.trees.specs.Expressions.{Expressed, passes, bits_written, access_written, expression_written}
use Rattle.trees.specs.Selectors.{settles, selector_written}
use Rattle.bounds.specs.Cited.Counts.{endless, up}
use Rattle.bounds.specs.Walk.{walk, walk_members, walk_alternatives, walk_counted, walk_selected, walk_more}
use Rattle.reading.specs.Kinds.{tests, begins, mode}
use Rattle.reading.specs.Laws.Hearing.{Apart, by_comma, by_semi, by_end, by_next, members_apart, counted_apart, more_apart}
use Rattle.counting.specs.Machine.{Frame, frame, State, state, opened, none_open, takes_step, turns, acted, run, outset}

module _ (counts : Word → ℕ) where
  abbrev R : ℕ → State → Tokens → ℕ
  R = run counts

  -- behind a token, in the mode m
  abbrev after : ℕ → Tokens → State → ℕ
  after m ts s = elim (none_open s.frames) [ true ↦ s.count | false ↦ R m s ts ]

  -- with the innermost frame and those around it
  module _ (f : Frame) (fs : List Frame) (x : ℕ) where
    abbrev S : State
    S = state (f ∷ fs) x

    expressed : {m n : ℕ} {h : Tokens → Tokens} → Expressed suc level level m h n → (ts : Tokens) → R m S (h ts) ≡ R n S ts
    unfolding run acted takes_step turns mode tests begins member
    expressed = passes (λ m. R m S) suc level level refl

    expression_passed : (o : Operand) (t : Tail) (ts : Tokens) → R 1 S (operand_tokens o (tail_tokens t ts)) ≡ R 1 S ts
    expression_passed o t = expressed (expression_written o t 0)

    -- at a separator the mode does not matter
    apart : {ts : Tokens} (m : ℕ) → Apart ts → R m S ts ≡ R 0 S ts
    unfolding run acted takes_step turns mode tests begins member
    apart m by_comma = refl
    apart m by_semi = refl
    apart m by_end = refl
    apart m by_next = refl

    target_passed : {ts : Tokens} (n : Info) → Apart ts → R 0 S (tk Name n ∷ ts) ≡ R 0 S ts
    unfolding run acted takes_step turns mode tests begins member
    target_passed n by_comma = refl
    target_passed n by_semi = refl
    target_passed n by_end = refl
    target_passed n by_next = refl

    -- a part of a destination
    part_passed : (n : Info) (s : Subscript) (v : Bits) (j : Joined) (e : Info) (ts : Tokens)
        → R 0 S (tk Name n ∷ subscript_tokens s (bits_tokens v (joined_tokens j (tk Equals e ∷ ts)))) ≡ R 0 S (joined_tokens j (tk Equals e ∷ ts))
    unfolding run acted takes_step turns mode tests begins member
    part_passed n no_subscript all_bits alone e ts = refl
    part_passed n no_subscript all_bits (joined _ _ _ _ _) e ts = refl
    part_passed n no_subscript (bits l k z) j e ts = expressed (bits_written (bits l k z) 0) (joined_tokens j (tk Equals e ∷ ts))
    part_passed n (subscript l o t r) v j e ts = expressed (access_written (subscript l o t r) v 0) (joined_tokens j (tk Equals e ∷ ts))

    joined_passed : (j : Joined) (e : Info) (ts : Tokens) → R 0 S (joined_tokens j (tk Equals e ∷ ts)) ≡ R 1 (state (f ∷ fs) (up x 1)) ts
    unfolding run acted takes_step turns mode tests begins member
    joined_passed alone e ts = refl
    joined_passed (joined a n s v j) e ts = part_passed n s v j e ts ∙ joined_passed j e ts

  -- the selector of an alternative: at the count with which all begin
  module _ (b best : ℕ) (fs : List Frame) (l : b ≤ best) where
    abbrev A : State
    A = state (frame b best ∷ fs) b

    -- the commas in a selector find nothing dearer
    same_best : max best b ≡ best
    same_best = omega arith

    selector_passed : (s : Selector) (i : Info) (ts : Tokens) → R 0 A (selector_tokens s (tk Becomes i ∷ ts)) ≡ R 0 A ts
    unfolding run acted takes_step turns mode tests begins member
    selector_passed s i ts =
        settles (λ m. R m A) (λ k m. mode m (kind_no k)) refl (ap (λ k m i ts. R 0 (state (frame b k ∷ fs) b) ts) same_best)
        (selector_written {square = level} s 0) (tk Becomes i ∷ ts) (λ m. refl) 0

  -- behind the END of a block: the end, unless it stands in another
  abbrev onwards : List Frame → ℕ → Tokens → ℕ
  onwards [] x ts = x
  onwards (f ∷ fs) x ts = R 0 (state (f ∷ fs) x) ts

  -- BEGIN, not too deep
  begin_read : (fs : List Frame) (x : ℕ) (i : Info) (ts : Tokens) → length fs < deepest → R 0 (state fs x) (tk BEGIN i ∷ ts) ≡ R 0 (state (frame x x ∷ fs) x) ts
  unfolding run acted takes_step turns mode tests begins member
  begin_read fs x i ts h = ap (λ y. after 0 ts (opened y (state fs x))) (lt-ltb (length fs) deepest h)

  end_read : (fs : List Frame) (f : Frame) (x m : ℕ) (i : Info) (ts : Tokens) → R m (state (f ∷ fs) x) (tk END i ∷ ts) ≡ onwards fs (max f.best x) ts
  unfolding run acted takes_step turns mode tests begins member
  end_read [] f x m i ts = refl
  end_read (g ∷ fs) f x m i ts = refl

  mutual
    unfolding run acted takes_step turns mode tests begins member walk walk_members walk_alternatives walk_counted walk_selected walk_more

    action_read : (a : Action) (f : Frame) (fs : List Frame) (x : ℕ) (ts : Tokens) → length fs + 1 + action_nest a ≤ deepest → Apart ts
        → R 0 (state (f ∷ fs) x) (action_tokens a ts) ≡ R 0 (state (f ∷ fs) (walk counts a x)) ts
    action_read (block i a m) f fs x ts h p =
        begin_read (f ∷ fs) x i (action_tokens a (members_tokens m ts)) (omega arith)
        ∙ (action_read a (frame x x) (f ∷ fs) x (members_tokens m ts) (omega arith) (members_apart m ts) ∙ members_read m (frame x x) (f ∷ fs) (walk counts a x) ts (omega arith))
    action_read (labelled n i a) f fs x ts h p = action_read a f fs x ts h p
    action_read (if_then i o t e a) f fs x ts h p =
        expression_passed f fs (up x 1) o t (tk Arrow e ∷ action_tokens a ts) ∙ action_read a f fs (up x 1) ts (omega arith) p
    action_read (decode i o t e g v) f fs x ts h p =
        expression_passed f fs (up x 1) o t (tk Arrow e ∷ tk BEGIN g ∷ alternatives_tokens v ts)
        ∙ (begin_read (f ∷ fs) (up x 1) g (alternatives_tokens v ts) (omega arith) ∙ alternatives_read v (up x 1) (up x 1) f fs ts (omega arith) (omega arith))
    action_read (repeat i a) f fs x ts h p = action_read a f fs endless ts h p
    action_read (leave i n) f fs x ts h p = target_passed f fs (up x 1) n p
    action_read (restart i n) f fs x ts h p = target_passed f fs endless n p
    action_read (activate n l r) f fs x ts h p = apart f fs (up x (1 + counts n.word)) 0 p
    action_read (stop i l r) f fs x ts h p = apart f fs (up x 1) 0 p
    action_read (no_op i l r) f fs x ts h p = apart f fs (up x 1) 0 p
    action_read (transfer n s v j e o t) f fs x ts h p =
        let rest = operand_tokens o (tail_tokens t ts) in
        part_passed f fs x n s v j e rest ∙ (joined_passed f fs x j e rest ∙ (expression_passed f fs (up x 1) o t ts ∙ apart f fs (up x 1) 1 p))

    members_read : (m : Members) (f : Frame) (fs : List Frame) (x : ℕ) (ts : Tokens) → length fs + 1 + members_nest m ≤ deepest
        → R 0 (state (f ∷ fs) x) (members_tokens m ts) ≡ onwards fs (walk_members counts m f.best x) ts
    members_read (end i) f fs x ts h = end_read fs f x 0 i ts
    members_read (also i a m) f fs x ts h =
        action_read a f fs x (members_tokens m ts) (omega arith) (members_apart m ts) ∙ members_read m f fs (walk counts a x) ts (omega arith)
    members_read (next i a m) f fs x ts h =
        action_read a f fs x (members_tokens m ts) (omega arith) (members_apart m ts) ∙ members_read m f fs (walk counts a x) ts (omega arith)

    alternatives_read : (v : Alternatives) (b best : ℕ) (f : Frame) (fs : List Frame) (ts : Tokens) → length fs + 2 + alternatives_nest v ≤ deepest → b ≤ best
        → R 0 (state (frame b best ∷ f ∷ fs) b) (alternatives_tokens v ts) ≡ R 0 (state (f ∷ fs) (walk_alternatives counts v b best)) ts
    alternatives_read (counted a c) b best f fs ts h l =
        action_read a (frame b best) (f ∷ fs) b (counted_tokens c ts) (omega arith) (counted_apart c ts) ∙ counted_read c b best (walk counts a b) f fs ts (omega arith)
    alternatives_read (selected s) b best f fs ts h l = selected_read s b best f fs ts h l

    counted_read : (c : Counted) (b best x : ℕ) (f : Frame) (fs : List Frame) (ts : Tokens) → length fs + 2 + counted_nest c ≤ deepest
        → R 0 (state (frame b best ∷ f ∷ fs) x) (counted_tokens c ts) ≡ R 0 (state (f ∷ fs) (walk_counted counts c b best x)) ts
    counted_read (counted_end i) b best x f fs ts h = refl
    counted_read (counted_more i a c) b best x f fs ts h =
        action_read a (frame b (max best x)) (f ∷ fs) b (counted_tokens c ts) (omega arith) (counted_apart c ts)
        ∙ counted_read c b (max best x) (walk counts a b) f fs ts (omega arith)

    selected_read : (s : Selected) (b best : ℕ) (f : Frame) (fs : List Frame) (ts : Tokens) → length fs + 2 + selected_nest s ≤ deepest → b ≤ best
        → R 0 (state (frame b best ∷ f ∷ fs) b) (selected_tokens s ts) ≡ R 0 (state (f ∷ fs) (walk_selected counts s b best)) ts
    selected_read (select s i a m) b best f fs ts h l =
        selector_passed b best (f ∷ fs) l s i (action_tokens a (selected_more_tokens m ts))
        ∙ (action_read a (frame b best) (f ∷ fs) b (selected_more_tokens m ts) (omega arith) (more_apart m ts) ∙ more_read m b best (walk counts a b) f fs ts (omega arith) l)
    selected_read (otherwise i e a g) b best f fs ts h l = action_read a (frame b best) (f ∷ fs) b (tk END g ∷ ts) (omega arith) by_end

    more_read : (m : SelectedMore) (b best x : ℕ) (f : Frame) (fs : List Frame) (ts : Tokens) → length fs + 2 + selected_more_nest m ≤ deepest → b ≤ best
        → R 0 (state (frame b best ∷ f ∷ fs) x) (selected_more_tokens m ts) ≡ R 0 (state (f ∷ fs) (walk_more counts m b best x)) ts
    more_read (selected_end i) b best x f fs ts h l = refl
    more_read (selected_more i s) b best x f fs ts h l = selected_read s b (max best x) f fs ts h (omega arith)

  -- THE TOKENS OF A BODY, which is a block, read one by one
  pub body_read : (i : Info) (a : Action) (m : Members) (ts : Tokens) → action_nest (block i a m) ≤ deepest
      → R 0 outset (action_tokens (block i a m) ts) ≡ walk counts (block i a m) 0
  unfolding walk
  body_read i a m ts h =
      begin_read [] 0 i (action_tokens a (members_tokens m ts)) (omega arith)
      ∙ (action_read a (frame 0 0) [] 0 (members_tokens m ts) (omega arith) (members_apart m ts) ∙ members_read m (frame 0 0) [] (walk counts a 0) ts (omega arith))
