-- Laws of groups: members read from their tokens have the faults of the tree's.
use Rattle.std.specs.Prelude.{ℕ, ◌≡◌, Bool, eqb}
use Rattle.std.proofs.Math.Path.{refl, sym, ap, ap₂}
use Rattle.std.proofs.Common.{◌∙◌}
use Rattle.std.proofs.Math.Bool.{true, false, or-false}
use mathlib.Core.List.{List, [], ◌∷◌, ◌++◌}
use Rattle.rules.specs.Text.Tokens.{Info, tk, END, Comma, Colon, RBra, Becomes, Semi, kind_no}
use Rattle.rules.specs.Grammar.Trees.{Tokens, Literal, exact, masked, literal_tokens, Range, single, to, range_tokens, close, item, items_tokens, Selector, one_of, any_of, selector_tokens, Action, block, labelled, if_then, decode, repeat, leave, restart, activate, stop, no_op, transfer, action_tokens, Members, end, also, next, members_tokens, Alternatives, counted, selected, alternatives_tokens, Counted, counted_end, counted_more, counted_tokens, Selected, select, otherwise, selected_tokens, SelectedMore, selected_end, selected_more, selected_more_tokens}
use Rattle.rules.specs.Declarations.{Table}
use Rattle.rules.specs.Steps.Actions.{act_of}
use Rattle.rules.specs.Whole.Sets.{Sets, sets, union, race, body_sets, touched, body_stops, may_stop, member}
use Rattle.rules.specs.Limits.{longest_chain}
use Rattle.rules.specs.Faults.Fault.{Fault, when}
use Rattle.rules.specs.Faults.Bodies.{first_place}
use Rattle.rules.specs.Faults.Whole.{has_more, member_faults}
use Rattle.reading.specs.Kinds.{next_no, ends}
use Rattle.reading.specs.Events.{Event, heard}
use Rattle.reading.specs.Laws.Hearing.{Apart, members_apart, heard_action}
use Rattle.reading.specs.Touches.{any_event, read_hit, write_hit, stop_hit}
use Rattle.reading.specs.Laws.Touches.{any_action, any_act, act_reads, act_writes, act_stops}
use Rattle.reading.specs.Laws.Races.{touch_reads, touch_writes, AlikeSets, race_alike, Covers, covers_none, covers_more}
use Rattle.table.specs.Laws.Scans.{past_action}
use Rattle.reading.specs.Behind.{behind}
use Rattle.table.specs.Scans.{no, separates, deeper, halts, scan, stops}
use Rattle.reading.specs.Groups.{more, members_at, also_at, member_at, touch_at, stops_at, place_of}

-- by where it ends
pub more_behind : (ts rest : Tokens) {k : ℕ} → rest ≡ behind 0 ts → k ≡ next_no rest → eqb k (kind_no Semi) ≡ more ts
unfolding more
more_behind ts rest e h = ap (λ (x : ℕ). eqb x (kind_no Semi)) (h ∙ ap next_no e)

module _ (ds : Table) where
  -- reading on, one comes to the separator first
  unfoldable pub onward : Sets → Tokens → List Fault
  onward u [] = []
  onward u (t ∷ ts) = elim (eqb (no t) (kind_no Semi)) [ true ↦ members_at ds u ts | false ↦ [] ]

  pub also_onward : (d : ℕ) (u : Sets) (ts : Tokens) → also_at ds d u ts ≡ onward u (behind d ts)
  unfolding also_at scan onward members_at
  also_onward d u [] = refl
  also_onward d u (t ∷ ts) = by (ends d (no t)) (also_onward (deeper d (no t)) u ts)
    where
      by : (b : Bool) → also_at ds (deeper d (no t)) u ts ≡ onward u (behind (deeper d (no t)) ts)
          → elim b [ true ↦ elim (eqb (no t) (kind_no Semi)) [ true ↦ member_at ds u ts ++ also_at ds 0 (union u (touch_at ds ts)) ts | false ↦ [] ] | false ↦ also_at ds (deeper d (no t)) u ts ]
          ≡ onward u (elim b [ true ↦ t ∷ ts | false ↦ behind (deeper d (no t)) ts ])
      by true h = refl
      by false h = h

  -- THE TREE of an action behind which it ends
  any_of_action : (p : Event → Bool) (a : Action) (ts : Tokens) → Apart ts → any_event p (heard 0 0 (action_tokens a ts)) ≡ any_act p (act_of a)
  unfolding any_event
  any_of_action p a ts s = ap (any_event p) (heard_action a ts s) ∙ (any_action p a [] ∙ or-false (any_act p (act_of a)))

  pub stops_action : (a : Action) (ts : Tokens) → Apart ts → stops_at ds (action_tokens a ts) ≡ may_stop ds (act_of a)
  unfolding stops_at may_stop
  stops_action a ts s = any_of_action (stop_hit (body_stops ds longest_chain)) a ts s ∙ sym (act_stops (body_stops ds longest_chain) (act_of a))

  pub touch_action : (a : Action) (ts : Tokens) → Apart ts → AlikeSets (touch_at ds (action_tokens a ts)) (touched ds (act_of a))
  unfolding touch_at touched
  touch_action a ts s =
      let f = body_sets ds longest_chain in
      record {
        reads = record { same = λ c. touch_reads ds f c _ ∙ (any_of_action (read_hit ds f c) a ts s ∙ sym (act_reads ds f c (act_of a))) };
        writes = record { same = λ c. touch_writes ds f c _ ∙ (any_of_action (write_hit ds f c) a ts s ∙ sym (act_writes ds f c (act_of a))) };
      }

  pub first_place_lem : (a : Action) (ts : Tokens) → place_of (action_tokens a ts) ≡ first_place a
  first_place_lem (block b a m) ts = refl
  first_place_lem (labelled n b a) ts = refl
  first_place_lem (if_then i o t w a) ts = refl
  first_place_lem (decode i o t w b v) ts = refl
  first_place_lem (repeat i a) ts = refl
  first_place_lem (leave i n) ts = refl
  first_place_lem (restart i n) ts = refl
  first_place_lem (activate n l r) ts = refl
  first_place_lem (stop i l r) ts = refl
  first_place_lem (no_op i l r) ts = refl
  first_place_lem (transfer n s b j e o t) ts = refl

  member_action : (a : Action) (ts : Tokens) (u : Sets) (before : List Sets) → Apart ts → Covers u before
      → member_at ds u (action_tokens a ts) ≡ member_faults ds true before a
  unfolding member_at
  member_action a ts u before s c =
      ap₂ (λ (x : Bool) (p : ℕ). when x 52 p ++ when (race u (touch_at ds (action_tokens a ts))) 53 p) (stops_action a ts s) (first_place_lem a ts)
      ∙ ap (λ (x : Bool). when (may_stop ds (act_of a)) 52 (first_place a) ++ when x 53 (first_place a))
      (race_alike u (touch_at ds (action_tokens a ts)) (touched ds (act_of a)) (touch_action a ts s) ∙ c.races (touched ds (act_of a)))

  -- the members up to NEXT or END
  unfoldable pub also_faults : List Sets → Members → List Fault
  also_faults before (end e) = []
  also_faults before (also i a m) = member_faults ds true before a ++ also_faults (touched ds (act_of a) ∷ before) m
  also_faults before (next i a m) = []

  also_action : (a : Action) (d : ℕ) (u : Sets) (ts : Tokens) → also_at ds d u (action_tokens a ts) ≡ also_at ds d u ts
  also_action a d u ts = also_onward d u (action_tokens a ts) ∙ (ap (onward u) (past_action a d ts) ∙ sym (also_onward d u ts))

  -- a member with those behind it, if these are right
  member_then : (a : Action) (m : Members) (ts : Tokens) (u : Sets) (before : List Sets) → Covers u before
      → ((w : Sets) → Covers w (touched ds (act_of a) ∷ before) → also_at ds 0 w (members_tokens m ts) ≡ also_faults (touched ds (act_of a) ∷ before) m)
      → members_at ds u (action_tokens a (members_tokens m ts)) ≡ member_faults ds true before a ++ also_faults (touched ds (act_of a) ∷ before) m
  unfolding members_at
  member_then a m ts u before c rest =
      let s = members_apart m ts in
      let v = touch_at ds (action_tokens a (members_tokens m ts)) in
      ap₂ ◌++◌ (member_action a (members_tokens m ts) u before s c)
      (also_action a 0 (union u v) (members_tokens m ts)
      ∙ rest (union u v) (covers_more u (touched ds (act_of a)) v before c (touch_action a (members_tokens m ts) s)))

  also_members : (m : Members) (ts : Tokens) (u : Sets) (before : List Sets) → Covers u before → also_at ds 0 u (members_tokens m ts) ≡ also_faults before m
  unfolding also_at also_faults members_at halts stops separates member
  also_members (end e) ts u before c = refl
  also_members (next i a m) ts u before c = refl
  also_members (also i a m) ts u before c = member_then a m ts u before c (λ w d. also_members m ts w (touched ds (act_of a) ∷ before) d)

  -- THE TREES of a group
  pub group_members : (a : Action) (m : Members) (ts : Tokens)
      → members_at ds (sets [] []) (action_tokens a (members_tokens m ts)) ≡ member_faults ds true [] a ++ also_faults (touched ds (act_of a) ∷ []) m
  group_members a m ts = member_then a m ts (sets [] []) [] covers_none (λ w d. also_members m ts w (touched ds (act_of a) ∷ []) d)

pub more_members : (a : Action) (m : Members) (ts : Tokens) → more (action_tokens a (members_tokens m ts)) ≡ has_more m
unfolding more scan halts stops separates member
more_members a m ts = ap (λ (l : Tokens). eqb (next_no l) (kind_no Semi)) (past_action a 0 (members_tokens m ts)) ∙ by m
  where
    by : (m : Members) → eqb (next_no (behind 0 (members_tokens m ts))) (kind_no Semi) ≡ has_more m
    by (end e) = refl
    by (also i b n) = refl
    by (next i b n) = refl

-- alternatives are no members
lone : (a : Action) (ts : Tokens) → more ts ≡ false → more (action_tokens a ts) ≡ false
unfolding more
lone a ts h = ap (λ (l : Tokens). eqb (next_no l) (kind_no Semi)) (past_action a 0 ts) ∙ h

lone_counted : (c : Counted) (ts : Tokens) → more (counted_tokens c ts) ≡ false
unfolding more scan halts stops separates member
lone_counted (counted_end i) ts = refl
lone_counted (counted_more i a c) ts = refl

lone_more : (m : SelectedMore) (ts : Tokens) → more (selected_more_tokens m ts) ≡ false
unfolding more scan halts stops separates member
lone_more (selected_end i) ts = refl
lone_more (selected_more i s) ts = refl

past_literal : (l : Literal) (ts : Tokens) → more (literal_tokens l ts) ≡ more ts
unfolding more scan halts stops deeper separates member
past_literal (exact i) ts = refl
past_literal (masked i) ts = refl

past_range : (l : Literal) (r : Range) (ts : Tokens) → more (literal_tokens l (range_tokens r ts)) ≡ more ts
unfolding more scan halts stops deeper separates member
past_range l single ts = past_literal l ts
past_range l (to c k) ts = past_literal l (tk Colon c ∷ literal_tokens k ts) ∙ past_literal k ts

lone_selector : (s : Selector) (b : Info) (ts : Tokens) → more ts ≡ false → more (selector_tokens s (tk Becomes b ∷ ts)) ≡ false
unfolding more scan halts stops deeper separates member
lone_selector (one_of l r) b ts h = past_range l r (tk Becomes b ∷ ts) ∙ h
lone_selector (any_of i l r (close j)) b ts h = past_range l r (tk RBra j ∷ tk Becomes b ∷ ts) ∙ h
lone_selector (any_of i l r (item c k q v)) b ts h = past_range l r (tk Comma c ∷ literal_tokens k (range_tokens q (items_tokens v (tk Becomes b ∷ ts))))

lone_selected : (s : Selected) (ts : Tokens) → more (selected_tokens s ts) ≡ false
unfolding more scan halts stops deeper separates member
lone_selected (select s b a m) ts = lone_selector s b (action_tokens a (selected_more_tokens m ts)) (lone a (selected_more_tokens m ts) (lone_more m ts))
lone_selected (otherwise i b a e) ts = lone a (tk END e ∷ ts) refl

pub lone_alternatives : (v : Alternatives) (ts : Tokens) → more (alternatives_tokens v ts) ≡ false
lone_alternatives (counted a c) ts = lone a (counted_tokens c ts) (lone_counted c ts)
lone_alternatives (selected s) ts = lone_selected s ts
