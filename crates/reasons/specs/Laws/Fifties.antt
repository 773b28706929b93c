-- The numbers of the 50s: MAIN gives 50, and groups give 52 and 53.
use Rattle.std.specs.Prelude.{ℕ, ◌≤◌, ◌≡◌, Bool, true, false, not, ◌⊎◌}
use Rattle.std.proofs.Common.{sym, ap, subst, inl, inr, arith}
use mathlib.Core.List.{List, [], ◌∷◌, ◌++◌}
use Rattle.std.proofs.Math.Option.{Option, none, some}
use Rattle.rules.specs.Text.Tokens.{Info}
use Rattle.rules.specs.Grammar.Trees.{Action, block, labelled, if_then, decode, repeat, leave, restart, activate, stop, no_op, transfer, Members, end, also, next}
use Rattle.rules.specs.Grammar.Trees.{Alternatives, counted, selected, Counted, counted_end, counted_more, Selected, select, otherwise, SelectedMore, selected_end, selected_more}
use Rattle.rules.specs.Declarations.{Table}
use Rattle.rules.specs.Steps.Actions.{act_of}
use Rattle.rules.specs.Whole.Sets.{Sets, touched, may_stop}
use Rattle.rules.specs.Faults.Fault.{Fault, when}
use Rattle.rules.specs.Faults.Bodies.{first_place}
use Rattle.rules.specs.Faults.Whole.{mains, Scope, labelled_in, aims_out, has_more, races_any, member_faults, member_scope, group_faults, members_of, alternatives_groups, counted_groups, selected_groups, more_groups, body_groups, groups_faults}
use Rattle.reasons.specs.Laws.Refused.{Among, among_either, among_when}

-- MAIN
pub mains_50 : (seen : Bool) (ds : Table) (f : Fault) → Among f (mains seen ds) → f.number ≡ 50
unfolding mains
mains_50 seen [] f x = ap (λ (g : Fault). g.number) (sym (among_when f (not seen) 50 0 x).1)
mains_50 seen (d ∷ ds) f x = by d.mainly x (mains_50 seen ds f) (mains_50 true ds f)
  where
    by : (o : Option Info) → Among f (elim o [ none ↦ mains seen ds | some i ↦ when seen 50 i.place ++ mains true ds ]) → (Among f (mains seen ds) → f.number ≡ 50)
        → (Among f (mains true ds) → f.number ≡ 50) → f.number ≡ 50
    by none y u v = u y
    by (some i) y u v = either (among_either f (when seen 50 i.place) (mains true ds) y)
      where
        either : Among f (when seen 50 i.place) ⊎ Among f (mains true ds) → f.number ≡ 50
        either (inl z) = ap (λ (g : Fault). g.number) (sym (among_when f seen 50 i.place z).1)
        either (inr z) = v z

-- groups
abbrev Each : List Fault → Type 0
Each [] = Unit {0}
Each (f ∷ fs) = (52 ≤ f.number) × Each fs

record High (fs : List Fault) : Type 0 where
  each : Each fs

none_of : High []
none_of = record { each = tt }

each_both : (fs gs : List Fault) → Each fs → Each gs → Each (fs ++ gs)
each_both [] gs h k = k
each_both (f ∷ fs) gs h k = (h.0, each_both fs gs h.1 k)

both : {fs gs : List Fault} → High fs → High gs → High (fs ++ gs)
both {fs} {gs} h k = record { each = each_both fs gs h.each k.each }

tested : (b : Bool) (m p : ℕ) → 52 ≤ m → High (when b m p)
tested true m p h = record { each = (h, tt) }
tested false m p h = record { each = tt }

module _ (ds : Table) where
  member_high : (many : Bool) (before : List Sets) (a : Action) → High (member_faults ds many before a)
  member_high false before a = none_of
  member_high true before a =
      both (tested (may_stop ds (act_of a)) 52 (first_place a) (omega arith)) (tested (races_any (touched ds (act_of a)) before) 53 (first_place a) (omega arith))

  mutual
    unfolding group_faults members_of alternatives_groups counted_groups selected_groups more_groups

    group_high : (s : Scope) (a : Action) → High (group_faults ds s a)
    group_high s (block b a m) =
        both (member_high (has_more m) [] a) (both (group_high (member_scope ds (has_more m) s) a) (behind_high s (touched ds (act_of a) ∷ []) m))
    group_high s (labelled n b a) = group_high (labelled_in n.word s) a
    group_high s (if_then i o t w a) = group_high s a
    group_high s (decode i o t w b v) = alternatives_group_high s v
    group_high s (repeat i a) = group_high s a
    group_high s (leave i n) = tested (aims_out s n.word) 52 i.place (omega arith)
    group_high s (restart i n) = tested (aims_out s n.word) 52 i.place (omega arith)
    group_high s (activate n l r) = none_of
    group_high s (stop i l r) = none_of
    group_high s (no_op i l r) = none_of
    group_high s (transfer n b c j e o t) = none_of

    behind_high : (s : Scope) (before : List Sets) (m : Members) → High (members_of ds s before m)
    behind_high s before (end e) = none_of
    behind_high s before (also i a m) =
        both (member_high true before a) (both (group_high (member_scope ds true s) a) (behind_high s (touched ds (act_of a) ∷ before) m))
    behind_high s before (next i a m) =
        both (member_high (has_more m) [] a) (both (group_high (member_scope ds (has_more m) s) a) (behind_high s (touched ds (act_of a) ∷ []) m))

    alternatives_group_high : (s : Scope) (v : Alternatives) → High (alternatives_groups ds s v)
    alternatives_group_high s (counted a c) = both (group_high s a) (counted_group_high s c)
    alternatives_group_high s (selected x) = selected_group_high s x

    counted_group_high : (s : Scope) (c : Counted) → High (counted_groups ds s c)
    counted_group_high s (counted_end e) = none_of
    counted_group_high s (counted_more c a more) = both (group_high s a) (counted_group_high s more)

    selected_group_high : (s : Scope) (x : Selected) → High (selected_groups ds s x)
    selected_group_high s (select x b a m) = both (group_high s a) (more_group_high s m)
    selected_group_high s (otherwise i b a e) = group_high s a

    more_group_high : (s : Scope) (m : SelectedMore) → High (more_groups ds s m)
    more_group_high s (selected_end e) = none_of
    more_group_high s (selected_more c x) = selected_group_high s x

  body_groups_high : (o : Option Action) → High (body_groups ds o)
  body_groups_high none = none_of
  body_groups_high (some a) = group_high none a

  groups_high : (more : Table) → High (groups_faults ds more)
  unfolding groups_faults
  groups_high [] = none_of
  groups_high (d ∷ more) = both (body_groups_high d.body) (groups_high more)

each_among : (fs : List Fault) (f : Fault) → Each fs → Among f fs → 52 ≤ f.number
each_among [] f h x = absurd x
each_among (g ∷ fs) f h (inl e) = subst (λ (y : Fault). 52 ≤ y.number) e h.0
each_among (g ∷ fs) f h (inr x) = each_among fs f h.1 x

pub from_52 : (ds more : Table) (f : Fault) → Among f (groups_faults ds more) → 52 ≤ f.number
from_52 ds more f x = each_among (groups_faults ds more) f (groups_high ds more).each x
