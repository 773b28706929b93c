-- Rows 52 and 53 over a whole body: where it has no such fault, the members of its groups neither jump out, nor stop, nor race.
use Rattle.std.specs.Prelude.{ℕ, suc, ◌≡◌, refl, Bool, true, false}
use Rattle.std.proofs.Common.{sym, subst}
use Rattle.std.proofs.Math.Path.{ap₂}
use Rattle.std.proofs.Math.Bool.{◌||◌}
use Rattle.std.proofs.lemmas.Bool.{false≢true}
use mathlib.Core.List.{List, [], ◌∷◌, ◌++◌}
use Rattle.std.proofs.Math.Option.{Option, none, some}
use Rattle.rules.specs.Grammar.Trees.{Action, block, labelled, if_then, decode, repeat, leave, restart, activate, stop, no_op, transfer, Members, end, also, next}
use Rattle.rules.specs.Grammar.Trees.{Alternatives, counted, selected, Counted, counted_end, counted_more, Selected, select, otherwise, SelectedMore, selected_end, selected_more}
use Rattle.rules.specs.Declarations.{Word, Table}
use Rattle.rules.specs.Selectors.{Case, numbered, listed, otherwise as any_value, selector_items}
use Rattle.rules.specs.Steps.Actions.{Act, par, Alts, no_alts, alt, whole, in_turn, act_of, groups, alts_of, counted_alts, selected_alts, more_alts}
use Rattle.rules.specs.Steps.Actions.{Groups as Block}
use Rattle.rules.specs.Whole.Sets.{Sets, sets_of, touched, race, stops_in, may_stop}
use Rattle.laws_orders.proofs.Orders.Orderly.{AllApart, AllApartAlts, without, jumps_out, jumps_i, jumps_alts}
use Rattle.rules.specs.Faults.Fault.{when}
use Rattle.rules.specs.Faults.Bodies.{first_place}
use Rattle.rules.specs.Faults.Whole.{Scope, labelled_in, aims_out, has_more, races_any, member_faults, member_scope}
use Rattle.rules.specs.Faults.Whole.{group_faults, members_of, alternatives_groups, counted_groups, selected_groups, more_groups}
use Rattle.laws_orders.proofs.Orders.Tests.{or_neither}
use Rattle.laws_accepted.proofs.Accepted.Faultless.{both_empty, when_empty}
use Rattle.laws_accepted.proofs.Accepted.Named.{AllKnown, none_known}
use Rattle.laws_accepted.proofs.Accepted.Jumps.{all_known_join, all_known_without, aimed}
use Rattle.laws_accepted.proofs.Accepted.Races.{no_races_union}
use Rattle.laws_accepted.proofs.Accepted.Grouped.{stay_none, stay_without, stay_aim, Grouped, Member, Blocked, Alternatively, member, two_members, block_grouped, alternative}

module _ (ds : Table) where
  mutual
    unfolding act_of groups alts_of counted_alts selected_alts more_alts jumps_out jumps_i jumps_alts group_faults members_of alternatives_groups counted_groups selected_groups more_groups

    grouped : (a : Action) (s : Scope) → group_faults ds s a ≡ [] → Grouped ds s (act_of a)
    grouped (block b a m) s e =
        let rest = group_faults ds (member_scope ds (has_more m) s) a ++ members_of ds s (touched ds (act_of a) ∷ []) m in
        let h = both_empty (member_faults ds (has_more m) [] a) rest e in
        let k = both_empty (group_faults ds (member_scope ds (has_more m) s) a) (members_of ds s (touched ds (act_of a) ∷ []) m) h.1 in
        let x = member ds (has_more m) s [] a h.0 (grouped a (member_scope ds (has_more m) s) k.0) in
        block_grouped ds (has_more m) s [] (groups (act_of a) m) (members_grouped m (has_more m) s [] (act_of a) (λ p. p) x k.1)
    grouped (labelled n b a) s e =
        let g = grouped a (labelled_in n.word s) e in
        record { groups = g.groups; stays = stay_without n.word s (jumps_out (act_of a)) g.stays }
    grouped (if_then i o t w a) s e = let g = grouped a s e in record { groups = g.groups; stays = g.stays }
    grouped (decode i o t w b v) s e = let g = alternatives_grouped v s e in record { groups = g.groups; stays = g.stays }
    grouped (repeat i a) s e = let g = grouped a s e in record { groups = g.groups; stays = g.stays }
    grouped (leave i n) s e = record { groups = tt; stays = stay_aim s n.word i.place e }
    grouped (restart i n) s e = record { groups = tt; stays = stay_aim s n.word i.place e }
    grouped (activate n l r) s e = record { groups = tt; stays = stay_none s }
    grouped (stop i l r) s e = record { groups = tt; stays = stay_none s }
    grouped (no_op i l r) s e = record { groups = tt; stays = stay_none s }
    grouped (transfer n x b j q o t) s e = record { groups = tt; stays = stay_none s }

    -- the member x of a group, and what follows it
    members_grouped :
        (m : Members) (many : Bool) (s : Scope) (before : List Sets) (x : Act) → (has_more m ≡ true → many ≡ true) → Member ds many s before x
        → members_of ds s (touched ds x ∷ before) m ≡ [] → Blocked ds many s before (groups x m)
    members_grouped (end i) many s before x h p e = record { first = p; behind = tt }
    members_grouped (also i a m) many s before x h p e =
        let so_far = touched ds x ∷ before in
        let rest = group_faults ds (some []) a ++ members_of ds s (touched ds (act_of a) ∷ so_far) m in
        let f = both_empty (member_faults ds true so_far a) rest e in
        let k = both_empty (group_faults ds (some []) a) (members_of ds s (touched ds (act_of a) ∷ so_far) m) f.1 in
        let y = member ds true s so_far a f.0 (grouped a (some []) k.0) in
        let g = members_grouped m true s so_far (act_of a) (λ q. refl) y k.1 in
        let z = two_members ds s before x (groups (act_of a) m).group (subst (λ b. Member ds b s before x) (h refl) p) g.first in
        record { first = subst (λ b. Member ds b s before (par x (groups (act_of a) m).group)) (sym (h refl)) z; behind = g.behind }
    members_grouped (next i a m) many s before x h p e =
        let rest = group_faults ds (member_scope ds (has_more m) s) a ++ members_of ds s (touched ds (act_of a) ∷ []) m in
        let f = both_empty (member_faults ds (has_more m) [] a) rest e in
        let k = both_empty (group_faults ds (member_scope ds (has_more m) s) a) (members_of ds s (touched ds (act_of a) ∷ []) m) f.1 in
        let y = member ds (has_more m) s [] a f.0 (grouped a (member_scope ds (has_more m) s) k.0) in
        let g = members_grouped m (has_more m) s [] (act_of a) (λ q. q) y k.1 in
        record { first = p; behind = block_grouped ds (has_more m) s [] (groups (act_of a) m) g }

    alternatives_grouped : (v : Alternatives) (s : Scope) → alternatives_groups ds s v ≡ [] → Alternatively ds s (alts_of v)
    alternatives_grouped (counted a c) s e =
        let h = both_empty (group_faults ds s a) (counted_groups ds s c) e in
        alternative ds (numbered 0) s (act_of a) (counted_alts 1 c) (grouped a s h.0) (counted_grouped c 1 s h.1)
    alternatives_grouped (selected x) s e = selected_grouped x s e

    counted_grouped : (c : Counted) (n : ℕ) (s : Scope) → counted_groups ds s c ≡ [] → Alternatively ds s (counted_alts n c)
    counted_grouped (counted_end i) n s e = record { groups = tt; stays = stay_none s }
    counted_grouped (counted_more i a c) n s e =
        let h = both_empty (group_faults ds s a) (counted_groups ds s c) e in
        alternative ds (numbered n) s (act_of a) (counted_alts (suc n) c) (grouped a s h.0) (counted_grouped c (suc n) s h.1)

    selected_grouped : (v : Selected) (s : Scope) → selected_groups ds s v ≡ [] → Alternatively ds s (selected_alts v)
    selected_grouped (select x b a m) s e =
        let h = both_empty (group_faults ds s a) (more_groups ds s m) e in
        alternative ds (listed (selector_items x)) s (act_of a) (more_alts m) (grouped a s h.0) (more_grouped m s h.1)
    selected_grouped (otherwise i b a f) s e = alternative ds any_value s (act_of a) no_alts (grouped a s e) (record { groups = tt; stays = stay_none s })

    more_grouped : (m : SelectedMore) (s : Scope) → more_groups ds s m ≡ [] → Alternatively ds s (more_alts m)
    more_grouped (selected_end i) s e = record { groups = tt; stays = stay_none s }
    more_grouped (selected_more i x) s e = selected_grouped x s e

  -- the groups of a body
  pub body_groups_lem : (a : Action) → group_faults ds none a ≡ [] → AllApart ds (act_of a)
  body_groups_lem a e = (grouped a none e).groups
