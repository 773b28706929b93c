-- Rows 52 and 53: where a body has no such fault, the members of its groups neither jump out, nor stop, nor race.
use Rattle.std.specs.Prelude.{ℕ, suc, ◌≡◌, refl, Bool, true, false}
use Rattle.std.proofs.Common.{sym, subst}
use Rattle.std.proofs.Math.Path.{ap₂}
use Rattle.std.proofs.Math.Bool.{◌||◌}
use Rattle.std.proofs.lemmas.Bool.{false≢true}
use mathlib.Core.List.{List, [], ◌∷◌, ◌++◌}
use Rattle.std.proofs.Math.Option.{Option, none, some}
use Rattle.rules.specs.Grammar.Trees.{Action, block, labelled, if_then, decode, repeat, leave, restart, activate, stop, no_op, transfer, Members, end, also, next}
use Rattle.rules.specs.Grammar.Trees.{Alternatives, counted, selected, Counted, counted_end, counted_more, Selected, select, otherwise, SelectedMore, selected_end, selected_more}
use Rattle.rules.specs.Declarations.{Word, Table}
use Rattle.rules.specs.Selectors.{Case, numbered, listed, otherwise as any_value, selector_items}
use Rattle.rules.specs.Steps.Actions.{Act, par, Alts, no_alts, alt, whole, in_turn, act_of, groups, alts_of, counted_alts, selected_alts, more_alts}
use Rattle.rules.specs.Steps.Actions.{Groups as Block}
use Rattle.rules.specs.Whole.Sets.{Sets, sets_of, touched, race, stops_in, may_stop}
use Rattle.laws_orders.proofs.Orders.Orderly.{AllApart, AllApartAlts, without, jumps_out, jumps_i, jumps_alts}
use Rattle.rules.specs.Faults.Fault.{when}
use Rattle.rules.specs.Faults.Bodies.{first_place}
use Rattle.rules.specs.Faults.Whole.{Scope, labelled_in, aims_out, has_more, races_any, member_faults, member_scope}
use Rattle.rules.specs.Faults.Whole.{group_faults, members_of, alternatives_groups, counted_groups, selected_groups, more_groups}
use Rattle.laws_orders.proofs.Orders.Tests.{or_neither}
use Rattle.laws_accepted.proofs.Accepted.Faultless.{both_empty, when_empty}
use Rattle.laws_accepted.proofs.Accepted.Named.{AllKnown, none_known}
use Rattle.laws_accepted.proofs.Accepted.Jumps.{all_known_join, all_known_without, aimed}
use Rattle.laws_accepted.proofs.Accepted.Races.{no_races_union}

-- jumps that stay in a scope: outside any group of two or more they may go anywhere
abbrev pub Stay : Scope → List Word → Type 0
Stay none ks = Unit {0}
Stay (some ls) ks = AllKnown ls ks

pub stay_none : (s : Scope) → Stay s []
stay_none none = tt
stay_none (some ls) = tt

stay_join : (s : Scope) (xs ys : List Word) → Stay s xs → Stay s ys → Stay s (xs ++ ys)
stay_join none xs ys p q = tt
stay_join (some ls) xs ys p q = all_known_join ls xs ys p q

pub stay_without : (l : Word) (s : Scope) (ks : List Word) → Stay (labelled_in l s) ks → Stay s (without l ks)
stay_without l none ks h = tt
stay_without l (some ls) ks h = all_known_without l ls ks h

pub stay_aim : (s : Scope) (n : Word) (p : ℕ) → when (aims_out s n) 52 p ≡ [] → Stay s (n ∷ [])
stay_aim none n p e = tt
stay_aim (some ls) n p e = aimed n ls 52 p e

module _ (ds : Table) where
  -- what does not leave its member leaves nothing
  stay_member : (b : Bool) (s : Scope) (ks : List Word) → Stay (member_scope ds b s) ks → Stay s ks
  stay_member false s ks h = h
  stay_member true s ks h = subst (Stay s) (sym (none_known ks h)) (stay_none s)

  -- an action in a scope
  pub record Grouped (s : Scope) (x : Act) : Type 0 where
    pub groups : AllApart ds x
    pub stays : Stay s (jumps_out x)

  -- a member behind others that touch these sets, in a group of two or more or alone in its group
  pub record Member (many : Bool) (s : Scope) (before : List Sets) (x : Act) : Type 0 where
    pub groups : AllApart ds x
    pub stays : Stay (member_scope ds many s) (jumps_out x)
    pub goes_on : many ≡ true → may_stop ds x ≡ false
    pub no_race : many ≡ true → races_any (touched ds x) before ≡ false

  abbrev pub Behind : Scope → Option Act → Type 0
  Behind s none = Unit {0}
  Behind s (some x) = Grouped s x

  -- a block while it is read: its first group, and what comes behind NEXT
  pub record Blocked (many : Bool) (s : Scope) (before : List Sets) (g : Block) : Type 0 where
    pub first : Member many s before g.group
    pub behind : Behind s g.behind

  pub record Alternatively (s : Scope) (bs : Alts) : Type 0 where
    pub groups : AllApartAlts ds bs
    pub stays : Stay s (jumps_alts bs)

  pub member : (many : Bool) (s : Scope) (before : List Sets) (a : Action) → member_faults ds many before a ≡ [] → Grouped (member_scope ds many s) (act_of a)
      → Member many s before (act_of a)
  member false s before a e g =
      record { groups = g.groups; stays = g.stays; goes_on = λ p. absurd (false≢true p); no_race = λ p. absurd (false≢true p) }
  member true s before a e g =
      let stopping = may_stop ds (act_of a) in
      let racing = races_any (touched ds (act_of a)) before in
      let h = both_empty (when stopping 52 (first_place a)) (when racing 53 (first_place a)) e in
      record {
        groups = g.groups;
        stays = g.stays;
        goes_on = λ p. when_empty stopping 52 (first_place a) h.0;
        no_race = λ p. when_empty racing 53 (first_place a) h.1;
      }

  -- a member in front of those behind it
  pub two_members :
      (s : Scope) (before : List Sets) (x y : Act) → Member true s before x → Member true s (touched ds x ∷ before) y
      → Member true s before (par x y)
  unfolding touched sets_of may_stop stops_in jumps_out races_any
  two_members s before x y p q =
      let r = or_neither (race (touched ds x) (touched ds y)) (races_any (touched ds y) before) (q.no_race refl) in
      record {
        groups = (
          record {
            no_race = r.0;
            first_goes_on = p.goes_on refl;
            second_goes_on = q.goes_on refl;
            first_stays = none_known (jumps_out x) p.stays;
            second_stays = none_known (jumps_out y) q.stays;
          },
          p.groups,
          q.groups,
        );
        stays = all_known_join [] (jumps_out x) (jumps_out y) p.stays q.stays;
        goes_on = λ z. ap₂ ◌||◌ (p.goes_on refl) (q.goes_on refl);
        no_race = λ z. no_races_union (touched ds x) (touched ds y) before (p.no_race refl) r.1;
      }

  pub block_grouped : (many : Bool) (s : Scope) (before : List Sets) (g : Block) → Blocked many s before g → Grouped s (whole g)
  unfolding jumps_out
  block_grouped many s before g h = by g.group g.behind h.first h.behind
    where
      by : (x : Act) (o : Option Act) → Member many s before x → Behind s o → Grouped s (in_turn x o)
      by x none p q = record { groups = p.groups; stays = stay_member many s (jumps_out x) p.stays }
      by x (some y) p q =
          record {
            groups = (p.groups, q.groups);
            stays = stay_join s (jumps_out x) (jumps_out y) (stay_member many s (jumps_out x) p.stays) q.stays;
          }

  pub alternative : (c : Case) (s : Scope) (x : Act) (bs : Alts) → Grouped s x → Alternatively s bs → Alternatively s (alt c x bs)
  unfolding jumps_alts
  alternative c s x bs p q =
      record { groups = (p.groups, q.groups); stays = stay_join s (jumps_out x) (jumps_alts bs) p.stays q.stays }
