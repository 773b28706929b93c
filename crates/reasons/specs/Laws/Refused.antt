-- Where 53 is refused there is a race to name: two members of one group, and a carrier that they share in conflict.
use Prim.Native.Nat.{ℕ, zero, suc, ◌+◌, ◌<◌, ◌≤◌}
use Rattle.std.specs.Prelude.{◌≡◌, Bool, not, ◌&&◌, ◌⊎◌, eqb, length}
use Rattle.std.proofs.Math.Path.{refl, ap}
use Rattle.std.proofs.Common.{sym, ◌∙◌, subst, arith, eq-eqb, eqb-true}
use Rattle.std.proofs.Math.Bool.{true, false}
use Rattle.std.proofs.lemmas.Bool.{false≢true}
use mathlib.Core.List.{List, [], ◌∷◌, ◌++◌}
use Rattle.std.proofs.Math.Logic.{inl, inr}
use Rattle.std.proofs.Math.Option.{Option, none, some, none-ne-some, some-injective}
use Rattle.std.proofs.Math.Decide.{dec_lt}
use Rattle.std.proofs.Math.ListN.{get_elem?}
use Rattle.rules.specs.Text.Tokens.{Info}
use Rattle.rules.specs.Limits.{longest_chain}
use Rattle.rules.specs.Grammar.Trees.{Action, block, labelled, if_then, decode, repeat, leave, restart, activate, stop, no_op, transfer, Members, end, also, next}
use Rattle.rules.specs.Grammar.Trees.{Alternatives, counted, selected, Counted, counted_end, counted_more, Selected, select, otherwise, SelectedMore, selected_end, selected_more}
use Rattle.rules.specs.Declarations.{Word, Names, BitNames, Target, Declared, Table, number_of, reach, reach_number, reach_of, reach_storage, reach_under, reach_on}
use Rattle.rules.specs.Steps.Actions.{Access, Act, seq, par, label, ins, Ins, iff, call, noop, Alts, alt, act_of}
use Rattle.rules.specs.Steps.Actions.{decode as decodes, repeat as repeats, leave as leaves, restart as restarts, stop as stops, transfer as transfers, no_alts}
use Rattle.rules.specs.Steps.Runs.{body_act}
use Rattle.rules.specs.Whole.Sets.{Sets, touched, race, member, meet, may_stop, owner, owner_in, stores, sets_of, sets_i, sets_alts, body_sets}
use Rattle.rules.specs.Faults.Fault.{Fault, fault, when, least_from, least}
use Rattle.rules.specs.Faults.Bodies.{first_place}
use Rattle.rules.specs.Faults.Whole.{Scope, labelled_in, aims_out, has_more, races_any, member_faults, member_scope, group_faults, members_of, alternatives_groups, counted_groups, selected_groups, more_groups, mains, begins_chain, chains, body_groups, groups_faults, faults50}
use Rattle.laws_orders.proofs.Orders.Tests.{or_either, or_left, or_right, member_either}
use Rattle.reasons.specs.Laws.Races.{race_among_lem}
use Rattle.rules.specs.Reasons.{Member, member_of, others, group_of, groups_in, groups_behind, groups_alternatives, groups_counted, groups_selected, groups_more, groups_of_body, groups_of, earliest, Race, race_at, first_race, race_from, race_among, conflict, Carrier, first_conflict, writers, racing, race_on, race_reason, reason53}

-- a fault of a list
abbrev pub Among : Fault → List Fault → Type 0
Among f [] = ⊥
Among f (g ∷ fs) = (g ≡ f) ⊎ Among f fs

pub among_either : (f : Fault) (xs ys : List Fault) → Among f (xs ++ ys) → Among f xs ⊎ Among f ys
among_either f [] ys x = inr x
among_either f (g ∷ xs) ys (inl e) = inl (inl e)
among_either f (g ∷ xs) ys (inr x) = by (among_either f xs ys x)
  where
    by : Among f xs ⊎ Among f ys → Among f (g ∷ xs) ⊎ Among f ys
    by (inl z) = inl (inr z)
    by (inr z) = inr z

pub among_when : (f : Fault) (b : Bool) (n p : ℕ) → Among f (when b n p) → (b ≡ true) × (fault n p ≡ f)
among_when f true n p (inl e) = (refl, e)
among_when f true n p (inr x) = absurd x
among_when f false n p x = absurd x

-- the least of a list is one of them
least_from_among : (before : Fault → Fault → Bool) (b : Fault) (fs : List Fault) → (least_from before b fs ≡ b) ⊎ Among (least_from before b fs) fs
unfolding least_from
least_from_among before b [] = inl refl
least_from_among before b (f ∷ fs) = by (before f b) (least_from_among before (elim (before f b) [ true ↦ f | false ↦ b ]) fs)
  where
    by : (c : Bool) → (least_from before (elim c [ true ↦ f | false ↦ b ]) fs ≡ elim c [ true ↦ f | false ↦ b ])
        ⊎ Among (least_from before (elim c [ true ↦ f | false ↦ b ]) fs) fs
        → (least_from before (elim c [ true ↦ f | false ↦ b ]) fs ≡ b) ⊎ Among (least_from before (elim c [ true ↦ f | false ↦ b ]) fs) (f ∷ fs)
    by true (inl e) = inr (inl (sym e))
    by true (inr x) = inr (inr x)
    by false (inl e) = inl e
    by false (inr x) = inr (inr x)

pub least_among : (before : Fault → Fault → Bool) (fs : List Fault) (f : Fault) → least before fs ≡ some f → Among f fs
unfolding least
least_among before [] f q = absurd (none-ne-some f q)
least_among before (g ∷ fs) f q = by (least_from_among before g fs)
  where
    is : least_from before g fs ≡ f
    is = some-injective (least_from before g fs) f q

    by : (least_from before g fs ≡ g) ⊎ Among (least_from before g fs) fs → Among f (g ∷ fs)
    by (inl e) = inl (sym e ∙ is)
    by (inr x) = inr (subst (λ (y : Fault). Among y fs) is x)

-- another number, another fault
other_number : {A : Type 0} {n m p q : ℕ} → (n ≡ m → ⊥) → fault n p ≡ fault m q → A
other_number h e = absurd (h (ap (λ (f : Fault). f.number) e))

-- a race that is found
pub record Found (o : Option Race) : Type 0 where
  pub race : Race
  pub is : o ≡ some race

first_found : (o q : Option Race) → Found o → Found (first_race o q)
first_found none q f = absurd (none-ne-some f.race f.is)
first_found (some r) q f = record { race = r; is = refl }

second_found : (o q : Option Race) → Found q → Found (first_race o q)
second_found none q f = f
second_found (some r) q f = record { race = r; is = refl }

module _ (p : ℕ) where
  found_left : (gs hs : List (List Member)) → Found (race_among p gs) → Found (race_among p (gs ++ hs))
  unfolding race_among
  found_left [] hs f = absurd (none-ne-some f.race f.is)
  found_left (g ∷ gs) hs f = by (race_from p [] g) f (λ x. found_left gs hs x)
    where
      by : (o : Option Race) → Found (first_race o (race_among p gs)) → (Found (race_among p gs) → Found (race_among p (gs ++ hs))) → Found (first_race o (race_among p (gs ++ hs)))
      by none x rest = rest x
      by (some r) x rest = record { race = r; is = refl }

  found_right : (gs hs : List (List Member)) → Found (race_among p hs) → Found (race_among p (gs ++ hs))
  unfolding race_among
  found_right [] hs f = f
  found_right (g ∷ gs) hs f = second_found (race_from p [] g) (race_among p (gs ++ hs)) (found_right gs hs f)

-- the earliest of some members
record Chosen (o : Option Member) : Type 0 where
  member : Member
  is : o ≡ some member

chosen_front : (l : Member) (es fs : List Member) → Chosen (earliest l es) → Chosen (earliest l (es ++ fs))
unfolding earliest
chosen_front l [] fs c = absurd (none-ne-some c.member c.is)
chosen_front l (e ∷ es) fs c = by (race e.touches l.touches) c (λ x. chosen_front l es fs x)
  where
    by : (b : Bool) → Chosen (elim b [ true ↦ some e | false ↦ earliest l es ]) → (Chosen (earliest l es) → Chosen (earliest l (es ++ fs)))
        → Chosen (elim b [ true ↦ some e | false ↦ earliest l (es ++ fs) ])
    by true x rest = record { member = e; is = refl }
    by false x rest = rest x

chosen_last : (l x : Member) (es : List Member) → race x.touches l.touches ≡ true → Chosen (earliest l (es ++ (x ∷ [])))
unfolding earliest
chosen_last l x [] t = record { member = x; is = rw (t, earliest) refl }
chosen_last l x (e ∷ es) t = by (race e.touches l.touches) (chosen_last l x es t)
  where
    by : (b : Bool) → Chosen (earliest l (es ++ (x ∷ []))) → Chosen (elim b [ true ↦ some e | false ↦ earliest l (es ++ (x ∷ [])) ])
    by true c = record { member = e; is = refl }
    by false c = c

-- members that stand for the sets of those before
record Stand (es : List Member) (before : List Sets) : Type 0 where
  chosen : (l : Member) → races_any l.touches before ≡ true → Chosen (earliest l es)

stand_more : (es : List Member) (before : List Sets) (x : Member) → Stand es before → Stand (es ++ (x ∷ [])) (x.touches ∷ before)
unfolding races_any
stand_more es before x s = record { chosen = λ l h. by l (or_either (race x.touches l.touches) (races_any l.touches before) h) }
  where
    by : (l : Member) → (race x.touches l.touches ≡ true) ⊎ (races_any l.touches before ≡ true) → Chosen (earliest l (es ++ (x ∷ [])))
    by l (inl t) = chosen_last l x es t
    by l (inr t) = chosen_front l es (x ∷ []) (s.chosen l t)

stand_none : Stand [] []
unfolding races_any
stand_none = record { chosen = λ l h. absurd (false≢true h) }

module _ (ds : Table) (p : ℕ) where
  abbrev f : Fault
  f = fault 53 p

  found_at : (es : List Member) (l : Member) → l.place ≡ p → Chosen (earliest l es) → Found (race_at p es l)
  unfolding race_at
  found_at es l e c = record { race = record { earlier = c.member; later = l }; is = rw (eq-eqb l.place p e, race_at, c.is) refl }

  -- 53 of a member behind others
  member_raced : (b : Bool) (before : List Sets) (es : List Member) (a : Action) → Stand es before → Among f (member_faults ds b before a) → Found (race_at p es (member_of ds a))
  unfolding member_of
  member_raced false before es a s x = absurd x
  member_raced true before es a s x = by (among_either f (when (may_stop ds (act_of a)) 52 (first_place a)) (when (races_any (touched ds (act_of a)) before) 53 (first_place a)) x)
    where
      by : Among f (when (may_stop ds (act_of a)) 52 (first_place a)) ⊎ Among f (when (races_any (touched ds (act_of a)) before) 53 (first_place a)) → Found (race_at p es (member_of ds a))
      by (inl y) = other_number (λ h. omega arith) (among_when f (may_stop ds (act_of a)) 52 (first_place a) y).1
      by (inr y) =
          let z = among_when f (races_any (touched ds (act_of a)) before) 53 (first_place a) y in
          found_at es (member_of ds a) (ap (λ (g : Fault). g.place) z.1) (s.chosen (member_of ds a) z.0)

  none_before : (a : Action) → Found (race_at p [] (member_of ds a)) → ⊥
  unfolding race_at earliest
  none_before a x = by (eqb (member_of ds a).place p) x
    where
      by : (b : Bool) → Found (elim b [ true ↦ none | false ↦ none ]) → ⊥
      by true y = none-ne-some y.race y.is
      by false y = none-ne-some y.race y.is

  abbrev Raced : List (List Member) → Type 0
  Raced gs = Found (race_among p gs)

  -- what the members behind the first come to: a race in its group, or in one behind it
  abbrev Behind : List Member → Members → Type 0
  Behind es m = Found (race_from p es (others ds m)) ⊎ Raced (groups_behind ds m)

  -- a group from its first member on
  group_raced : (b : Bool) (a : Action) (m : Members) → Among f (member_faults ds b [] a) ⊎ (Raced (groups_in ds a) ⊎ Behind (member_of ds a ∷ []) m)
      → Raced (group_of ds a m ∷ (groups_in ds a ++ groups_behind ds m))
  unfolding race_among race_from
  group_raced b a m (inl x) = absurd (none_before a (member_raced b [] [] a stand_none x))
  group_raced b a m (inr (inl x)) = second_found (race_from p [] (group_of ds a m)) _ (found_left p (groups_in ds a) (groups_behind ds m) x)
  group_raced b a m (inr (inr (inl x))) = first_found (race_from p [] (group_of ds a m)) _ (second_found (race_at p [] (member_of ds a)) _ x)
  group_raced b a m (inr (inr (inr x))) = second_found (race_from p [] (group_of ds a m)) _ (found_right p (groups_in ds a) (groups_behind ds m) x)

  either : {A B : Type 0} (xs ys : List Fault) → (Among f xs → A) → (Among f ys → B) → Among f (xs ++ ys) → A ⊎ B
  either xs ys g h x = by g h (among_either f xs ys x)
    where
      by : {A B : Type 0} → (Among f xs → A) → (Among f ys → B) → Among f xs ⊎ Among f ys → A ⊎ B
      by g h (inl y) = inl (g y)
      by g h (inr y) = inr (h y)

  joined : (gs hs : List (List Member)) → Raced gs ⊎ Raced hs → Raced (gs ++ hs)
  joined gs hs (inl x) = found_left p gs hs x
  joined gs hs (inr x) = found_right p gs hs x

  also_raced : (es : List Member) (a : Action) (m : Members) → Found (race_at p es (member_of ds a)) ⊎ (Raced (groups_in ds a) ⊎ Behind (es ++ (member_of ds a ∷ [])) m)
      → Found (race_from p es (member_of ds a ∷ others ds m)) ⊎ Raced (groups_in ds a ++ groups_behind ds m)
  unfolding race_from
  also_raced es a m (inl x) = inl (first_found (race_at p es (member_of ds a)) _ x)
  also_raced es a m (inr (inl x)) = inr (found_left p (groups_in ds a) (groups_behind ds m) x)
  also_raced es a m (inr (inr (inl x))) = inl (second_found (race_at p es (member_of ds a)) _ x)
  also_raced es a m (inr (inr (inr x))) = inr (found_right p (groups_in ds a) (groups_behind ds m) x)

  mutual
    unfolding group_faults groups_in others race_from member_of

    action_raced : (a : Action) (s : Scope) → Among f (group_faults ds s a) → Raced (groups_in ds a)
    action_raced (block b a m) s x =
        group_raced (has_more m) a m
        (either (member_faults ds (has_more m) [] a) (group_faults ds (member_scope ds (has_more m) s) a ++ members_of ds s (touched ds (act_of a) ∷ []) m) (λ y. y)
        (either (group_faults ds (member_scope ds (has_more m) s) a) (members_of ds s (touched ds (act_of a) ∷ []) m) (λ y. action_raced a (member_scope ds (has_more m) s) y)
        (λ y. members_raced m s (touched ds (act_of a) ∷ []) (member_of ds a ∷ []) (stand_more [] [] (member_of ds a) stand_none) y)) x)
    action_raced (labelled n b a) s x = action_raced a (labelled_in n.word s) x
    action_raced (if_then i o t w a) s x = action_raced a s x
    action_raced (decode i o t w b v) s x = alternatives_raced v s x
    action_raced (repeat i a) s x = action_raced a s x
    action_raced (leave i n) s x = other_number (λ h. omega arith) (among_when f (aims_out s n.word) 52 i.place x).1
    action_raced (restart i n) s x = other_number (λ h. omega arith) (among_when f (aims_out s n.word) 52 i.place x).1
    action_raced (activate n l r) s x = absurd x
    action_raced (stop i l r) s x = absurd x
    action_raced (no_op i l r) s x = absurd x
    action_raced (transfer n b c j e o t) s x = absurd x

    members_raced : (m : Members) (s : Scope) (before : List Sets) (es : List Member) → Stand es before → Among f (members_of ds s before m) → Behind es m
    members_raced (end e) s before es st x = absurd x
    members_raced (also i a m) s before es st x =
        also_raced es a m
        (either (member_faults ds true before a) (group_faults ds (member_scope ds true s) a ++ members_of ds s (touched ds (act_of a) ∷ before) m)
        (member_raced true before es a st)
        (either (group_faults ds (member_scope ds true s) a) (members_of ds s (touched ds (act_of a) ∷ before) m) (λ y. action_raced a (member_scope ds true s) y)
        (λ y. members_raced m s (touched ds (act_of a) ∷ before) (es ++ (member_of ds a ∷ [])) (stand_more es before (member_of ds a) st) y)) x)
    members_raced (next i a m) s before es st x =
        inr (group_raced (has_more m) a m
        (either (member_faults ds (has_more m) [] a) (group_faults ds (member_scope ds (has_more m) s) a ++ members_of ds s (touched ds (act_of a) ∷ []) m) (λ y. y)
        (either (group_faults ds (member_scope ds (has_more m) s) a) (members_of ds s (touched ds (act_of a) ∷ []) m) (λ y. action_raced a (member_scope ds (has_more m) s) y)
        (λ y. members_raced m s (touched ds (act_of a) ∷ []) (member_of ds a ∷ []) (stand_more [] [] (member_of ds a) stand_none) y)) x))

    alternatives_raced : (v : Alternatives) (s : Scope) → Among f (alternatives_groups ds s v) → Raced (groups_alternatives ds v)
    alternatives_raced (counted a c) s x = joined (groups_in ds a) (groups_counted ds c) (either (group_faults ds s a) (counted_groups ds s c) (λ y. action_raced a s y) (λ y. counted_raced c s y) x)
    alternatives_raced (selected v) s x = selected_raced v s x

    counted_raced : (c : Counted) (s : Scope) → Among f (counted_groups ds s c) → Raced (groups_counted ds c)
    counted_raced (counted_end e) s x = absurd x
    counted_raced (counted_more i a c) s x = joined (groups_in ds a) (groups_counted ds c) (either (group_faults ds s a) (counted_groups ds s c) (λ y. action_raced a s y) (λ y. counted_raced c s y) x)

    selected_raced : (v : Selected) (s : Scope) → Among f (selected_groups ds s v) → Raced (groups_selected ds v)
    selected_raced (select c b a m) s x = joined (groups_in ds a) (groups_more ds m) (either (group_faults ds s a) (more_groups ds s m) (λ y. action_raced a s y) (λ y. more_raced m s y) x)
    selected_raced (otherwise i b a e) s x = action_raced a s x

    more_raced : (m : SelectedMore) (s : Scope) → Among f (more_groups ds s m) → Raced (groups_more ds m)
    more_raced (selected_end e) s x = absurd x
    more_raced (selected_more c v) s x = selected_raced v s x

  body_raced : (o : Option Action) → Among f (body_groups ds o) → Raced (groups_of_body ds o)
  body_raced none x = absurd x
  body_raced (some a) x = action_raced a none x

  bodies_raced : (es : Table) → Among f (groups_faults ds es) → Raced (groups_of ds es)
  unfolding groups_faults groups_of
  bodies_raced [] x = absurd x
  bodies_raced (d ∷ es) x = joined (groups_of_body ds d.body) (groups_of ds es) (either (body_groups ds d.body) (groups_faults ds es) (body_raced d.body) (bodies_raced es) x)

  -- 50 and 51 are not 53
  no_mains : (seen : Bool) (es : Table) → Among f (mains seen es) → ⊥
  unfolding mains
  no_mains seen [] x = other_number (λ h. omega arith) (among_when f (not seen) 50 0 x).1
  no_mains seen (d ∷ es) x = by d.mainly x (no_mains seen es) (no_mains true es)
    where
      by : (o : Option Info) → Among f (elim o [ none ↦ mains seen es | some i ↦ when seen 50 i.place ++ mains true es ]) → (Among f (mains seen es) → ⊥)
          → (Among f (mains true es) → ⊥) → ⊥
      by none y u v = u y
      by (some i) y u v = neither (among_either f (when seen 50 i.place) (mains true es) y)
        where
          neither : Among f (when seen 50 i.place) ⊎ Among f (mains true es) → ⊥
          neither (inl z) = other_number (λ h. omega arith) (among_when f seen 50 i.place z).1
          neither (inr z) = v z

  no_chains : (all es : Table) → Among f (chains all es) → ⊥
  unfolding chains
  no_chains all [] x = x
  no_chains all (d ∷ es) x = by (among_either f (when (begins_chain all d.name.word d.body) 51 d.name.place) (chains all es) x) (no_chains all es)
    where
      by : Among f (when (begins_chain all d.name.word d.body) 51 d.name.place) ⊎ Among f (chains all es) → (Among f (chains all es) → ⊥) → ⊥
      by (inl z) u = other_number (λ h. omega arith) (among_when f (begins_chain all d.name.word d.body) 51 d.name.place z).1
      by (inr z) u = u z

  -- 53 comes from two members of a group
  refused_raced : Among f (faults50 ds) → Raced (groups_of ds ds)
  unfolding faults50
  refused_raced x = by (among_either f (mains false ds) (chains ds ds ++ groups_faults ds ds) x)
    where
      last : Among f (chains ds ds) ⊎ Among f (groups_faults ds ds) → Raced (groups_of ds ds)
      last (inl y) = absurd (no_chains ds ds y)
      last (inr y) = bodies_raced ds y

      by : Among f (mains false ds) ⊎ Among f (chains ds ds ++ groups_faults ds ds) → Raced (groups_of ds ds)
      by (inl y) = absurd (no_mains false ds y)
      by (inr y) = last (among_either f (chains ds ds) (groups_faults ds ds) y)

-- what a member writes are declared carriers
found_short : (ds : Table) (i : ℕ) (d : Declared) → get_elem? ds i ≡ some d → i < length ds
found_short [] i d q = absurd (none-ne-some d q)
found_short (x ∷ ds) zero d q = omega arith
found_short (x ∷ ds) (suc i) d q = omega (arith, found_short ds i d q)

member_one : (c x : ℕ) → member c (x ∷ []) ≡ true → c ≡ x
unfolding member
member_one c x h = by (or_either (eqb c x) false h)
  where
    by : (eqb c x ≡ true) ⊎ (false ≡ true) → c ≡ x
    by (inl e) = eqb-true c x e
    by (inr e) = absurd (false≢true e)

module _ (ds : Table) (c : ℕ) where
  abbrev Few : List ℕ → Type 0
  Few xs = member c xs ≡ true → c < length ds

  few_none : Few []
  unfolding member
  few_none h = absurd (false≢true h)

  few_both : (xs ys : List ℕ) → Few xs → Few ys → Few (xs ++ ys)
  few_both xs ys p q h = by (member_either c xs ys h)
    where
      by : (member c xs ≡ true) ⊎ (member c ys ≡ true) → c < length ds
      by (inl e) = p e
      by (inr e) = q e

  few_one : (i : ℕ) (d : Declared) → get_elem? ds i ≡ some d → Few (i ∷ [])
  few_one i d e h = omega (arith, member_one c i h, found_short ds i d e)

  storage_few : (i : ℕ) (d : Declared) (b : Option BitNames) → get_elem? ds i ≡ some d → Few (owner_in (reach_storage ds i d b))
  unfolding reach_storage
  storage_few i d none e = few_none
  storage_few i d (some b) e = few_one i d e

  on_few : (b : BitNames) (s : Names) (i : ℕ) (d : Declared) (t : Option Target) (o : Option BitNames) → get_elem? ds i ≡ some d → Few (owner_in (reach_on ds b s i t o))
  unfolding reach_on
  on_few b s i d (some t) o e = few_none
  on_few b s i d none none e = few_none
  on_few b s i d none (some o) e = few_one i d e

  under_few : (b : BitNames) (s : Names) (q : Option ℕ) → Few (owner_in (reach_under ds b s q))
  unfolding reach_under
  under_few b s none = few_none
  under_few b s (some i) = by (get_elem? ds i) refl
    where
      by : (o : Option Declared) → get_elem? ds i ≡ o → Few (owner_in (elim o [ none ↦ none | some d ↦ reach_on ds b s i d.target d.bits ]))
      by none e = few_none
      by (some d) e = on_few b s i d d.target d.bits e

  of_few : (i : ℕ) (d : Declared) (t : Option Target) → get_elem? ds i ≡ some d → Few (owner_in (reach_of ds i d t))
  unfolding reach_of
  of_few i d none e = storage_few i d d.bits e
  of_few i d (some t) e = by d.bits
    where
      by : (o : Option BitNames) → Few (owner_in (elim o [ none ↦ none | some b ↦ reach_under ds b t.bits (number_of ds t.name.word) ]))
      by none = few_none
      by (some b) = under_few b t.bits (number_of ds t.name.word)

  owner_few : (n : Word) → Few (owner ds n)
  unfolding owner reach reach_number
  owner_few n = numbered (number_of ds n)
    where
      numbered : (q : Option ℕ) → Few (owner_in (reach_number ds q))
      numbered none = few_none
      numbered (some i) = by (get_elem? ds i) refl
        where
          by : (o : Option Declared) → get_elem? ds i ≡ o → Few (owner_in (elim o [ none ↦ none | some d ↦ reach_of ds i d d.target ]))
          by none e = few_none
          by (some d) e = of_few i d d.target e

  stores_few : (d : List Access) → Few (stores ds d)
  unfolding stores
  stores_few [] = few_none
  stores_few (a ∷ more) = few_both (owner ds a.name.word) (stores ds more) (owner_few a.name.word) (stores_few more)

  module _ (body : Word → Sets) (known : (n : Word) → Few (body n).writes) where
    mutual
      unfolding sets_of

      act_few : (a : Act) → Few (sets_of ds body a).writes
      act_few (seq a b) = few_both (sets_of ds body a).writes (sets_of ds body b).writes (act_few a) (act_few b)
      act_few (par a b) = few_both (sets_of ds body a).writes (sets_of ds body b).writes (act_few a) (act_few b)
      act_few (label l a) = act_few a
      act_few (ins i) = ins_few i

      ins_few : (i : Ins) → Few (sets_i ds body i).writes
      ins_few (iff e a) = act_few a
      ins_few (decodes p e bs) = alts_few bs
      ins_few (repeats a) = act_few a
      ins_few (leaves l) = few_none
      ins_few (restarts l) = few_none
      ins_few (call n) = known n
      ins_few stops = few_none
      ins_few noop = few_none
      ins_few (transfers d e) = stores_few d

      alts_few : (bs : Alts) → Few (sets_alts ds body bs).writes
      alts_few no_alts = few_none
      alts_few (alt x a bs) = few_both (sets_of ds body a).writes (sets_alts ds body bs).writes (act_few a) (alts_few bs)

  bodies_few : (k : ℕ) (n : Word) → Few (body_sets ds k n).writes
  unfolding body_sets
  bodies_few zero n = few_none
  bodies_few (suc k) n = act_few (body_sets ds k) (bodies_few k) (body_act ds n)

  touched_few : (a : Act) → Few (touched ds a).writes
  unfolding touched
  touched_few a = act_few (body_sets ds longest_chain) (bodies_few longest_chain) a

-- members that race share a carrier in conflict
record Common (xs ys : List ℕ) : Type 0 where
  number : ℕ
  left : member number xs ≡ true
  right : member number ys ≡ true

common : (xs ys : List ℕ) → meet xs ys ≡ true → Common xs ys
unfolding meet member
common [] ys h = absurd (false≢true h)
common (x ∷ xs) ys h = by (or_either (member x ys) (meet xs ys) h) (common xs ys)
  where
    by : (member x ys ≡ true) ⊎ (meet xs ys ≡ true) → (meet xs ys ≡ true → Common xs ys) → Common (x ∷ xs) ys
    by (inl e) rest = record { number = x; left = or_left (eqb x x) (member x xs) (eq-eqb x x refl); right = e }
    by (inr e) rest = let r = rest e in record { number = r.number; left = or_right (eqb r.number x) (member r.number xs) r.left; right = r.right }

record Conflict (s t : Sets) (n : ℕ) : Type 0 where
  number : ℕ
  small : number < n
  is : conflict s t number ≡ true

racing_conflict : (s t : Sets) (n : ℕ) → ((c : ℕ) → member c s.writes ≡ true → c < n) → ((c : ℕ) → member c t.writes ≡ true → c < n) → race s t ≡ true
    → Conflict s t n
unfolding race conflict
racing_conflict s t n p q h = by (or_either (meet s.writes (t.reads ++ t.writes)) (meet t.writes (s.reads ++ s.writes)) h)
  where
    both : (a b : Bool) → a ≡ true → b ≡ true → (a && b) ≡ true
    both true b x y = y
    both false b x y = x

    by : (meet s.writes (t.reads ++ t.writes) ≡ true) ⊎ (meet t.writes (s.reads ++ s.writes) ≡ true) → Conflict s t n
    by (inl e) =
        let x = common s.writes (t.reads ++ t.writes) e in
        let c = x.number in
        record {
          number = c;
          small = p c x.left;
          is = or_left (member c s.writes && member c (t.reads ++ t.writes)) (member c t.writes && member c (s.reads ++ s.writes))
              (both (member c s.writes) (member c (t.reads ++ t.writes)) x.left x.right);
        }
    by (inr e) =
        let x = common t.writes (s.reads ++ s.writes) e in
        let c = x.number in
        record {
          number = c;
          small = q c x.left;
          is = or_right (member c s.writes && member c (t.reads ++ t.writes)) (member c t.writes && member c (s.reads ++ s.writes))
              (both (member c t.writes) (member c (s.reads ++ s.writes)) x.left x.right);
        }

-- so the first one is found
record FoundCarrier (o : Option Carrier) : Type 0 where
  carrier : Carrier
  is : o ≡ some carrier

find_conflict : (s t : Sets) (k c : ℕ) (ds : Table) → k ≤ c → c < k + length ds → conflict s t c ≡ true → FoundCarrier (first_conflict s t k ds)
unfolding first_conflict
find_conflict s t k c [] l u h = absurd (omega arith)
find_conflict s t k c (d ∷ ds) l u h = by (conflict s t k) refl (λ m. find_conflict s t (suc k) c ds m (omega arith) h)
  where
    by : (b : Bool) → conflict s t k ≡ b → (suc k ≤ c → FoundCarrier (first_conflict s t (suc k) ds))
        → FoundCarrier (elim b [ true ↦ some (record { number = k; place = d.name.place }) | false ↦ first_conflict s t (suc k) ds ])
    by true e rest = record { carrier = record { number = k; place = d.name.place }; is = refl }
    by false e rest = rest (above (dec_lt k c))
      where
        above : Dec (k < c) → suc k ≤ c
        above (yes m) = omega arith
        above (no m) = absurd (false≢true (sym e ∙ (ap (conflict s t) (let z : k ≡ c = omega arith in z) ∙ h)))

-- every member of a group is an action of the text
module _ (ds : Table) where
  pub record Acts (m : Member) : Type 0 where
    pub action : Action
    pub is : m ≡ member_of ds action

  abbrev AllActs : List Member → Type 0
  AllActs [] = Unit {0}
  AllActs (m ∷ ms) = Acts m × AllActs ms

  abbrev AllGroups : List (List Member) → Type 0
  AllGroups [] = Unit {0}
  AllGroups (g ∷ gs) = AllActs g × AllGroups gs

  both_groups : (gs hs : List (List Member)) → AllGroups gs → AllGroups hs → AllGroups (gs ++ hs)
  both_groups [] hs x y = y
  both_groups (g ∷ gs) hs x y = (x.0, both_groups gs hs x.1 y)

  one_acts : (a : Action) → Acts (member_of ds a)
  one_acts a = record { action = a; is = refl }

  others_act : (m : Members) → AllActs (others ds m)
  unfolding others
  others_act (end e) = tt
  others_act (also i a m) = (one_acts a, others_act m)
  others_act (next i a m) = tt

  mutual
    unfolding groups_in

    action_acts : (a : Action) → AllGroups (groups_in ds a)
    action_acts (block b a m) = ((one_acts a, others_act m), both_groups (groups_in ds a) (groups_behind ds m) (action_acts a) (behind_acts m))
    action_acts (labelled n b a) = action_acts a
    action_acts (if_then i o t w a) = action_acts a
    action_acts (decode i o t w b v) = alternatives_act v
    action_acts (repeat i a) = action_acts a
    action_acts (leave i n) = tt
    action_acts (restart i n) = tt
    action_acts (activate n l r) = tt
    action_acts (stop i l r) = tt
    action_acts (no_op i l r) = tt
    action_acts (transfer n b c j e o t) = tt

    behind_acts : (m : Members) → AllGroups (groups_behind ds m)
    behind_acts (end e) = tt
    behind_acts (also i a m) = both_groups (groups_in ds a) (groups_behind ds m) (action_acts a) (behind_acts m)
    behind_acts (next i a m) = ((one_acts a, others_act m), both_groups (groups_in ds a) (groups_behind ds m) (action_acts a) (behind_acts m))

    alternatives_act : (v : Alternatives) → AllGroups (groups_alternatives ds v)
    alternatives_act (counted a c) = both_groups (groups_in ds a) (groups_counted ds c) (action_acts a) (counted_acts c)
    alternatives_act (selected v) = selected_acts v

    counted_acts : (c : Counted) → AllGroups (groups_counted ds c)
    counted_acts (counted_end e) = tt
    counted_acts (counted_more i a c) = both_groups (groups_in ds a) (groups_counted ds c) (action_acts a) (counted_acts c)

    selected_acts : (v : Selected) → AllGroups (groups_selected ds v)
    selected_acts (select c b a m) = both_groups (groups_in ds a) (groups_more ds m) (action_acts a) (more_acts m)
    selected_acts (otherwise i b a e) = action_acts a

    more_acts : (m : SelectedMore) → AllGroups (groups_more ds m)
    more_acts (selected_end e) = tt
    more_acts (selected_more c v) = selected_acts v

  body_acts : (o : Option Action) → AllGroups (groups_of_body ds o)
  body_acts none = tt
  body_acts (some a) = action_acts a

  all_act : (es : Table) → AllGroups (groups_of ds es)
  unfolding groups_of
  all_act [] = tt
  all_act (d ∷ es) = both_groups (groups_of_body ds d.body) (groups_of ds es) (body_acts d.body) (all_act es)

  nth_group : (gs : List (List Member)) (i : ℕ) (g : List Member) → AllGroups gs → get_elem? gs i ≡ some g → AllActs g
  nth_group [] i g x e = absurd (none-ne-some g e)
  nth_group (h ∷ gs) zero g x e = subst AllActs (some-injective h g e) x.0
  nth_group (h ∷ gs) (suc i) g x e = nth_group gs i g x.1 e

  nth_member : (ms : List Member) (i : ℕ) (m : Member) → AllActs ms → get_elem? ms i ≡ some m → Acts m
  nth_member [] i m x e = absurd (none-ne-some m e)
  nth_member (y ∷ ms) zero m x e = subst Acts (some-injective y m e) x.0
  nth_member (y ∷ ms) (suc i) m x e = nth_member ms i m x.1 e

  pub member_acts : (i j : ℕ) (g : List Member) (m : Member) → get_elem? (groups_of ds ds) i ≡ some g → get_elem? g j ≡ some m → Acts m
  member_acts i j g m e q = nth_member g j m (nth_group (groups_of ds ds) i g (all_act ds) e) q

  writes_few : (m : Member) → Acts m → (c : ℕ) → member c m.touches.writes ≡ true → c < length ds
  unfolding member_of
  writes_few m a c h = touched_few ds c (act_of a.action) (ap (λ (x : Member). member c x.touches.writes) (sym a.is) ∙ h)

  -- WHERE 53 IS REFUSED, THERE IS A RACE TO NAME.
  pub record RaceNamed (p : ℕ) : Type 0 where
    pub earlier : ℕ
    pub later : ℕ
    pub carrier : ℕ
    pub name : ℕ
    pub who : ℕ
    pub is : reason53 ds p ≡ racing earlier later carrier name who

  pub race_named : (p : ℕ) → Among (fault 53 p) (faults50 ds) → RaceNamed p
  unfolding reason53
  race_named p x =
      let f = refused_raced ds p x in
      let r = f.race in
      let t = race_among_lem p (groups_of ds ds) r f.is in
      let e = member_acts t.number t.stands.first t.group r.earlier t.there t.stands.earlier_there in
      let l = member_acts t.number t.stands.second t.group r.later t.there t.stands.later_there in
      let k = racing_conflict r.earlier.touches r.later.touches (length ds) (writes_few r.earlier e) (writes_few r.later l) t.stands.races in
      let c = find_conflict r.earlier.touches r.later.touches 0 k.number ds (omega arith) (omega (arith, k.small)) k.is in
      record {
        earlier = r.earlier.place;
        later = r.later.place;
        carrier = c.carrier.number;
        name = c.carrier.place;
        who = writers r.earlier.touches r.later.touches c.carrier.number;
        is = ap (race_reason ds) f.is ∙ ap (race_on r) c.is;
      }
