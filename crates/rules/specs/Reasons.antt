-- Why a text is refused: what document 02, No. 2, adds to the numbers 53 and 51. "For a race it gives the places of both members, the first storage carrier in
-- declaration order that they share in conflict, and which of them write it. For 51 it gives one chain of activations that closes or passes 16."
use Rattle.std.specs.Prelude.{ℕ, zero, suc, ◌≡◌, Bool, true, false, ◌&&◌, ◌||◌, List, [], ◌∷◌, ◌++◌, eqb}
use Rattle.std.proofs.Math.Option.{Option, none, some}
use Rattle.std.proofs.Math.ListN.{get_elem?}
use Rattle.rules.specs.Limits.{longest_chain}
use Rattle.rules.specs.Text.Scan.{scan}
use Rattle.rules.specs.Grammar.Trees.{Description, flatten, Action, block, labelled, if_then, decode, repeat, leave, restart, activate, stop, no_op, transfer, Members, end, also, next}
use Rattle.rules.specs.Grammar.Trees.{Alternatives, counted, selected, Counted, counted_end, counted_more, Selected, select, otherwise, SelectedMore, selected_end, selected_more}
use Rattle.rules.specs.Declarations.{Word, Table, declarations, number_of, body_number}
use Rattle.rules.specs.Steps.Actions.{Act, act_of}
use Rattle.rules.specs.Steps.Runs.{act_or}
use Rattle.rules.specs.Whole.Sets.{Sets, touched, race, member, calls_in, chain_over}
use Rattle.rules.specs.Faults.Bodies.{first_place}
use Rattle.rules.specs.Faults.Whole.{begins_chain}
use Rattle.rules.specs.Answers.{Verdict, refused}
use Rattle.rules.specs.Calls.Check.{verdict_number}

-- a member of a group: where it stands, and what it reads and writes
pub record Member : Type 0 where
  pub place : ℕ
  pub touches : Sets

module _ (ds : Table) where
  unfoldable pub member_of : Action → Member
  member_of a = record { place = first_place a; touches = touched ds (act_of a) }

  -- a group by its first member and what follows it, in text order: it goes on behind `;`
  unfoldable pub others : Members → List Member
  others (end e) = []
  others (also i a m) = member_of a ∷ others m
  others (next i a m) = []

  abbrev pub group_of : Action → Members → List Member
  group_of a m = member_of a ∷ others m

  -- the groups of an action, each as its members
  unfoldable mutual
    pub groups_in : Action → List (List Member)
    groups_in (block b a m) = group_of a m ∷ (groups_in a ++ groups_behind m)
    groups_in (labelled n b a) = groups_in a
    groups_in (if_then i o t w a) = groups_in a
    groups_in (decode i o t w b v) = groups_alternatives v
    groups_in (repeat i a) = groups_in a
    groups_in (leave i n) = []
    groups_in (restart i n) = []
    groups_in (activate n l r) = []
    groups_in (stop i l r) = []
    groups_in (no_op i l r) = []
    groups_in (transfer n b c j e o t) = []

    -- behind the first member of a block; behind NEXT a group begins
    pub groups_behind : Members → List (List Member)
    groups_behind (end e) = []
    groups_behind (also i a m) = groups_in a ++ groups_behind m
    groups_behind (next i a m) = group_of a m ∷ (groups_in a ++ groups_behind m)

    pub groups_alternatives : Alternatives → List (List Member)
    groups_alternatives (counted a c) = groups_in a ++ groups_counted c
    groups_alternatives (selected x) = groups_selected x

    pub groups_counted : Counted → List (List Member)
    groups_counted (counted_end e) = []
    groups_counted (counted_more c a more) = groups_in a ++ groups_counted more

    pub groups_selected : Selected → List (List Member)
    groups_selected (select x b a m) = groups_in a ++ groups_more m
    groups_selected (otherwise i b a e) = groups_in a

    pub groups_more : SelectedMore → List (List Member)
    groups_more (selected_end e) = []
    groups_more (selected_more c x) = groups_selected x

  abbrev pub groups_of_body : Option Action → List (List Member)
  groups_of_body none = []
  groups_of_body (some a) = groups_in a

  -- of all bodies, in text order
  unfoldable pub groups_of : Table → List (List Member)
  groups_of [] = []
  groups_of (d ∷ more) = groups_of_body d.body ++ groups_of more

-- "Choose the earliest member that races with the member at the refusal's place": of those before it in its group
unfoldable pub earliest : Member → List Member → Option Member
earliest l [] = none
earliest l (e ∷ es) = elim (race e.touches l.touches) [ true ↦ some e | false ↦ earliest l es ]

pub record Race : Type 0 where
  pub earlier : Member
  pub later : Member

abbrev pub race_with : Member → Option Member → Option Race
race_with l none = none
race_with l (some e) = some (record { earlier = e; later = l })

-- the race of a member at this place with one of those before it
unfoldable pub race_at : ℕ → List Member → Member → Option Race
race_at p before l = elim (eqb l.place p) [ true ↦ race_with l (earliest l before) | false ↦ none ]

abbrev pub first_race : Option Race → Option Race → Option Race
first_race (some r) other = some r
first_race none other = other

-- in a group, whose first members are given; among groups
unfoldable pub race_from : ℕ → List Member → List Member → Option Race
race_from p before [] = none
race_from p before (l ∷ ls) = first_race (race_at p before l) (race_from p (before ++ (l ∷ [])) ls)

unfoldable pub race_among : ℕ → List (List Member) → Option Race
race_among p [] = none
race_among p (g ∷ gs) = first_race (race_from p [] g) (race_among p gs)

-- a carrier that two members share in conflict: one writes what the other reads or writes
unfoldable pub conflict : Sets → Sets → ℕ → Bool
conflict s t c = (member c s.writes && member c (t.reads ++ t.writes)) || (member c t.writes && member c (s.reads ++ s.writes))

-- a declaration by its number, and the place of its name
pub record Carrier : Type 0 where
  pub number : ℕ
  pub place : ℕ

-- the first such carrier in declaration order, from the number c on
unfoldable pub first_conflict : Sets → Sets → ℕ → Table → Option Carrier
first_conflict s t c [] = none
first_conflict s t c (d ∷ ds) = elim (conflict s t c) [ true ↦ some (record { number = c; place = d.name.place }) | false ↦ first_conflict s t (suc c) ds ]

-- who writes a carrier: 1 the earlier, 2 the later, 3 both
abbrev pub writers_by : Bool → Bool → ℕ
writers_by true true = 3
writers_by true false = 1
writers_by false true = 2
writers_by false false = 0

unfoldable pub writers : Sets → Sets → ℕ → ℕ
writers s t c = writers_by (member c s.writes) (member c t.writes)

-- What there is to say: nothing more; a race, by the places of both members, the carrier's number, the place of its name and who writes it; a chain, by the
-- places of the names of its bodies.
pub data Reason : Type 0 where
  no_reason : Reason
  racing : (earlier later carrier name who : ℕ) → Reason
  chained : List ℕ → Reason

abbrev pub race_on : Race → Option Carrier → Reason
race_on r none = no_reason
race_on r (some c) = racing r.earlier.place r.later.place c.number c.place (writers r.earlier.touches r.later.touches c.number)

abbrev pub race_reason : Table → Option Race → Reason
race_reason ds none = no_reason
race_reason ds (some r) = race_on r (first_conflict r.earlier.touches r.later.touches 0 ds)

-- 53 at a place
unfoldable pub reason53 : Table → ℕ → Reason
reason53 ds p = race_reason ds (race_among p (groups_of ds ds))

-- 51: the first activation among these that begins a chain over k bodies long, by the number of the declaration that it names
unfoldable pub first_over : Table → ℕ → List Word → Option ℕ
first_over ds k [] = none
first_over ds k (n ∷ ns) = elim (chain_over ds k n) [ true ↦ number_of ds n | false ↦ first_over ds k ns ]

-- what the declaration of a number does when it is activated
abbrev pub body_of_number : Table → ℕ → Act
body_of_number ds b = act_or (body_number ds (some b))

-- The chain from the body b on, behind those that are listed: it ends with a body that is listed a second time, and where k more bodies are listed.
unfoldable pub chain_behind : Table → ℕ → List ℕ → ℕ → List ℕ
chain_behind ds zero listed b = b ∷ []
chain_behind ds (suc k) listed b =
    elim (member b listed) [
      | true ↦ b ∷ []
      | false ↦ b ∷ elim (first_over ds k (calls_in (body_of_number ds b))) [ none ↦ [] | some c ↦ chain_behind ds k (b ∷ listed) c ]
    ]

-- the body at a place that begins a chain over 16 bodies long
unfoldable pub refused_body : Table → ℕ → Table → Option Word
refused_body all p [] = none
refused_body all p (d ∷ ds) =
    elim (eqb d.name.place p && begins_chain all d.name.word d.body) [ true ↦ some d.name.word | false ↦ refused_body all p ds ]

-- the places of the names of declarations
abbrev pub place_in : Table → ℕ → ℕ
place_in ds b = elim (get_elem? ds b) [ none ↦ 0 | some d ↦ d.name.place ]

unfoldable pub places_in : Table → List ℕ → List ℕ
places_in ds [] = []
places_in ds (b ∷ bs) = place_in ds b ∷ places_in ds bs

abbrev pub chain_of : Table → Option ℕ → Reason
chain_of ds none = no_reason
chain_of ds (some b) = chained (places_in ds (chain_behind ds longest_chain [] b))

abbrev pub chain_from : Table → Option Word → Reason
chain_from ds none = no_reason
chain_from ds (some n) = chain_of ds (number_of ds n)

-- 51 at a place
unfoldable pub reason51 : Table → ℕ → Reason
reason51 ds p = chain_from ds (refused_body ds p ds)

-- the reasons that may be given for a verdict on a text
pub data Explains (text : List ℕ) : Verdict → Reason → Type 0 where
  unexplained : {v : Verdict} → (verdict_number v ≡ 53 → ⊥) → (verdict_number v ≡ 51 → ⊥) → Explains text v no_reason
  by_race : {p : ℕ} (d : Description) → flatten d ≡ (scan text).tokens → Explains text (refused 53 p) (reason53 (declarations d) p)
  by_chain : {p : ℕ} (d : Description) → flatten d ≡ (scan text).tokens → Explains text (refused 51 p) (reason51 (declarations d) p)
