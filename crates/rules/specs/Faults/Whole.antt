-- The faults of the 50s: of the whole.
use Rattle.std.specs.Prelude.{Bool, true, false, not, ◌||◌, List, [], ◌∷◌, ◌++◌}
use Rattle.std.proofs.Math.Option.{Option, none, some}
use Rattle.rules.specs.Grammar.Trees.{Action, block, labelled, if_then, decode, repeat, leave, restart, activate, stop, no_op, transfer, Members, end, also, next}
use Rattle.rules.specs.Grammar.Trees.{Alternatives, counted, selected, Counted, counted_end, counted_more, Selected, select, otherwise, SelectedMore, selected_end, selected_more}
use Rattle.rules.specs.Declarations.{Word, Table}
use Rattle.rules.specs.Steps.Actions.{act_of}
use Rattle.rules.specs.Whole.Sets.{Sets, touched, race, may_stop, chain_over}
use Rattle.rules.specs.Limits.{longest_chain}
use Rattle.rules.specs.Faults.Fault.{Fault, when}
use Rattle.rules.specs.Faults.Declared.{is_known}
use Rattle.rules.specs.Faults.Bodies.{first_place}

-- 50: "MAIN missing; a second MAIN"
unfoldable pub mains : Bool → Table → List Fault
mains seen [] = when (not seen) 50 0
mains seen (d ∷ ds) = elim d.mainly [ none ↦ mains seen ds | some i ↦ when seen 50 i.place ++ mains true ds ]

-- the name of MAIN's body
unfoldable pub main_name : Table → Word
main_name [] = []
main_name (d ∷ ds) = elim d.mainly [ none ↦ main_name ds | some i ↦ d.name.word ]

-- 51: "a chain of activations over 16 bodies long", at each body that begins one
abbrev pub begins_chain : Table → Word → Option Action → Bool
begins_chain all n none = false
begins_chain all n (some a) = chain_over all longest_chain n

unfoldable pub chains : Table → Table → List Fault
chains all [] = []
chains all (d ∷ ds) = when (begins_chain all d.name.word d.body) 51 d.name.place ++ chains all ds

-- The labels inside the innermost member of a group of two or more; none outside any such group.
abbrev pub Scope : Type 0
Scope = Option (List Word)

abbrev pub labelled_in : Word → Scope → Scope
labelled_in l none = none
labelled_in l (some ls) = some (l ∷ ls)

abbrev pub aims_out : Scope → Word → Bool
aims_out none n = false
aims_out (some ls) n = not (is_known n ls)

-- whether more members of the same group follow
abbrev pub has_more : Members → Bool
has_more (end e) = false
has_more (also i a m) = true
has_more (next i a m) = false

unfoldable pub races_any : Sets → List Sets → Bool
races_any s [] = false
races_any s (t ∷ ts) = race t s || races_any s ts

module _ (ds : Table) where
  -- 52 and 53 of a member at its place, behind those of its group
  abbrev pub member_faults : Bool → List Sets → Action → List Fault
  member_faults false before a = []
  member_faults true before a = when (may_stop ds (act_of a)) 52 (first_place a) ++ when (races_any (touched ds (act_of a)) before) 53 (first_place a)

  abbrev pub member_scope : Bool → Scope → Scope
  member_scope false s = s
  member_scope true s = some []

  unfoldable mutual
    pub group_faults : Scope → Action → List Fault
    group_faults s (block b a m) =
        member_faults (has_more m) [] a ++ (group_faults (member_scope (has_more m) s) a ++ members_of s (touched ds (act_of a) ∷ []) m)
    group_faults s (labelled n b a) = group_faults (labelled_in n.word s) a
    group_faults s (if_then i o t w a) = group_faults s a
    group_faults s (decode i o t w b v) = alternatives_groups s v
    group_faults s (repeat i a) = group_faults s a
    group_faults s (leave i n) = when (aims_out s n.word) 52 i.place
    group_faults s (restart i n) = when (aims_out s n.word) 52 i.place
    group_faults s (activate n l r) = []
    group_faults s (stop i l r) = []
    group_faults s (no_op i l r) = []
    group_faults s (transfer n b c j e o t) = []

    -- the members behind others of the same group, which touch these sets
    pub members_of : Scope → List Sets → Members → List Fault
    members_of s before (end e) = []
    members_of s before (also i a m) =
        member_faults true before a ++ (group_faults (member_scope true s) a ++ members_of s (touched ds (act_of a) ∷ before) m)
    members_of s before (next i a m) =
        member_faults (has_more m) [] a ++ (group_faults (member_scope (has_more m) s) a ++ members_of s (touched ds (act_of a) ∷ []) m)

    pub alternatives_groups : Scope → Alternatives → List Fault
    alternatives_groups s (counted a c) = group_faults s a ++ counted_groups s c
    alternatives_groups s (selected x) = selected_groups s x

    pub counted_groups : Scope → Counted → List Fault
    counted_groups s (counted_end e) = []
    counted_groups s (counted_more c a more) = group_faults s a ++ counted_groups s more

    pub selected_groups : Scope → Selected → List Fault
    selected_groups s (select x b a m) = group_faults s a ++ more_groups s m
    selected_groups s (otherwise i b a e) = group_faults s a

    pub more_groups : Scope → SelectedMore → List Fault
    more_groups s (selected_end e) = []
    more_groups s (selected_more c x) = selected_groups s x

  abbrev pub body_groups : Option Action → List Fault
  body_groups none = []
  body_groups (some a) = group_faults none a

  unfoldable pub groups_faults : Table → List Fault
  groups_faults [] = []
  groups_faults (d ∷ more) = body_groups d.body ++ groups_faults more

unfoldable pub faults50 : Table → List Fault
faults50 ds = mains false ds ++ (chains ds ds ++ groups_faults ds ds)
