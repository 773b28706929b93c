-- The members of a group, read from their tokens: each against the union of those before it.
use Rattle.std.specs.Prelude.{ℕ, Bool, true, false, List, [], ◌∷◌, ◌++◌, eqb}
use Rattle.rules.specs.Text.Tokens.{Semi, kind_no}
use Rattle.rules.specs.Grammar.Trees.{Tokens}
use Rattle.rules.specs.Declarations.{Table}
use Rattle.rules.specs.Whole.Sets.{Sets, sets, union, race, body_sets, body_stops}
use Rattle.rules.specs.Limits.{longest_chain}
use Rattle.rules.specs.Faults.Fault.{Fault, when}
use Rattle.reading.specs.Kinds.{next_no, ends}
use Rattle.reading.specs.Events.{heard}
use Rattle.reading.specs.Touches.{any_event, stop_hit}
use Rattle.reading.specs.Races.{touch}
use Rattle.reading.specs.Behind.{behind}
use Rattle.table.specs.Scans.{no, deeper}

abbrev pub place_of : Tokens → ℕ
place_of [] = 0
place_of (t ∷ ts) = t.info.place

-- whether `;` stands behind the action
unfoldable pub more : Tokens → Bool
more ts = eqb (next_no (behind 0 ts)) (kind_no Semi)

module _ (ds : Table) where
  -- what the action that begins the tokens touches, and whether it may stop
  unfoldable pub touch_at : Tokens → Sets
  touch_at ts = touch ds (body_sets ds longest_chain) (heard 0 0 ts)

  unfoldable pub stops_at : Tokens → Bool
  stops_at ts = any_event (stop_hit (body_stops ds longest_chain)) (heard 0 0 ts)

  -- 52 and 53 of a member behind others that touch u
  unfoldable pub member_at : Sets → Tokens → List Fault
  member_at u ts = when (stops_at ts) 52 (place_of ts) ++ when (race u (touch_at ts)) 53 (place_of ts)

  -- of the members behind the next `;`
  unfoldable pub also_at : ℕ → Sets → Tokens → List Fault
  also_at d u [] = []
  also_at d u (t ∷ ts) =
      elim (ends d (no t)) [
        | true ↦ elim (eqb (no t) (kind_no Semi)) [ true ↦ member_at u ts ++ also_at 0 (union u (touch_at ts)) ts | false ↦ [] ]
        | false ↦ also_at (deeper d (no t)) u ts
      ]

  unfoldable pub members_at : Sets → Tokens → List Fault
  members_at u ts = member_at u ts ++ also_at 0 (union u (touch_at ts)) ts

  -- of a group that begins here, if it has two or more members
  unfoldable pub group_at : Tokens → List Fault
  group_at ts = elim (more ts) [ true ↦ members_at (sets [] []) ts | false ↦ [] ]
