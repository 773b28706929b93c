-- Groups and their members as they stand in the tokens, and the race of the member at a place.
use Rattle.std.specs.Prelude.{ℕ, true, false, List, [], ◌∷◌, eqb}
use Rattle.std.proofs.Math.Option.{Option}
use Rattle.rules.specs.Text.Tokens.{Semi, kind_no}
use Rattle.rules.specs.Grammar.Trees.{Tokens}
use Rattle.rules.specs.Declarations.{Table}
use Rattle.table.specs.Scans.{no, deeper}
use Rattle.reading.specs.Kinds.{ends}
use Rattle.reading.specs.Groups.{place_of, touch_at}
use Rattle.scopes.specs.Walks.{opens}
use Rattle.rules.specs.Reasons.{Member, Race, race_among}

module _ (ds : Table) where
  -- the member that begins the tokens
  unfoldable pub member_here : Tokens → Member
  member_here ts = record { place = place_of ts; touches = touch_at ds ts }

  -- the members behind the next `;`, at the depth d in the one before
  unfoldable pub others_here : ℕ → Tokens → List Member
  others_here d [] = []
  others_here d (t ∷ ts) =
      elim (ends d (no t)) [
        | true ↦ elim (eqb (no t) (kind_no Semi)) [ true ↦ member_here ts ∷ others_here 0 ts | false ↦ [] ]
        | false ↦ others_here (deeper d (no t)) ts
      ]

  abbrev pub group_here : Tokens → List Member
  group_here ts = member_here ts ∷ others_here 0 ts

  -- behind each BEGIN and each NEXT; the BEGIN of a DECODE has one member alone, which races with none
  unfoldable pub groups_here : Tokens → List (List Member)
  groups_here [] = []
  groups_here (t ∷ ts) = elim (opens (no t)) [ true ↦ group_here ts ∷ groups_here ts | false ↦ groups_here ts ]

  unfoldable pub race_here : ℕ → Tokens → Option Race
  race_here p ts = race_among p (groups_here ts)
