-- How many groups are open when control has passed some members.
use Rattle.std.specs.Prelude.{ℕ, suc, ◌-◌, ◌≤◌, List, [], ◌∷◌, length}
use Rattle.rules.specs.Stores.{Entry}
use Rattle.traces.specs.Cited.Events.{Event}
use Rattle.telling.specs.Cited.Passing.{Passing, opened, turned, closed}
use Rattle.matching.specs.Matching.{told_all}
use Rattle.matching.specs.Room.{matching_in, Sound}
use Rattle.room.specs.Trace.{most_groups}

abbrev pub depth_behind : Passing → ℕ → ℕ
depth_behind (opened y) d = suc d
depth_behind (turned y) d = d
depth_behind (closed z) d = d - 1

-- where d are open before
unfoldable pub depth_after : List Passing → ℕ → ℕ
depth_after [] d = d
depth_after (p ∷ ps) d = depth_after ps (depth_behind p d)

-- events after which no more groups are open than there is room for
pub record Fits (es : List Event) (l : List Entry) (room : List ℕ) : Type 0 where
  pub sound : Sound l room
  pub few : length (told_all es (matching_in l room)).groups ≤ most_groups
