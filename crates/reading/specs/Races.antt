-- What the events of a member touch.
use Rattle.std.specs.Prelude.{List, [], ◌∷◌}
use Rattle.rules.specs.Declarations.{Word, Table}
use Rattle.rules.specs.Whole.Sets.{Sets, sets, union, owner}
use Rattle.reading.specs.Events.{Event, reads, writes, activates, halts}

-- what events read and write
module _ (ds : Table) (f : Word → Sets) where
  abbrev pub event_sets : Event → Sets
  event_sets (reads w) = sets (owner ds w) []
  event_sets (writes w) = sets [] (owner ds w)
  event_sets (activates w) = f w
  event_sets halts = sets [] []

  unfoldable pub touch : List Event → Sets
  touch [] = sets [] []
  touch (e ∷ es) = union (event_sets e) (touch es)
