-- Tests on events: whether some event of an action passes, and which events read a carrier, write it, or stop.
use Rattle.std.specs.Prelude.{ℕ, Bool, true, false, ◌||◌, List, [], ◌∷◌}
use Rattle.rules.specs.Declarations.{Word, Table}
use Rattle.rules.specs.Whole.Sets.{Sets, owner, member}
use Rattle.reading.specs.Events.{Event, reads, writes, activates, halts}

module _ (p : Event → Bool) where
  unfoldable pub any_event : List Event → Bool
  any_event [] = false
  any_event (e ∷ es) = p e || any_event es

-- The rules, for a carrier c: whether it is read, whether it is written.
module _ (ds : Table) (f : Word → Sets) (c : ℕ) where
  abbrev pub read_hit : Event → Bool
  read_hit (reads w) = member c (owner ds w)
  read_hit (writes w) = false
  read_hit (activates w) = member c (f w).reads
  read_hit halts = false

  abbrev pub write_hit : Event → Bool
  write_hit (reads w) = false
  write_hit (writes w) = member c (owner ds w)
  write_hit (activates w) = member c (f w).writes
  write_hit halts = false

abbrev pub stop_hit : (Word → Bool) → Event → Bool
stop_hit g (reads w) = false
stop_hit g (writes w) = false
stop_hit g (activates w) = g w
stop_hit g halts = true
