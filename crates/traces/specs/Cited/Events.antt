-- What a run from left to right tells: the stores of each transfer, and where a group begins, where its first side has ended and its second begins, and where
-- both have ended.
use Rattle.rules.specs.Stores.{Entry}
use Rattle.traces.specs.Cited.Entries.{Block}

pub data Event : Type 0 where
  stores : Entry → Block → Event
  opens : Event
  turns : Event
  closes : Event
