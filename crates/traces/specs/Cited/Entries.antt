-- Entries: those of one transfer, and whether two are the same.
use Rattle.std.specs.Prelude.{Bool, ◌&&◌, List, eqb}
use Rattle.rules.specs.Stores.{Entry}

-- the entries of a transfer
abbrev pub Block : Type 0
Block = List Entry

-- whether two entries are the same
unfoldable pub same_entry : Entry → Entry → Bool
same_entry x y = eqb x.place y.place && (eqb x.word y.word && eqb x.value y.value)
