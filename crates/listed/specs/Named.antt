-- The code's name for an entry, and what it stands for.
use Rattle.rules.specs.Stores as rules
use Rattle.listed.specs.declared.entries.Entry.{Entry}

abbrev pub entry_of : Entry → rules.Entry
entry_of x = rules.entry x.place x.word x.value
