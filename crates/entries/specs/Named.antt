-- A designer's list by name.
use Rattle.listed.specs.declared.entries.Entry.{Entry}

-- what stands behind the last entry of a list, for a function that reads one
abbrev pub no_entry : Entry
no_entry = record { place = 0; word = 0; value = 0 }
