-- The lent list of stores, from bytes to entries.
use Rattle.std.specs.Prelude.{ℕ, zero, suc, ◌/◌, ◌%◌, Bool, ◌&&◌, List, [], ◌∷◌, eqb, leb, length, drop}
use Rattle.rules.specs.Answers.{little_endian}
use Rattle.rules.specs.Stores.{Entry, entry}

-- "An entry is 16 bytes"
abbrev pub entry_size : ℕ
entry_size = 16

-- "Limit: 4,096 entries."
abbrev pub most_entries : ℕ
most_entries = 4096

-- "little-endian: 4 of place, 4 of word number from 0, 8 of value"
unfoldable pub entry_from : List ℕ → Entry
entry_from b = entry (little_endian 4 b) (little_endian 4 (drop 4 b)) (little_endian 8 (drop 8 b))

unfoldable pub entries_from : ℕ → List ℕ → List Entry
entries_from zero b = []
entries_from (suc n) b = entry_from b ∷ entries_from n (drop entry_size b)

-- "the list's length is in entries"
abbrev pub entries_in : List ℕ → List Entry
entries_in b = entries_from (length b / entry_size) b

-- 110 is "for a longer list or one not in whole entries"
unfoldable pub is_list : List ℕ → Bool
is_list b = eqb (length b % entry_size) 0 && leb (length b / entry_size) most_entries
