-- The third buffer while a list of stores is matched, in cells of two bytes: one for each entry, whether it is taken; one for each entry, the next one of its word;
-- two for each open group; three numbers; one for each word, the first of its entries that may not be taken.
use Rattle.std.specs.Prelude.{ℕ, ◌+◌, ◌*◌}
use Rattle.rules.specs.Limits.{most_words}
use Rattle.rules.specs.Entries.{most_entries}

-- the groups that can be open: those of 16 bodies with 32 brackets each
abbrev pub most_groups : ℕ
most_groups = 512

abbrev pub next_cell : ℕ
next_cell = most_entries

abbrev pub groups_cell : ℕ
groups_cell = next_cell + most_entries

abbrev pub floor_cell : ℕ
floor_cell = groups_cell + 2 * most_groups

abbrev pub bad_cell : ℕ
bad_cell = floor_cell + 1

abbrev pub depth_cell : ℕ
depth_cell = floor_cell + 2

abbrev pub first_cell : ℕ
first_cell = 10240

-- the bytes that are needed
abbrev pub room_size : ℕ
room_size = 2 * (first_cell + most_words)
