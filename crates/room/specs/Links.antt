-- The third buffer while links are written, in cells of two bytes: three for each label around an action, and from `hints_from` on hints, one for each spelling.
use Rattle.std.specs.Prelude.{ℕ, ◌+◌, ◌*◌, ◌%◌}
use Rattle.rules.specs.Limits.{most_tokens}

abbrev pub most_labels : ℕ
most_labels = 4096

abbrev pub hints_from : ℕ
hints_from = 3 * most_labels

abbrev pub hints_end : ℕ
hints_end = hints_from + most_tokens

abbrev pub hint_cell : ℕ → ℕ
hint_cell spelling = hints_from + spelling % most_tokens

-- the bytes that are needed
abbrev pub room_size : ℕ
room_size = 2 * hints_end
