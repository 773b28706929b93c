-- The third buffer while paths are walked, in cells of two bytes: the flags, six cells for each open BEGIN, two for each label around an action, and hints, one for
-- each spelling.
use Rattle.std.specs.Prelude.{ℕ, ◌+◌, ◌*◌, ◌%◌}
use Rattle.rules.specs.Limits.{most_tokens}

abbrev pub most_flags : ℕ
most_flags = 64

abbrev pub frame_cell : ℕ → ℕ
frame_cell j = most_flags + 6 * j

abbrev pub labels_from : ℕ
labels_from = 256

abbrev pub label_cell : ℕ → ℕ
label_cell p = labels_from + 2 * p

abbrev pub hints_from : ℕ
hints_from = label_cell most_tokens

abbrev pub hint_cell : ℕ → ℕ
hint_cell spelling = hints_from + spelling % most_tokens

-- the bytes that are needed
abbrev pub room_size : ℕ
room_size = 2 * (hints_from + most_tokens)
