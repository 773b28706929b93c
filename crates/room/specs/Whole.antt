-- The third buffer while the whole is judged. What is known of the declarations stands before the byte `labels_from`; behind it, in cells of two bytes that are counted
-- from there, labels upwards from the front, the scopes of open blocks downwards from `scopes_end`, two cells each, and hints.
use Rattle.std.specs.Prelude.{ℕ, ◌+◌, ◌-◌, ◌*◌}

abbrev pub labels_from : ℕ
labels_from = 18432

-- the first cell of the outermost scope, and what is behind its two cells
abbrev pub first_scope : ℕ
first_scope = 16382

abbrev pub scopes_end : ℕ
scopes_end = first_scope + 2

abbrev pub hint_count : ℕ
hint_count = 7168

abbrev pub hints_end : ℕ
hints_end = scopes_end + hint_count

-- the first cell of the scope around the innermost of so many open blocks; that of one that is opened inside so many
abbrev pub scope_cell : ℕ → ℕ
scope_cell depth = scopes_end - 2 * depth

abbrev pub opened_cell : ℕ → ℕ
opened_cell depth = first_scope - 2 * depth

-- the bytes that labels and scopes need, and those of all but the hints
abbrev pub labels_size : ℕ
labels_size = 2 * scopes_end

abbrev pub room_size : ℕ
room_size = labels_from + labels_size
