-- The third buffer while bodies are judged, in cells of two bytes: the names around an action; from `label_cells` on the starts of alternatives, so many for each level
-- of nesting as are compared; and behind them the index of the names, one cell for each spelling.
use Rattle.std.specs.Prelude.{ℕ, ◌+◌, ◌*◌}
use Rattle.rules.specs.Limits.{most_tokens, deepest, most_alternatives}

abbrev pub label_cells : ℕ
label_cells = most_tokens

abbrev pub level_base : ℕ → ℕ
level_base depth = label_cells + most_alternatives * depth

abbrev pub index_from : ℕ
index_from = level_base deepest

abbrev pub index_end : ℕ
index_end = index_from + most_tokens
