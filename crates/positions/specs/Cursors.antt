-- What the cursor of the code stands for: an offset, and the line and column there.
use Rattle.std.specs.Prelude.{ℕ, ◌+◌, ◌<◌, ◌≤◌}
use Rattle.rules.specs.Positions.{Position, position, behind}
use Rattle.positions.specs.declared.cursors.Cursor.{Cursor}

-- a cursor at an offset and a position
abbrev pub cursor : ℕ → Position → Cursor
cursor n p = record { offset = n; line = p.line; column = p.column }

abbrev pub position_here : Cursor → Position
position_here c = position c.line c.column

-- one byte on: offset, line and column move together
abbrev pub onward : ℕ → Cursor → Cursor
onward b c = cursor (c.offset + 1) (behind b (position_here c))

-- no number passes its 32 bits, as places are of 16
pub record Near (c : Cursor) : Type 0 where
  pub offset : c.offset < 65536
  pub line : c.line ≤ c.offset + 1
  pub column : c.column ≤ c.offset + 1
