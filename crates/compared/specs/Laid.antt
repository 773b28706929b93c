-- The fourth buffer before a run: the carriers in front, and from `cells_at` on the cells of the n tokens of a table.
use Rattle.std.specs.Prelude.{ℕ, ◌≡◌, List, length, take, drop}
use Rattle.reading.specs.Reading.{Reading}
use Rattle.telling.specs.Cited.Cells.{AllMarked}
use Rattle.members.specs.Cells.{cells_in}
use Rattle.tracing.specs.Turns.{cells_at}

pub record Laid (records carriers before after : List ℕ) (n : ℕ) : Type 0 where
  pub long : length after ≡ length before
  pub front : take (length carriers) after ≡ carriers
  pub marked : (decls : List ℕ) (m : ℕ) (v : Reading records decls m n) → AllMarked (cells_in (drop cells_at after) n) v.description n
