-- An entry written to the bytes of a list. "little-endian: 4 of place, 4 of word number from 0, 8 of value"
use Rattle.std.specs.Prelude.{ℕ, ◌+◌, ◌*◌, List}
use Rattle.cells.specs.Cells.{put_cell}
use Rattle.listed.specs.declared.entries.Entry.{Entry}

-- the bytes with e in the place of the entry i
unfoldable pub put_entry : List ℕ → ℕ → Entry → List ℕ
put_entry b i e = put_cell 8 (put_cell 4 (put_cell 4 b (4 * i) e.place) (4 * i + 1) e.word) (2 * i + 1) e.value
