-- A list of bytes as a table of little-endian cells of w bytes. "Words lie in declaration order, .. 8 bytes each, little-endian."
use Rattle.std.specs.Prelude.{ℕ, zero, suc, ◌+◌, ◌*◌, ◌/◌, ◌%◌, List, [], ◌∷◌, get_or, set}

-- the number whose w bytes stand at o, the lowest first
unfoldable pub le_at : ℕ → List ℕ → ℕ → ℕ
le_at zero b o = 0
le_at (suc w) b o = get_or b o 0 + 256 * le_at w b (o + 1)

-- b with the w low bytes of v from o on
unfoldable pub put_at : ℕ → List ℕ → ℕ → ℕ → List ℕ
put_at zero b o v = b
put_at (suc w) b o v = put_at w (set b o (v % 256)) (o + 1) (v / 256)

-- the cell i of the table
abbrev pub cell : ℕ → List ℕ → ℕ → ℕ
cell w b i = le_at w b (w * i)

-- the table with v in the cell i
abbrev pub put_cell : ℕ → List ℕ → ℕ → ℕ → List ℕ
put_cell w b i v = put_at w b (w * i) v

-- the first n cells from o on, as a list of numbers
unfoldable pub cells_from : ℕ → List ℕ → ℕ → ℕ → List ℕ
cells_from w b o zero = []
cells_from w b o (suc n) = le_at w b o ∷ cells_from w b (o + w) n

-- the table's first n cells
abbrev pub cells : ℕ → ℕ → List ℕ → List ℕ
cells w n b = cells_from w b 0 n
