-- The token table in two lent buffers of 64-bit cells, cell i of each for token i.
-- `records`: the kind's number, the size and the place in one cell.
-- `values`: a constant's value. A token that is none has no value, so its cell has the bits that the `?` of the token before it leave free: a
-- constant with `?` is never followed by a constant in any description, so no free bits that matter are lost, and both fit one cell a token.
use Rattle.std.specs.Prelude.{ℕ, ◌+◌, ◌*◌, true, false, ◌||◌, List, [], ◌∷◌, map, eqb, length, Result, Ok, Err}
use Rattle.cells.specs.Cells.{put_cell}
use Rattle.rules.specs.Text.Tokens.{Const, Masked, Token, kind_no}
use Rattle.rules.specs.Text.Scan.{Scan, End, fine, refuse}
use Rattle.lexemes.specs.Lexemes.{size_of}
use Rattle.rules.specs.Refusals.{refusal_at}
use Rattle.rules.specs.declared.refusals.Refusal.{Refusal}

-- the record of a kind's number, a size and a place; a token's
abbrev pub pack : ℕ → ℕ → ℕ → ℕ
pack kind size place = kind + 256 * size + 65536 * place

abbrev pub record_of : Token → ℕ
record_of t = pack (kind_no t.kind) (size_of t) t.info.place

-- the cells of all tokens
abbrev pub record_cells : List Token → List ℕ
record_cells ts = map record_of ts

-- the value of a constant, with or without `?`; of any other kind, the free bits before
unfoldable pub value_by : ℕ → ℕ → ℕ → ℕ
value_by kind value before = elim (eqb kind (kind_no Const) || eqb kind (kind_no Masked)) [ true ↦ value | false ↦ before ]

abbrev pub value_of : ℕ → Token → ℕ
value_of before t = value_by (kind_no t.kind) t.info.value before

-- the cells of tokens behind one that leaves the bits `before` free
unfoldable pub value_cells : ℕ → List Token → List ℕ
value_cells before [] = []
value_cells before (t ∷ ts) = value_of before t ∷ value_cells t.info.free ts

-- a buffer with cells of w bytes written from the cell i on
unfoldable pub write_cells : ℕ → List ℕ → ℕ → List ℕ → List ℕ
write_cells w b i [] = b
write_cells w b i (v ∷ vs) = write_cells w (put_cell w b i v) (i + 1) vs

-- the answer to an end behind n tokens; of a scan behind n tokens; of a whole scan
abbrev pub ended_at : ℕ → End → Result ℕ Refusal
ended_at n fine = Ok n
ended_at n (refuse m p) = Err (refusal_at m p)

abbrev pub scanned_of : Scan → Result ℕ Refusal
scanned_of s = ended_at (length s.tokens) s.end
