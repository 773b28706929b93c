-- What the program writes of the carriers: a line for each word, in their order, left name first.
use Rattle.std.specs.Prelude.{ℕ, zero, suc, ◌+◌, ◌-◌, Bool, true, false, List, [], ◌∷◌, ◌++◌, ltb}
use Rattle.std.proofs.Math.Option.{Option, none, some}
use Rattle.cells.specs.Cells.{cell}
use Rattle.rules.specs.Text.Bytes.{bytes}
use Rattle.rules.specs.Declarations.{Word, Names, how_many, BitNames, Target, Declared, Table, words_of}
use Rattle.lines.specs.Digits.{hex_capitals}
use Rattle.lines.specs.Endings.{labelled}

-- ` = `, 16 digits, and the end of the line
abbrev pub value_bytes : ℕ → List ℕ
value_bytes v = bytes " = " ++ (hex_capitals v ++ (10 ∷ []))

-- `A = 0000000000000003`
abbrev pub word_line : Word → ℕ → List ℕ
word_line name v = name ++ value_bytes v

-- `M[2] = 0000000000000003`
abbrev pub array_line : Word → ℕ → ℕ → List ℕ
array_line name n v = name ++ (labelled (bytes "[") n ++ (bytes "]" ++ value_bytes v))

-- the i-th name from the left, up or down
abbrev pub name_by : Bool → ℕ → ℕ → ℕ
name_by true left i = left - i
name_by false left i = left + i

abbrev pub name_at : Names → ℕ → ℕ
name_at s i = name_by (ltb s.right s.left) s.left i

-- n words of an array from the i-th on; its values stand in the carriers' cells from w on
unfoldable pub array_lines : Word → Names → List ℕ → ℕ → ℕ → ℕ → List ℕ
array_lines name s carriers w i zero = []
array_lines name s carriers w i (suc n) = array_line name (name_at s i) (cell 8 carriers (w + i)) ++ array_lines name s carriers w (i + 1) n

-- none for a mapping nor for what has no bits
unfoldable pub storage_lines : Option Target → Option BitNames → Option Names → Word → List ℕ → ℕ → List ℕ
storage_lines (some t) b s name carriers w = []
storage_lines none none s name carriers w = []
storage_lines none (some b) none name carriers w = word_line name (cell 8 carriers w)
storage_lines none (some b) (some s) name carriers w = array_lines name s carriers w 0 (how_many s)

abbrev pub declaration_lines : List ℕ → ℕ → Declared → List ℕ
declaration_lines carriers w d = storage_lines d.target d.bits d.words d.name.word carriers w

-- declarations whose values stand in the cells from w on
unfoldable pub table_lines : List ℕ → ℕ → Table → List ℕ
table_lines carriers w [] = []
table_lines carriers w (d ∷ ds) = declaration_lines carriers w d ++ table_lines carriers (w + words_of d) ds
