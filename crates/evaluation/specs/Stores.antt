-- Storing a value that is cut up left to right. The fields wait in a lent scratch, 8 bytes each, packed as an access cell is.
use Rattle.std.specs.Prelude.{ℕ, ◌+◌, ◌*◌, ◌^◌, ◌<◌, ◌≤◌, ◌≡◌, List, [], ◌∷◌, map, length}
use Rattle.cells.specs.Cells as bytes
use Rattle.cells.specs.Cells.{cells, put_cell}
use Rattle.rules.specs.Values.{with_field, total, cut}
use Rattle.rules.specs.Limits.{most_bits}
use Rattle.rules.specs.Declarations.{Table, total_words}
use Rattle.rules.specs.Steps.Evaluation.{Field, store_all}
use Rattle.operands.specs.Cells.{cell_first, cell_low, cell_bits}
use Rattle.operands.specs.Worths.{Within}

abbrev pub sizes : List Field → List ℕ
sizes fs = map (λ f. f.size) fs

-- a field as one number
pub record Packs (c : ℕ) (f : Field) : Type 0 where
  pub word : cell_first c ≡ f.word
  pub low : cell_low c ≡ f.low
  pub size : cell_bits c ≡ f.size

-- fields in the scratch, from the cell k on
abbrev pub Kept : List ℕ → ℕ → List Field → Type 0
Kept b k [] = Unit {0}
Kept b k (f ∷ fs) = Packs (bytes.cell 8 b k) f × Kept b (k + 1) fs

abbrev pub AllWithin : Table → List Field → Type 0
AllWithin ds [] = Unit {0}
AllWithin ds (f ∷ fs) = Within ds f × AllWithin ds fs

-- one store
pub record Put (before after : List ℕ) (word low size x : ℕ) : Type 0 where
  pub is : after ≡ put_cell 8 before word (with_field low size (bytes.cell 8 before word) x)
  pub fits : with_field low size (bytes.cell 8 before word) x < 2 ^ 64

-- `count` fields of words that are there wait in the scratch, with so many bits together
pub record StoresAt (carriers scratch : List ℕ) (count bits : ℕ) : Type 0 where
  pub table : Table
  pub words : length carriers ≡ 8 * total_words table
  pub fields : List Field
  pub counts : count ≡ length fields
  pub total_bits : bits ≡ total (sizes fields)
  pub short : bits ≤ most_bits
  pub kept : Kept scratch 0 fields
  pub within : AllWithin table fields

abbrev pub StoresAnswer : {carriers scratch : List ℕ} {count bits : ℕ} → StoresAt carriers scratch count bits → ℕ → List ℕ → Type 0
StoresAnswer {carriers} v x after =
    (cells 8 (total_words v.table) after ≡ store_all (cells 8 (total_words v.table) carriers) v.fields (cut (sizes v.fields) x))
    × (length after ≡ length carriers)
