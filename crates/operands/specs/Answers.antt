-- What small functions make of bits and of values.
use Rattle.std.specs.Prelude.{ℕ, ◌+◌, ◌*◌, ◌%◌, ◌^◌, ◌<◌, ◌≤◌, Bool, true, false, List, eqb, length}
use Rattle.cells.specs.Cells.{cell}
use Rattle.rules.specs.Values.{not_number, field}
use Rattle.rules.specs.Limits.{most_bits, most_tokens}
use Rattle.operands.specs.declared.accesses.Field.{Field as Located}
use Rattle.operands.specs.declared.expressions.Value.{Value as Worked}

-- bits of a word that is there
abbrev pub Readable : List ℕ → Located → Type 0
Readable carriers f = (8 * f.word + 8 ≤ length carriers) × ((f.low < most_bits) × (f.low + f.size ≤ most_bits))

abbrev pub read_at : List ℕ → Located → Worked
read_at carriers f = record { number = field f.low f.size (cell 8 carriers f.word); bits = f.size; next = f.next }

-- before a closing bracket
abbrev pub Closable : Worked → Type 0
Closable v = v.next < most_tokens

abbrev pub closed : Worked → Worked
closed v = record { number = v.number; bits = v.bits; next = v.next + 1 }

-- a number that fits its length
abbrev pub Invertible : Worked → Type 0
Invertible v = (v.bits ≤ most_bits) × (v.number < 2 ^ v.bits)

-- NOT of a number of n bits, unless it is kept
abbrev pub not_unless : Bool → ℕ → ℕ → ℕ
not_unless true n x = x
not_unless false n x = not_number n x

-- behind k NOTs
abbrev pub inverted : ℕ → Worked → Worked
inverted k v = record { number = not_unless (eqb (k % 2) 0) v.bits v.number; bits = v.bits; next = v.next }
