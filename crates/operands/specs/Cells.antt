-- The parts of an access cell, and words by their names.
use Rattle.std.specs.Prelude.{ℕ, ◌+◌, ◌/◌, ◌%◌, ◌≡◌, Option, Some, None}
use Rattle.std.proofs.Math.Option.{none, some}
use Rattle.std.proofs.Math.Option as math
use Rattle.rules.specs.Grammar.Trees.{Bits}
use Rattle.rules.specs.Declarations.{Reach, access_low, access_bits}
use Rattle.promise.specs.Accesses.{left_name, right_name}
use Rattle.operands.specs.declared.accesses.Field.{Field as Located}

abbrev pub cell_first : ℕ → ℕ
cell_first c = c % 65536

abbrev pub cell_low : ℕ → ℕ
cell_low c = c / 65536 % 256

abbrev pub cell_bits : ℕ → ℕ
cell_bits c = c / 16777216 % 256

abbrev pub cell_left : ℕ → ℕ
cell_left c = c / 4294967296 % 65536

abbrev pub cell_right : ℕ → ℕ
cell_right c = c / 281474976710656

-- the bits in the word that stands k words behind the first
abbrev pub located_at : ℕ → ℕ → ℕ → Located
located_at c k next = record { word = cell_first c + k; low = cell_low c; size = cell_bits c; next = next }

pub record Parts (c : ℕ) (r : Reach) (b : Bits) : Type 0 where
  pub first : cell_first c ≡ r.first
  pub low : cell_low c ≡ access_low r b
  pub bits : cell_bits c ≡ access_bits r b
  pub left : cell_left c ≡ left_name r.words
  pub right : cell_right c ≡ right_name r.words

-- a word's number as the code has it
abbrev pub shown_word : math.Option ℕ → Option ℕ
shown_word none = None
shown_word (some k) = Some k
