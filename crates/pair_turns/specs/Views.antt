-- The numbers of words as cells of two bytes.
use Rattle.std.specs.Prelude.{ℕ, ◌+◌, ◌<◌, ◌≡◌, List}
use Rattle.cells.specs.Cells.{cell, cells}
use Rattle.rules.specs.Declarations.{Table, total_words}
use Rattle.rules.specs.Pair.{words_at}

-- n cells from `at` on count up from `first`, and those before them are as they were
pub record CountedUp (old new : List ℕ) (at n first : ℕ) : Type 0 where
  pub before : (i : ℕ) → i < at → cell 2 new i ≡ cell 2 old i
  pub here : (j : ℕ) → j < n → cell 2 new (at + j) ≡ first + j

-- the view of m declarations whose first words stand in `firsts`
pub record Filled (ds : Table) (firsts : List ℕ) (m : ℕ) (view : List ℕ) (n : ℕ) : Type 0 where
  pub count : n ≡ total_words ds
  pub is : cells 2 n view ≡ words_at ds (cells 2 m firsts)
