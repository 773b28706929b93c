-- Where names and declarations stand that are listed.
use Rattle.std.specs.Prelude.{ℕ, ◌+◌, ◌*◌, ◌≤◌, ◌≡◌, false, List, length}
use Rattle.rules.specs.Grammar.Trees.{Tokens, Declaration}
use Rattle.rules.specs.Declarations.{declared_of, words_of}
use Rattle.rules.specs.Faults.Declared.{large_words}
use Rattle.records.specs.Holds.{size_byte, place_cell, folded_at, Holds}
use Rattle.table.specs.Declarations.{DeclaredAt}

-- the bytes of the name p, in capitals
abbrev pub name_bytes : List ℕ → List ℕ → ℕ → List ℕ
name_bytes text records p = folded_at text (place_cell records p) (size_byte records p)

pub record NameStands (text records : List ℕ) (p : ℕ) : Type 0 where
  pub room : 8 * p + 8 ≤ length records
  pub inside : place_cell records p + size_byte records p ≤ length text
  pub short : size_byte records p ≤ 64

-- a declaration whose name is the token p, with small names of words
pub record Stands (text records values : List ℕ) (p : ℕ) : Type 0 where
  pub tokens : Tokens
  pub holds : Holds text records values tokens
  pub declaration : Declaration
  pub stands : DeclaredAt tokens p declaration
  pub small : large_words (declared_of declaration).words ≡ false

-- such a declaration has n words
pub record Counted (text records values : List ℕ) (p n : ℕ) : Type 0 where
  pub stands : Stands text records values p
  pub words : (v : Stands text records values p) → n ≡ words_of (declared_of v.declaration)
