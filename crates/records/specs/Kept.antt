-- What stays of the records while inside cells and links are written: all but bytes 4 to 7 of the tokens from a up to b.
use Rattle.std.specs.Prelude.{ℕ, ◌+◌, ◌<◌, ◌≤◌, ◌≡◌, List, length}
use Rattle.records.specs.Holds.{kind_byte, size_byte, place_cell, inside_cell, link_cell}

pub record Kept (old now : List ℕ) (a b : ℕ) : Type 0 where
  pub long : length now ≡ length old
  pub kind : (t : ℕ) → kind_byte now t ≡ kind_byte old t
  pub size : (t : ℕ) → size_byte now t ≡ size_byte old t
  pub place : (t : ℕ) → place_cell now t ≡ place_cell old t
  pub inside : (t : ℕ) → (a ≤ t → t < b → ⊥) → inside_cell now t ≡ inside_cell old t
  pub link : (t : ℕ) → (a ≤ t → t < b → ⊥) → link_cell now t ≡ link_cell old t

-- one link written
pub record LinkPut (old now : List ℕ) (i x : ℕ) : Type 0 where
  pub kept : Kept old now i (i + 1)
  pub link : link_cell now i ≡ x
  pub inside : inside_cell now i ≡ inside_cell old i

pub record InsidePut (old now : List ℕ) (i x : ℕ) : Type 0 where
  pub kept : Kept old now i (i + 1)
  pub inside : inside_cell now i ≡ x
  pub link : link_cell now i ≡ link_cell old i
