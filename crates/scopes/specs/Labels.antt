-- The labels around a token, on a stack of the numbers of their tokens. A scope is those from a base up to the top; where the top is below the base there
-- is no group of two or more around.
use Rattle.std.specs.Prelude.{ℕ, zero, suc, ◌+◌, ◌-◌, ◌*◌, ◌<◌, ◌≤◌, min, ◌≡◌, List, [], ◌∷◌, length, drop}
use Rattle.std.proofs.Math.Option.{none, some}
use Rattle.cells.specs.Cells.{cell}
use Rattle.rules.specs.Text.Tokens.{Name, kind_no}
use Rattle.rules.specs.Grammar.Trees.{Tokens}
use Rattle.rules.specs.Declarations.{Word}
use Rattle.rules.specs.Faults.Whole.{Scope}
use Rattle.records.specs.Holds.{kind_byte, token_at, Tabled}
use Rattle.records.specs.Words.{word_at}
use Rattle.keys.specs.Keys.{least_number_key}
use Rattle.room.specs.Whole.{scopes_end}
use Rattle.scopes.specs.Walks.{labelling, jump_at}

-- the cells below the top are names
pub record Labelled (records labels : List ℕ) (n top : ℕ) : Type 0 where
  pub room : 2 * top ≤ length labels
  pub inside : (j : ℕ) → j < top → cell 2 labels j < n
  pub names : (j : ℕ) → j < top → kind_byte records (cell 2 labels j) ≡ kind_no Name

-- the words of c cells from the base on, the last first
unfoldable pub names_from : Tokens → List ℕ → ℕ → ℕ → List Word
names_from ts b base zero = []
names_from ts b base (suc c) = word_at ts (cell 2 b (base + c)) ∷ names_from ts b base c

pub record Scoped (ts : Tokens) (labels : List ℕ) (base top : ℕ) (s : Scope) : Type 0 where
  pub around : base ≤ top → s ≡ some (names_from ts labels base (top - base))
  pub nowhere : top < base → s ≡ none

-- the key of a jump at the token i, as far as it lowers the key that is known
pub record JumpKey (text records labels : List ℕ) (n i base top known r : ℕ) : Type 0 where
  pub key : (v : Tabled text records n) (s : Scope) → Scoped v.tokens labels base top s → min known r ≡ min known
      (least_number_key (jump_at s (token_at v.tokens i) (drop (i + 1) v.tokens)))

-- a label more
pub record Pushed (text records old new : List ℕ) (n i base top r : ℕ) : Type 0 where
  pub low : top ≤ r
  pub high : r ≤ top + 1
  pub kept : (j : ℕ) → j < scopes_end → (j ≡ top → ⊥) → cell 2 new j ≡ cell 2 old j
  pub labelled : Labelled records old n top → Labelled records new n r
  pub scope : (v : Tabled text records n) (s : Scope) → Scoped v.tokens old base top s → Scoped v.tokens new base r
      (labelling (token_at v.tokens (i - 1)) s)
