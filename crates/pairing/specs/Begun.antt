-- Two accepted texts in their tables, as their turns can be taken.
use Rattle.std.specs.Prelude.{ℕ, ◌*◌, ◌<◌, ◌≤◌, List, length}
use Rattle.cells.specs.Cells.{cell}
use Rattle.rules.specs.Limits.{most_words}
use Rattle.accepted.specs.Accepted.{Accepts, table_by}
use Rattle.preparing.specs.Prepared.{Prepared}
use Rattle.pair_turns.specs.Views.{Filled}
use Rattle.pairing.specs.declared.turned.Begun.{Begun}

-- the first words of m declarations, two bytes each
pub record Numbered (firsts : List ℕ) (m : ℕ) : Type 0 where
  pub room : 2 * m ≤ length firsts
  pub small : (k : ℕ) → k < m → cell 2 firsts k ≤ most_words

module _ {text₀ records₀ values₀ decls₀ text₁ records₁ values₁ decls₁ : List ℕ} {m₀ words₀ n₀ m₁ words₁ n₁ : ℕ}
    (v : Accepts text₀ records₀ values₀ decls₀ m₀ words₀ n₀) (u : Accepts text₁ records₁ values₁ decls₁ m₁ words₁ n₁) where
  pub record BothBegun (firsts records₀' values₀' view records₁' values₁' : List ℕ) (r : Begun) : Type 0 where
    pub first : Prepared v records₀' values₀' r.first
    pub second : Prepared u records₁' values₁' r.second
    pub filled : Filled (table_by u) firsts m₁ view r.words
