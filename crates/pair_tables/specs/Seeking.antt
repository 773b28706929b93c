-- The search for the first text's storage under a name of the second.
use Rattle.std.specs.Prelude.{ℕ, ◌+◌, ◌≤◌, ◌≡◌, List, drop}
use Rattle.rules.specs.Declarations.{declared_of}
use Rattle.pair_tables.specs.Standing.{Stands, declared_by, DeclaredIn}
use Rattle.pair_tables.specs.Meeting.{namesake}

-- none of the first k is
pub record Seeking (text₀ records₀ values₀ decls₀ : List ℕ) (m₀ : ℕ) (text₁ records₁ values₁ : List ℕ) (q k : ℕ) : Type 0 where
  pub within : k ≤ m₀
  pub left : (v : Stands text₀ records₀ values₀ decls₀ m₀) (w : DeclaredIn text₁ records₁ values₁ q)
      → k + namesake (drop k (declared_by v)) (declared_of w.declaration) ≡ namesake (declared_by v) (declared_of w.declaration)
