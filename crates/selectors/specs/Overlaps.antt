-- The alternatives of one DECODE, by the tokens at which they begin, and the first that overlaps an earlier one.
use Rattle.std.specs.Prelude.{Option, Some, None, ℕ, zero, suc, ◌*◌, ◌<◌, ◌≤◌, ◌≡◌, Bool, true, false, List, [], ◌++◌, length}
use Rattle.cells.specs.Cells.{cell}
use Rattle.rules.specs.Grammar.Trees.{Tokens}
use Rattle.rules.specs.Selectors.{Item}
use Rattle.rules.specs.Faults.Bodies.{some_meet_of}
use Rattle.patterns.specs.Stands.{Held, ItemsFrom, ItemsAt}

-- where the items of an alternative begin
abbrev pub Begin : Tokens → List Item → Option ℕ → Type 0
Begin ts is None = is ≡ []
Begin ts is (Some q) = ItemsFrom ts q is

-- the cells of `starts` have the tokens at which `count` alternatives begin
pub record AlternativesView (records values starts : List ℕ) (count : ℕ) : Type 0 where
  pub tokens : Tokens
  pub held : Held records values tokens
  pub room : 2 * count ≤ length starts
  pub items : ℕ → List Item
  pub stand : (k : ℕ) → k < count → ItemsAt tokens (cell 2 starts k) (items k)

-- the items of the first k alternatives, the last first
unfoldable pub earlier_items : (ℕ → List Item) → ℕ → List Item
earlier_items items zero = []
earlier_items items (suc k) = items k ++ earlier_items items k

abbrev pub overlaps : (ℕ → List Item) → ℕ → Bool
overlaps items k = some_meet_of (items k) (earlier_items items k)

-- r is the first of `count` that overlaps an earlier one, or `count`
pub record FirstOverlap (items : ℕ → List Item) (count r : ℕ) : Type 0 where
  pub within : r ≤ count
  pub none_before : (k : ℕ) → k < r → overlaps items k ≡ false
  pub found : r < count → overlaps items r ≡ true
