-- What a summary tells of the values that items match.
use Rattle.std.specs.Prelude.{ℕ, ◌+◌, ◌^◌, ◌<◌, ◌≤◌, List, [], ◌∷◌, ◌⊎◌, T}
use Rattle.rules.specs.Selectors.{Item, pattern, between, agree, any_matches}
use Rattle.summaries.specs.declared.Summary.{Summary}
use Rattle.summaries.specs.Fits.{ItemFits}

-- x fits the summary
pub record Admits (s : Summary) (x : ℕ) : Type 0 where
  pub from : s.low ≤ x
  pub upto : x ≤ s.high
  pub agrees : T (agree 64 s.value s.free x)

-- every value fits
abbrev pub Open : Summary → Type 0
Open s = (x : ℕ) → x < 2 ^ 64 → Admits s x

-- no value fits both
abbrev pub Apart : Summary → Summary → Type 0
Apart s t = (x : ℕ) → x < 2 ^ 64 → Admits s x → Admits t x → ⊥

-- what fits either fits r
pub record Joins (s t r : Summary) : Type 0 where
  pub one : (x : ℕ) → Admits s x → Admits r x
  pub other : (x : ℕ) → Admits t x → Admits r x

-- the bounds of an item as it is read
abbrev pub Bounded : Item → Type 0
Bounded (pattern v f) = v + f < 2 ^ 64
Bounded (between l h) = (l ≤ h) × (h < 2 ^ 64)

-- each item is met just where it has a value in common
abbrev pub AllFit : List Item → Type 0
AllFit [] = Unit {0}
AllFit (i ∷ is) = ItemFits i × AllFit is

-- some value fits
pub record Admitted (s : Summary) : Type 0 where
  pub value : ℕ
  pub short : value < 2 ^ 64
  pub fits : Admits s value

-- all values of the items fit the summary; where an item could be met without a common value, every value does
pub record Tells (is : List Item) (s : Summary) : Type 0 where
  pub each : (x : ℕ) → x < 2 ^ 64 → T (any_matches is x) → Admits s x
  pub known : AllFit is ⊎ Open s
  pub some : Admitted s
