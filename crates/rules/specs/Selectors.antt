-- Selectors. "A `?` in a single selector matches any digit value of its base. In a range, put 0 for each `?`: if left is greater than right, the bounds
-- are left with its `?` at the highest digit and right with 0; otherwise left with 0 and right with the highest digit."
use Rattle.std.specs.Prelude.{ℕ, zero, suc, ◌+◌, ◌/◌, ◌%◌, Bool, true, false, ◌&&◌, ◌||◌, List, [], ◌∷◌, leb, ltb, eqb}
use Rattle.rules.specs.Limits.{most_bits}
use Rattle.rules.specs.Text.Tokens.{Info}
use Rattle.rules.specs.Grammar.Trees.{Literal, exact, masked, Range, single, to, Items, close, item, Selector, one_of, any_of}

-- what one item of a selector stands for: a value with free bits, or all values from a lowest to a highest
pub data Item : Type 0 where
  pattern : ℕ → ℕ → Item
  between : ℕ → ℕ → Item

abbrev pub literal_info : Literal → Info
literal_info (exact i) = i
literal_info (masked i) = i

-- a constant with each `?` at 0, and at the highest digit
abbrev pub lowest : Literal → ℕ
lowest l = (literal_info l).value

abbrev pub highest_digits : Literal → ℕ
highest_digits l = (literal_info l).value + (literal_info l).free

unfoldable pub item_of : Literal → Range → Item
item_of l single = pattern (literal_info l).value (literal_info l).free
item_of l (to c r) = elim (ltb (lowest r) (lowest l)) [ true ↦ between (lowest r) (highest_digits l) | false ↦ between (lowest l) (highest_digits r) ]

-- whether x and v agree in each of the n lowest bits that is not free
unfoldable pub agree : ℕ → ℕ → ℕ → ℕ → Bool
agree zero v f x = true
agree (suc n) v f x = (eqb (f % 2) 1 || eqb (v % 2) (x % 2)) && agree n (v / 2) (f / 2) (x / 2)

unfoldable pub matches : Item → ℕ → Bool
matches (pattern v f) x = agree most_bits v f x
matches (between l h) x = leb l x && leb x h

-- the highest value that an item matches
unfoldable pub highest : Item → ℕ
highest (pattern v f) = v + f
highest (between l h) = h

unfoldable pub items_of : Items → List Item
items_of (close r) = []
items_of (item c l r is) = item_of l r ∷ items_of is

unfoldable pub selector_items : Selector → List Item
selector_items (one_of l r) = item_of l r ∷ []
selector_items (any_of b l r is) = item_of l r ∷ items_of is

-- when an alternative is taken: at its own number, at any of its items, or at any value
pub data Case : Type 0 where
  numbered : ℕ → Case
  listed : List Item → Case
  otherwise : Case

unfoldable pub any_matches : List Item → ℕ → Bool
any_matches [] x = false
any_matches (i ∷ is) x = matches i x || any_matches is x

unfoldable pub takes : Case → ℕ → Bool
takes (numbered n) x = eqb n x
takes (listed is) x = any_matches is x
takes otherwise x = true
