-- The items of selectors as the code hands them about.
use Rattle.std.specs.Prelude.{ℕ, ◌+◌, true, false, ltb}
use Rattle.rules.specs.Selectors as rules
use Rattle.patterns.specs.declared.items.Item.{Item}
use Rattle.patterns.specs.declared.items.Item.TheVariants.{Pattern, Between}

-- what an item stands for
abbrev pub meant : Item → rules.Item
meant (Pattern v f) = rules.pattern v f
meant (Between l h) = rules.between l h

-- the range from the constant of value v with f free to that of value w with g free
abbrev pub range_of : ℕ → ℕ → ℕ → ℕ → rules.Item
range_of v f w g = elim (ltb w v) [ true ↦ rules.between w (v + f) | false ↦ rules.between v (w + g) ]
