-- Names of words and bits, as the code hands them about, against the tests of the 30s.
use Rattle.std.specs.Prelude.{ℕ, Bool, true, false, ◌&&◌, ◌||◌, ltb, eqb}
use Rattle.rules.specs.Limits.{most_bits}
use Rattle.rules.specs.Declarations.{names, how_many, Names as Span-of, these}
use Rattle.rules.specs.Faults.Declared.{far_names, inside}
use Rattle.table.specs.declared.views.Names.{Names}
use Rattle.table.specs.declared.views.Names.TheVariants.{Missing, Unnamed, Span}

-- 31
abbrev pub far_shown : Names → Bool
far_shown Missing = false
far_shown Unnamed = false
far_shown (Span l r) = far_names (names l r)

abbrev pub large_shown : Names → Bool
large_shown Missing = false
large_shown Unnamed = false
large_shown (Span l r) = ltb most_bits (how_many (names l r)) || far_names (names l r)

abbrev pub missing_shown : Names → Bool
missing_shown Missing = true
missing_shown Unnamed = false
missing_shown (Span l r) = false

-- how many there are; one where none are named
abbrev pub count_shown : Names → ℕ
count_shown Missing = 1
count_shown Unnamed = 1
count_shown (Span l r) = how_many (names l r)

-- whether there are as many as of others
abbrev pub same_count : Names → Span-of → Bool
same_count Missing s = false
same_count Unnamed s = eqb 1 (how_many s)
same_count (Span l r) s = eqb (how_many (names l r)) (how_many s)

-- 33: of the names of the target's bits, of a mapping's own, and of those that it lies on
abbrev pub fits_in : Span-of → Names → Names → Bool
fits_in c b Missing = false
fits_in c b Unnamed = false
fits_in c b (Span f t) = inside (these c) (names f t) && same_count b (names f t)

abbrev pub fits_shown : Names → Names → Names → Bool
fits_shown Missing b s = false
fits_shown Unnamed b s = false
fits_shown (Span l r) b s = fits_in (names l r) b s

-- the words of a declaration that is no mapping
abbrev pub storage_shown : Names → Names → ℕ
storage_shown b w = elim (missing_shown b) [ true ↦ 0 | false ↦ count_shown w ]
