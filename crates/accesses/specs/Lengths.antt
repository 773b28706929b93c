-- The length of an access by the names of its bits: all bits of the declaration, or the given ones if they lie inside and run the same way.
use Rattle.std.specs.Prelude.{ℕ, ◌≤◌, max, Bool, true, false, Option, Some, None}
use Rattle.rules.specs.Limits.{most_bits, largest_name}
use Rattle.rules.specs.Declarations.{names, how_many, these}
use Rattle.rules.specs.Faults.Declared.{inside}
use Rattle.table.specs.declared.views.Names.{Names}
use Rattle.table.specs.declared.views.Names.TheVariants.{Missing, Unnamed, Span}

-- all bits of a declaration, if it has bits
abbrev pub own_length : Names → Option ℕ
own_length Missing = None
own_length Unnamed = Some 1
own_length (Span l r) = Some (how_many (names l r))

-- a number, if something holds
abbrev pub kept : Bool → ℕ → Option ℕ
kept true n = Some n
kept false n = None

-- those from l to r, if they are inside and run the same way
abbrev pub part_length : Names → ℕ → ℕ → Option ℕ
part_length Missing l r = None
part_length Unnamed l r = None
part_length (Span a b) l r = kept (inside (these (names a b)) (names l r)) (how_many (names l r))

abbrev pub access_length : Names → Names → Option ℕ
access_length own Missing = own_length own
access_length own Unnamed = None
access_length own (Span l r) = part_length own l r

-- bits that 31 lets pass
abbrev pub Short : Names → Type 0
Short Missing = Unit {0}
Short Unnamed = Unit {0}
Short (Span l r) = (how_many (names l r) ≤ most_bits) × (max l r ≤ largest_name)
