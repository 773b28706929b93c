-- Names of words and bits as the code hands them about: whether they are the same.
use Rattle.std.specs.Prelude.{ℕ, Bool, true, false, ◌&&◌, eqb}
use Rattle.table.specs.declared.views.Names.{Names}
use Rattle.table.specs.declared.views.Names.TheVariants.{Missing, Unnamed, Span}
use Rattle.spans.specs.Spans.{missing_shown}

abbrev pub unnamed_shown : Names → Bool
unnamed_shown Missing = false
unnamed_shown Unnamed = true
unnamed_shown (Span l r) = false

abbrev pub span_shown : Names → ℕ → ℕ → Bool
span_shown Missing left right = false
span_shown Unnamed left right = false
span_shown (Span l r) left right = eqb l left && eqb r right

abbrev pub same_shown : Names → Names → Bool
same_shown a Missing = missing_shown a
same_shown a Unnamed = unnamed_shown a
same_shown a (Span left right) = span_shown a left right
