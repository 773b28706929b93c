-- Names of words and bits as the code hands them about.
use Rattle.std.proofs.Math.Option.{Option, none, some}
use Rattle.rules.specs.Declarations.{Names as Span-of, BitNames, one_unnamed, these, Target}
use Rattle.table.specs.declared.views.Names.{Names}
use Rattle.table.specs.declared.views.Names.TheVariants.{Missing, Unnamed, Span}

abbrev pub shown_words : Option Span-of → Names
shown_words none = Missing
shown_words (some s) = Span s.left s.right

abbrev pub shown_bits : Option BitNames → Names
shown_bits none = Missing
shown_bits (some one_unnamed) = Unnamed
shown_bits (some (these s)) = Span s.left s.right

abbrev pub shown_target : Option Target → Names
shown_target none = Missing
shown_target (some t) = Span t.bits.left t.bits.right
