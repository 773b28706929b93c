-- How many words names show, and how many a declaration takes.
use Rattle.std.specs.Prelude.{ℕ, ◌≤◌, ◌≡◌}
use Rattle.std.proofs.Math.Option.{Option, none, some}
use Rattle.rules.specs.Declarations.{Names as Span-of, BitNames, storage_words}
use Rattle.rules.specs.Limits.{most_words}
use Rattle.table.specs.Shown.{shown_words, shown_bits}
use Rattle.table.specs.declared.views.Names.{Names}

-- n is how many words there are
abbrev pub WordsIn : Names → ℕ → Type 0
WordsIn words n = (w : Option Span-of) (b : BitNames) → words ≡ shown_words w → storage_words none (some b) w ≤ most_words → n ≡ storage_words none (some b) w

abbrev pub StorageIn : Names → Names → ℕ → Type 0
StorageIn own words n =
    (b : Option BitNames) (w : Option Span-of) → own ≡ shown_bits b → words ≡ shown_words w → storage_words none b w ≤ most_words → n ≡ storage_words none b w
