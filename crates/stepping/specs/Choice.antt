-- The choice of an alternative of a DECODE, in the table.
use Rattle.std.specs.Prelude.{ℕ, ◌<◌, List, length, Some, None}
use Rattle.std.specs.Prelude.{Option as Place}
use Rattle.std.proofs.Math.Option.{Option, none, some}
use Rattle.rules.specs.Grammar.Trees.{Tokens}
use Rattle.rules.specs.Selectors.{Case}
use Rattle.laws_orders.specs.Cited.Flat.{Entries}
use Rattle.promise.specs.Instructions.{CaseStands, Numbered, Counted, EntriesStand}
use Rattle.patterns.specs.Stands.{Held}

-- the instruction, as the code has it
abbrev pub place_of : Option ℕ → Place ℕ
place_of none = None
place_of (some g) = Some g

-- an alternative whose selector, if it has one, begins at q, and which is the number-th
pub record CaseView (records values : List ℕ) (q number : ℕ) : Type 0 where
  pub tokens : Tokens
  pub held : Held records values tokens
  pub within : q < length tokens
  pub case : Case
  pub stands : CaseStands tokens q case
  pub counted : Numbered number case

-- the alternatives from the separator p on, of which the first is the number-th
pub record ChoiceView (records values : List ℕ) (p number : ℕ) : Type 0 where
  pub tokens : Tokens
  pub held : Held records values tokens
  pub entries : Entries
  pub stand : EntriesStand records tokens p entries
  pub counted : Counted number entries
