-- What a token of an action does to carriers and bodies: it reads, writes, activates, stops; and what is heard of it in a list.
use Rattle.std.specs.Prelude.{ℕ, zero, suc, true, false, List, [], ◌∷◌, ◌++◌, eqb}
use Rattle.rules.specs.Text.Tokens.{Name, LPar, STOP, Token, kind_no}
use Rattle.rules.specs.Grammar.Trees.{Tokens}
use Rattle.rules.specs.Declarations.{Word}
use Rattle.reading.specs.Kinds.{next_no, stores, ends, closes, mode}
use Rattle.table.specs.Scans.{no, deeper}

pub data Event : Type 0 where
  reads writes activates : Word → Event
  halts : Event

-- a name at the start of an action, or in a destination, by the kind behind it: a target or a label is nothing
unfoldable pub acting_event : Word → ℕ → List Event
acting_event w k = elim (eqb k (kind_no LPar)) [ true ↦ activates w ∷ [] | false ↦ elim (stores k) [ true ↦ writes w ∷ [] | false ↦ [] ] ]

unfoldable pub name_event : ℕ → Word → ℕ → List Event
name_event zero w k = acting_event w k
name_event (suc m) w k = reads w ∷ []

unfoldable pub event : ℕ → Token → ℕ → List Event
event m t k = elim (eqb (no t) (kind_no Name)) [ true ↦ name_event m t.info.word k | false ↦ elim (eqb (no t) (kind_no STOP)) [ true ↦ halts ∷ [] | false ↦ [] ] ]

-- the events of the tokens up to the end of the action
unfoldable pub heard : ℕ → ℕ → Tokens → List Event
heard d m [] = []
heard d m (t ∷ ts) =
    elim (ends d (no t)) [
      | true ↦ []
      | false ↦ event m t (next_no ts) ++ elim (closes d (no t)) [ true ↦ [] | false ↦ heard (deeper d (no t)) (mode m (no t)) ts ]
    ]
