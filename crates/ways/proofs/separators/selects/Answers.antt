-- `ways::separators::selects` meets its contract.
-- Assumes nothing.
use mathlib.Core.Path.{sym, ap}
use mathlib.Core.List.{◌∷◌, []}
use Rattle.rules.specs.Whole.Sets.{member}
use Rattle.table.specs.Laws.Scans.{missing}
use Rattle.ways.specs.Turns.{selects}
use Rattle.ways.proofs.separators.selects.Goals as goal

pub returns-in-1 : goal.returns-in-1
unfolding selects member
returns-in-1 c = sym (ap selects c.in-1.is)

pub returns-in-2 : goal.returns-in-2
unfolding selects member
returns-in-2 c = sym (ap selects c.in-2.is)

pub returns-in-5 : goal.returns-in-5
unfolding selects member
returns-in-5 c = sym (ap selects c.in-5.is)

pub returns-in-24 : goal.returns-in-24
unfolding selects member
returns-in-24 c = sym (ap selects c.in-24.is)

pub returns-in_default : goal.returns-in_default
unfolding selects member
returns-in_default c = missing _ (1 ∷ 2 ∷ 5 ∷ 24 ∷ []) (c.in_default.in_default-own.rest.0.0.0.1, (c.in_default.in_default-own.rest.0.0.1, (c.in_default.in_default-own.rest.0.1, (c.in_default.in_default-own.rest.1, tt))))
