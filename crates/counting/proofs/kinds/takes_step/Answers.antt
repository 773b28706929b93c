-- `counting::kinds::takes_step` meets its contract.
use mathlib.Core.Path.{sym, ap}
use mathlib.Core.List.{◌∷◌, []}
use Rattle.rules.specs.Whole.Sets.{member}
use Rattle.counting.specs.Machine.{takes_step}
use Rattle.table.specs.Laws.Scans.{missing}
use Rattle.counting.proofs.kinds.takes_step.Goals as goal

pub returns-in-13 : goal.returns-in-13
unfolding takes_step member
returns-in-13 c = sym (ap takes_step c.in-13.is)

pub returns-in-22 : goal.returns-in-22
unfolding takes_step member
returns-in-22 c = sym (ap takes_step c.in-22.is)

pub returns-in-23 : goal.returns-in-23
unfolding takes_step member
returns-in-23 c = sym (ap takes_step c.in-23.is)

pub returns-in-26 : goal.returns-in-26
unfolding takes_step member
returns-in-26 c = sym (ap takes_step c.in-26.is)

pub returns-in-29 : goal.returns-in-29
unfolding takes_step member
returns-in-29 c = sym (ap takes_step c.in-29.is)

pub returns-in-30 : goal.returns-in-30
unfolding takes_step member
returns-in-30 c = sym (ap takes_step c.in-30.is)

pub returns-in_default : goal.returns-in_default
unfolding takes_step member
returns-in_default c = missing _ (13 ∷ 22 ∷ 23 ∷ 26 ∷ 29 ∷ 30 ∷ []) (c.in_default.in_default-own.rest.0.0.0.0.0.1, (c.in_default.in_default-own.rest.0.0.0.0.1, (c.in_default.in_default-own.rest.0.0.0.1, (c.in_default.in_default-own.rest.0.0.1, (c.in_default.in_default-own.rest.0.1, (c.in_default.in_default-own.rest.1, tt))))))
