-- `table::operators::tightness_of` meets its contract: a kind that is none of the operators' binds nothing.
-- Assumes nothing.
use mathlib.Core.Path.{sym, ap}
use Rattle.table.specs.Operators.{tightness_at, operators}
use Rattle.table.specs.Laws.Operators.{no_tightness}
use Rattle.table.proofs.operators.tightness_of.Goals as goal

pub returns-in-15 : goal.returns-in-15
returns-in-15 c = sym (ap tightness_at c.in-15.is)

pub returns-in-16 : goal.returns-in-16
returns-in-16 c = sym (ap tightness_at c.in-16.is)

pub returns-in-17 : goal.returns-in-17
returns-in-17 c = sym (ap tightness_at c.in-17.is)

pub returns-in-36 : goal.returns-in-36
returns-in-36 c = sym (ap tightness_at c.in-36.is)

pub returns-in-37 : goal.returns-in-37
returns-in-37 c = sym (ap tightness_at c.in-37.is)

pub returns-in-38 : goal.returns-in-38
returns-in-38 c = sym (ap tightness_at c.in-38.is)

pub returns-in-39 : goal.returns-in-39
returns-in-39 c = sym (ap tightness_at c.in-39.is)

pub returns-in-40 : goal.returns-in-40
returns-in-40 c = sym (ap tightness_at c.in-40.is)

pub returns-in-41 : goal.returns-in-41
returns-in-41 c = sym (ap tightness_at c.in-41.is)

pub returns-in-32 : goal.returns-in-32
returns-in-32 c = sym (ap tightness_at c.in-32.is)

pub returns-in-33 : goal.returns-in-33
returns-in-33 c = sym (ap tightness_at c.in-33.is)

pub returns-in-34 : goal.returns-in-34
returns-in-34 c = sym (ap tightness_at c.in-34.is)

pub returns-in-35 : goal.returns-in-35
returns-in-35 c = sym (ap tightness_at c.in-35.is)

pub returns-in_default : goal.returns-in_default
returns-in_default c = no_tightness _ operators (c.in_default.in_default-own.rest.0.0.0.0.0.0.0.0.0.0.0.0.1, (c.in_default.in_default-own.rest.0.0.0.0.0.0.0.0.0.0.0.1, (c.in_default.in_default-own.rest.0.0.0.0.0.0.0.0.0.0.1, (c.in_default.in_default-own.rest.0.0.0.0.0.0.0.0.0.1, (c.in_default.in_default-own.rest.0.0.0.0.0.0.0.0.1, (c.in_default.in_default-own.rest.0.0.0.0.0.0.0.1, (c.in_default.in_default-own.rest.0.0.0.0.0.0.1, (c.in_default.in_default-own.rest.0.0.0.0.0.1, (c.in_default.in_default-own.rest.0.0.0.0.1, (c.in_default.in_default-own.rest.0.0.0.1, (c.in_default.in_default-own.rest.0.0.1, (c.in_default.in_default-own.rest.0.1, (c.in_default.in_default-own.rest.1, tt)))))))))))))
