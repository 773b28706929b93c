-- `counting::kinds::turns` meets its contract.
use mathlib.Core.Path.{sym, ap}
use mathlib.Core.List.{◌∷◌, []}
use Rattle.rules.specs.Whole.Sets.{member}
use Rattle.counting.specs.Machine.{turns}
use Rattle.table.specs.Laws.Scans.{missing}
use Rattle.counting.proofs.kinds.turns.Goals as goal

pub returns-in-25 : goal.returns-in-25
unfolding turns member
returns-in-25 c = sym (ap turns c.in-25.is)

pub returns-in-27 : goal.returns-in-27
unfolding turns member
returns-in-27 c = sym (ap turns c.in-27.is)

pub returns-in_default : goal.returns-in_default
unfolding turns member
returns-in_default c = missing _ (25 ∷ 27 ∷ []) (c.in_default.in_default-own.rest.0.1, (c.in_default.in_default-own.rest.1, tt))
