-- `table::views::target_bits` meets its contract: the target's bits stand behind its name.
-- Assumes nothing.
use native.Mathlib.Omega.{arith}
use Rattle.rules.specs.Declarations.{declared_of}
use Rattle.table.specs.Laws.Views.{target_missing, target_within, target_view, target_names}
use Rattle.table.proofs.views.target_bits.Goals as goal

pub returns-in-None : goal.returns-in-None
returns-in-None c = λ v. target_missing v.tokens (declared_of v.declaration).target (c.in-None.ensures _ v)

pub overflow_add-t : goal.overflow_add-t
overflow_add-t c = let v = c.requires in omega (arith, target_within v.holds _ (declared_of v.declaration).target (c.in-Some.ensures _ v))

pub names_at-requires : goal.names_at-requires
names_at-requires c = let v = c.requires in target_view v.holds _ (declared_of v.declaration).target (c.in-Some.ensures _ v)

pub returns-in-Some : goal.returns-in-Some
returns-in-Some c = λ v. target_names v.holds _ (declared_of v.declaration).target (c.in-Some.ensures _ v) c.names_at.ensures
