-- `plain::simple::jump_fault` meets its contract.
-- Assumes nothing.
use native.Mathlib.Omega.{arith}
use mathlib.Core.Path.{sym, ◌∙◌}
use Rattle.plain.specs.Laws.Simple.{jump_room, jump_place, jump_name, jump_aims, jump_misses}
use Rattle.plain.proofs.simple.jump_fault.Goals as goal

pub overflow_add-i : goal.overflow_add-i
overflow_add-i c = omega (arith, jump_room c.requires)

pub is_stacked-requires : goal.is_stacked-requires
is_stacked-requires c = jump_name c.requires

pub returns-then-is_stacked : goal.returns-then-is_stacked
returns-then-is_stacked c = λ v. jump_aims v (sym c.if-is_stacked.true ∙ c.is_stacked.ensures (jump_name v))

pub place_at-requires : goal.place_at-requires
place_at-requires c = omega (arith, jump_room c.requires)

pub fault_key-requires : goal.fault_key-requires
fault_key-requires c = omega (arith, jump_place c.requires, c.place_at.ensures)

pub returns : goal.returns
returns c = λ v. jump_misses v (sym c.if-is_stacked.false ∙ c.is_stacked.ensures (jump_name v)) c.place_at.ensures c.fault_key.ensures
