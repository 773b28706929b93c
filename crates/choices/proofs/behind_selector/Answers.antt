-- `choices::behind_selector` meets its contract: no token passed is `:=`.
-- Assumes nothing.
use native.Mathlib.Omega.{arith}
use Rattle.choices.specs.Laws.Starts.{see_behind, behind_room, behind_found, behind_on}
use Rattle.choices.proofs.behind_selector.Goals as goal

pub kind_at-requires : goal.kind_at-requires
kind_at-requires c = behind_room (see_behind (c.loop-i.invariant c.requires))

pub returns : goal.returns
returns c = λ v. behind_found (see_behind (c.loop-i.invariant v)) c.kind_at.ensures c.loop-i-test.false

pub overflow_add-i : goal.overflow_add-i
overflow_add-i c = omega (arith, behind_room (see_behind (c.loop-i.invariant c.requires)))

pub loop-i-smaller : goal.loop-i-smaller
loop-i-smaller c = omega (arith, behind_room (see_behind (c.loop-i.invariant c.requires)))

pub loop-i-preserved : goal.loop-i-preserved
loop-i-preserved c = λ v. behind_on (see_behind (c.loop-i.invariant v)) c.kind_at.ensures c.loop-i-test.true
