-- `ways::scans::seek` meets its contract: what is left to read comes to the same place.
-- Assumes nothing.
use borrow.Author.Rules.{rules}
use native.Mathlib.Omega.{arith}
use Prim.Native.Nat.{◌-◌}
use Rattle.ways.specs.Laws.Seeking.{start_looking, look_within, look_found, look_on}
use Rattle.ways.proofs.scans.seek.Goals as goal

pub loop-from-init : goal.loop-from-init
loop-from-init c = search (rules, start_looking)

pub kind_at-kind-requires : goal.kind_at-kind-requires
kind_at-kind-requires c = (look_within c.loop-from.invariant c.requires).0

pub returns-then-halts : goal.returns-then-halts
returns-then-halts c = (omega (arith, c.loop-from.invariant.low), look_found c.loop-from.invariant c.kind_at-kind.ensures c.halts.ensures c.if-halts.true)

pub deeper-d-requires : goal.deeper-d-requires
deeper-d-requires c = omega (arith, c.loop-from.invariant.low, (look_within c.loop-from.invariant c.requires).1)

pub overflow_add-i : goal.overflow_add-i
overflow_add-i c = omega (arith, (look_within c.loop-from.invariant c.requires).1)

pub loop-from-smaller : goal.loop-from-smaller
loop-from-smaller c = omega (arith, (look_within c.loop-from.invariant c.requires).0)

pub loop-from-preserved : goal.loop-from-preserved
loop-from-preserved c = look_on c.loop-from.invariant c.kind_at-kind.ensures c.halts.ensures c.if-halts.false c.deeper-d.ensures
