-- `declare::finding::end_of` meets its contract: the tokens that are left, with the brackets that are open, end as the declaration does.
-- Assumes nothing.
use borrow.Author.Rules.{rules}
use native.Mathlib.Omega.{arith}
use Rattle.declare.proofs.Starts.{name_first, next_within, stopped, passed}
use Rattle.declare.proofs.finding.end_of.Goals as goal

pub loop-p-init : goal.loop-p-init
loop-p-init c = name_first

pub kind_at-kind-requires : goal.kind_at-kind-requires
kind_at-kind-requires c = (next_within c.loop-p.invariant c.requires).room

pub returns-then-ends_here : goal.returns-then-ends_here
returns-then-ends_here c = search (rules, stopped)

pub depth_behind-depth-requires : goal.depth_behind-depth-requires
depth_behind-depth-requires c = omega (arith, (next_within c.loop-p.invariant c.requires).within)

pub overflow_add-i : goal.overflow_add-i
overflow_add-i c = omega (arith, (next_within c.loop-p.invariant c.requires).within)

pub loop-p-smaller : goal.loop-p-smaller
loop-p-smaller c = omega (arith, (next_within c.loop-p.invariant c.requires).room)

pub loop-p-preserved : goal.loop-p-preserved
loop-p-preserved c = search (rules, passed)
