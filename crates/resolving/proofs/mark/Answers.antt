-- `resolving::mark` meets its contract: what is marked is right by the declarations that are passed.
-- Assumes nothing.
use native.Mathlib.Omega.{arith}
use Rattle.resolving.specs.Laws.Marking.{next_declared, one_less, all_marked}
use Rattle.resolving.proofs.mark.Goals as goal

pub mark_one-requires : goal.mark_one-requires
mark_one-requires c = next_declared c.link_at.ensures c.requires c.put_inside.ensures c.loop-k.invariant (omega arith)

pub loop-k-preserved : goal.loop-k-preserved
loop-k-preserved c = one_less c.loop-k.invariant (omega arith) (c.mark_one.ensures.inside_only, c.mark_one.ensures.marked_from)

pub returns : goal.returns
returns c = let r = all_marked c.link_at.ensures c.requires c.put_inside.ensures c.loop-k.invariant c.loop-k-test.false in record { inside_only = r.0; marked_from = r.1 }
