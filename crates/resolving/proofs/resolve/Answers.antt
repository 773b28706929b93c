-- `resolving::resolve` meets its contract: token by token.
-- Assumes nothing.
use Rattle.resolving.specs.Laws.Marking.{one_resolved}
use Rattle.resolving.proofs.resolve.Goals as goal

pub loop-i-preserved : goal.loop-i-preserved
loop-i-preserved c = one_resolved c.loop-i.invariant c.loop-i-test.true (c.resolve_one.ensures.inside_only, c.resolve_one.ensures.marked_from)
