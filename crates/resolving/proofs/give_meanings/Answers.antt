-- `resolving::give_meanings` meets its contract: meanings are forgotten, marked, and taken.
-- Assumes nothing.
use Rattle.resolving.specs.Laws.Marking.{to_mark, to_resolve, all_given}
use Rattle.resolving.proofs.give_meanings.Goals as goal

pub mark-requires : goal.mark-requires
mark-requires c = to_mark c.requires c.forget.ensures

pub resolve-requires : goal.resolve-requires
resolve-requires c = to_resolve c.requires c.forget.ensures c.mark.ensures.inside_only

pub returns : goal.returns
returns c = let r = all_given c.forget.ensures (c.mark.ensures.inside_only, c.mark.ensures.marked_from) (c.resolve.ensures.inside_only, c.resolve.ensures.meant_to) in record { inside_only = r.0; meant_to = r.1 }
