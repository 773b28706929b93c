-- `resolving::mark_one` meets its contract: the spelling of the name takes the number.
-- Assumes nothing.
use Rattle.resolving.specs.Laws.Marking.{declared_inside, link_inside, marked_one}
use Rattle.resolving.proofs.mark_one.Goals as goal

pub link_at-requires : goal.link_at-requires
link_at-requires c = declared_inside c.get16-p.ensures c.requires

pub put_inside-requires : goal.put_inside-requires
put_inside-requires c = link_inside c.get16-p.ensures c.link_at.ensures c.requires

pub returns : goal.returns
returns c = let r = marked_one c.get16-p.ensures c.link_at.ensures c.put_inside.ensures c.requires in record { inside_only = r.0; marked_from = r.1 }
