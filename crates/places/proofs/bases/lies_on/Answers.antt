-- `places::bases::lies_on` meets its contract: the cell of the target numbers the declaration under the mapping.
-- Assumes nothing.
use Rattle.places.specs.Laws.Reaching.{no_number, under_view, lies_shown}
use Rattle.places.proofs.bases.lies_on.Goals as goal

pub returns-then-m-o : goal.returns-then-m-o
returns-then-m-o c = λ v. no_number c.inside_at-o.ensures c.if-m-o.true v

pub bits_of-under-requires : goal.bits_of-under-requires
bits_of-under-requires c = under_view c.inside_at-o.ensures c.if-m-o.false c.get16-q.ensures c.requires

pub returns : goal.returns
returns c = λ v. lies_shown c.inside_at-o.ensures c.if-m-o.false c.get16-q.ensures c.bits_of-under.ensures c.target_bits-on.ensures c.low_under-low.ensures c.get16.ensures v
