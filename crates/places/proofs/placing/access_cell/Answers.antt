-- `places::placing::access_cell` meets its contract: what the name reaches, and the bits behind it.
-- Assumes nothing.
use Rattle.places.specs.Laws.Placing.{no_place, behind_name, place_here}
use Rattle.places.proofs.placing.access_cell.Goals as goal

pub returns-then-m-k : goal.returns-then-m-k
returns-then-m-k c = λ v. no_place c.inside_at-k.ensures c.if-m-k.true v

pub behind_index-p-requires : goal.behind_index-p-requires
behind_index-p-requires c = behind_name c.requires

pub returns : goal.returns
returns c = λ v. place_here c.inside_at-k.ensures c.if-m-k.false c.base_of-base.ensures c.behind_index-p.result c.behind_index-p.ensures.1 c.given_names-given.ensures c.cell_of.ensures v
