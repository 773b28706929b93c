-- `linking::beginning::begin` meets its contract: the entries are linked, and the numbers put.
-- Assumes nothing.
use Rattle.linking.specs.Laws.Chains.{filled_linked, begun}
use Rattle.linking.proofs.beginning.begin.Goals as goal

pub link_all-requires : goal.link_all-requires
link_all-requires c =
    filled_linked c.fill.ensures c.count.ensures c.requires.0 c.requires.1

pub returns : goal.returns
returns c = begun c.link_all.ensures c.put16.ensures c.put16-2.ensures c.put16-3.ensures
