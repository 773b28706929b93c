-- `ways::labels::enter` meets its contract: three cells behind those of the labels before it.
-- Assumes nothing.
use Rattle.ways.specs.Laws.Stack.{entered}
use Rattle.ways.proofs.labels.enter.Goals as goal

pub returns : goal.returns
returns c = entered _ _ _ _ _ _ _ _ c.requires.0 c.requires.1 c.requires.2 c.requires.3 c.put16.ensures c.put16-2.ensures c.put16-3.ensures
