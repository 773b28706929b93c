-- `reading::names::index_of` meets its contract.
use Rattle.reading.specs.Laws.Meanings.{declared_index, undeclared_index}
use Rattle.reading.proofs.names.index_of.Goals as goal

pub returns-then-k-m : goal.returns-then-k-m
returns-then-k-m c = declared_index c.requires.1 c.inside_at-k.ensures c.if-k-m.true

pub returns : goal.returns
returns c = undeclared_index c.requires.1 c.inside_at-k.ensures c.if-k-m.false
