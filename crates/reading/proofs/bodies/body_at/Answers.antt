-- `reading::bodies::body_at` meets its contract.
use Rattle.reading.specs.Laws.Meanings.{declared_view}
use Rattle.reading.specs.Laws.Bodies.{body_there}
use Rattle.reading.proofs.bodies.body_at.Goals as goal

pub body_of-requires : goal.body_of-requires
body_of-requires c = declared_view c.requires.0 c.requires.1 c.get16.ensures

pub returns : goal.returns
returns c = body_there c.body_of.result c.requires.1 c.get16.ensures c.body_of.ensures
