-- `chains::mains::main_at` meets its contract.
use Rattle.reading.specs.Laws.Meanings.{declared_view}
use Rattle.chains.specs.Laws.Mains.{main_there}
use Rattle.chains.proofs.mains.main_at.Goals as goal

pub main_of-requires : goal.main_of-requires
main_of-requires c = declared_view c.requires.0 c.requires.1 c.get16.ensures

pub returns : goal.returns
returns c = main_there c.main_of.result c.requires.0 c.requires.1 c.get16.ensures c.main_of.ensures
