-- `profiling::names::hits` meets its contract.
use mathlib.Core.Path.{refl}
use Rattle.profiling.specs.Laws.Acting.{hit_is}
use Rattle.profiling.proofs.names.hits.Goals as goal

pub returns : goal.returns
returns c = hit_is _ c.requires.2 refl c.carrier-c.ensures
