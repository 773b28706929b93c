-- `pair_tables::shapes::is_storage` meets its contract: by the target of a mapping, then by the bits.
-- Assumes nothing.
use Rattle.pair_tables.specs.Laws.Shapes.{no_storage, with_storage}
use Rattle.pair_tables.proofs.shapes.is_storage.Goals as goal

pub returns-in-Some : goal.returns-in-Some
returns-in-Some c = λ v. no_storage c.in-Some.ensures v

pub returns-in-None : goal.returns-in-None
returns-in-None c = λ v. with_storage c.in-None.ensures v c.bits_of.ensures c.is_missing.ensures
