-- `reading::bits::union` meets its contract.
use Rattle.reading.specs.Laws.Bits.{holds_or}
use Rattle.reading.proofs.bits.union.Goals as goal

pub returns : goal.returns
returns c = holds_or _ _
