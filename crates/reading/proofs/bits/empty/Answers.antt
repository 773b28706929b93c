-- `reading::bits::empty` meets its contract.
use Rattle.reading.specs.Laws.Bits.{holds_none}
use Rattle.reading.proofs.bits.empty.Goals as goal

pub returns : goal.returns
returns c = holds_none
