-- `reading::bits::common` meets its contract.
use borrow.Author.Rules.{rules}
use Rattle.reading.specs.Laws.Bits.{in_common, not_common}
use Rattle.reading.proofs.bits.common.Goals as goal

pub returns-then-a-b-ne0 : goal.returns-then-a-b-ne0
returns-then-a-b-ne0 c = search (rules, in_common)

pub returns : goal.returns
returns c = search (rules, not_common)
