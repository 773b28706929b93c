-- `reading::bits::only` meets its contract.
use borrow.Author.Rules.{rules}
use Rattle.reading.specs.Laws.Bits.{holds_only}
use Rattle.reading.proofs.bits.only.Goals as goal

pub returns : goal.returns
returns c = λ k. holds_only _ k (search rules)
