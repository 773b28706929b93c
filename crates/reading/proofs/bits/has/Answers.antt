-- `reading::bits::has` meets its contract.
use borrow.Author.Rules.{rules}
use mathlib.Core.Path.{sym}
use Rattle.reading.specs.Laws.Bits.{held}
use Rattle.reading.proofs.bits.has.Goals as goal

pub returns : goal.returns
returns c = sym (held _ _ (search rules))
