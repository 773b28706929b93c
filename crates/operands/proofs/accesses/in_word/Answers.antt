-- `operands::accesses::in_word` meets its contract.
-- Assumes nothing.
use mathlib.Core.Path.{refl}
use Rattle.operands.proofs.accesses.in_word.Goals as goal

pub returns : goal.returns
returns c = rw (c.first_word.ensures, c.lowest_bit.ensures, c.bit_count.ensures) refl
