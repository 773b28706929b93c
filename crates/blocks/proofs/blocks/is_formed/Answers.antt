-- `blocks::blocks::is_formed` meets its contract: the tests come in the order of the rules.
-- Assumes nothing.
use mathlib.Core.Path.{◌∙◌}
use native.Mathlib.Omega.{arith}
use Rattle.blocks.specs.Laws.Puts.{other_number, other_edition, other_count, by_padding}
use Rattle.blocks.proofs.blocks.is_formed.Goals as goal

pub overflow_cast-block : goal.overflow_cast-block
overflow_cast-block c = omega (arith, c.shared_slice_known-1.given 0)

pub returns-then-block-number : goal.returns-then-block-number
returns-then-block-number c = other_number c.args.block.now c.args.number c.args.used c.if-block-number.true

pub returns-then-block-ne-EDITION : goal.returns-then-block-ne-EDITION
returns-then-block-ne-EDITION c = other_edition c.args.block.now c.args.number c.args.used (omega arith) c.if-block-ne-EDITION.true

pub returns-then-get16-used : goal.returns-then-get16-used
returns-then-get16-used c = other_count c.args.block.now c.args.number c.args.used (omega arith) (omega arith) (λ e. c.if-get16-used.true (c.get16.ensures ∙ e))

pub returns : goal.returns
returns c = c.is_zero.ensures ∙ by_padding c.args.block.now c.args.number c.args.used (omega arith) (omega arith) (omega arith)
