-- `values::operators::alike` meets its contract: EQV is NOT of XOR, which fits the length as the operands do.
-- Assumes nothing.
use Rattle.std.proofs.Common.{sym, ◌∙◌, ap₂}
use lib.Bits.{xor_lt}
use Rattle.rules.specs.Values.{op_bits, not_number}
use Rattle.values.specs.Laws.Results.{eqv_not, xor_machine}
use Rattle.values.proofs.operators.alike.Goals as goal

pub invert-requires : goal.invert-requires
invert-requires c = (c.requires.0, xor_lt _ _ _ c.requires.1 c.requires.2)

pub returns : goal.returns
unfolding op_bits
returns c m k fit len = c.invert.ensures ∙ ap₂ not_number len (sym (xor_machine fit)) ∙ sym (eqv_not m _ k _)
