-- `plain::simple::transfer` meets its contract: the expression stands behind the destination's `=`.
-- Assumes nothing.
use native.Mathlib.Omega.{arith}
use Rattle.plain.specs.Laws.Simple.{transfer_destination, equals_within, transfer_expression, transfer_answer}
use Rattle.plain.proofs.simple.transfer.Goals as goal

pub destination-to-requires : goal.destination-to-requires
destination-to-requires c = transfer_destination c.requires

pub overflow_add-to : goal.overflow_add-to
overflow_add-to c = omega (arith, equals_within c.requires (c.destination-to.ensures (transfer_destination c.requires)))

pub expression-value-requires : goal.expression-value-requires
expression-value-requires c = transfer_expression c.requires (c.destination-to.ensures (transfer_destination c.requires))

pub returns : goal.returns
returns c =
    λ v. let d = c.destination-to.ensures (transfer_destination v) in
    transfer_answer v d (c.expression-value.ensures (transfer_expression v d)) c.earlier.ensures
