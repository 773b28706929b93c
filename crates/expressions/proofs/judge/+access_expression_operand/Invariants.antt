-- The proof of the cycle of calls {access, expression, operand}. The measure is three times the depth, and a rank: an expression calls for its operands,
-- an operand for an access, and both for an expression that lies one bracket deeper.
-- Assumes nothing.
use Prim.Native.Nat.{◌+◌, ◌-◌, ◌*◌}
use lib.ListN.{length}
use Rattle.expressions.proofs.Steps as steps
use Rattle.expressions.proofs.judge.+access_expression_operand.Given as goal

abbrev pub decreases-access : goal.decreases-access
decreases-access l = 3 * l.depth

abbrev pub decreases-expression : goal.decreases-expression
decreases-expression l = 3 * l.depth + 2

abbrev pub decreases-operand : goal.decreases-operand
decreases-operand l = 3 * l.depth + 1

abbrev pub invariant-expression-loop-ats : goal.invariant-expression-loop-ats
invariant-expression-loop-ats l = steps.Inv l.records l.values l.decls l.i l.depth l.ats l.keys l.lengths l.count l.last

abbrev pub decreases-expression-loop-ats : goal.decreases-expression-loop-ats
decreases-expression-loop-ats l = length l.records - l.last.next
