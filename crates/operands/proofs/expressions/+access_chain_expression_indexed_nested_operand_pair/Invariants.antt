-- The cycle of calls {access, chain, expression, indexed, nested, operand, pair}. A subscript or a parenthesis is one level deeper. At a level each calls
-- one below it: an expression a pair, a pair a chain, these an operand, an operand an access or what is nested; and NOTs the operand behind them.
-- Assumes nothing.
use Prim.Native.Nat.{◌+◌, ◌-◌, ◌*◌}
use lib.ListN.{length}
use Rattle.operands.specs.Laws.Operands.{not_first}
use Rattle.operands.specs.Expressions.{ChainAt}
use Rattle.operands.specs.Laws.Going.{Going}
use Rattle.operands.proofs.expressions.+access_chain_expression_indexed_nested_operand_pair.Given as goal

abbrev pub decreases-access : goal.decreases-access
decreases-access l = l.depth * 16 + 1

abbrev pub decreases-chain : goal.decreases-chain
decreases-chain l = l.depth * 16 + 6

abbrev pub decreases-expression : goal.decreases-expression
decreases-expression l = l.depth * 16 + 8

abbrev pub decreases-indexed : goal.decreases-indexed
decreases-indexed l = l.depth * 16

abbrev pub decreases-nested : goal.decreases-nested
decreases-nested l = l.depth * 16 + 2 + 2 * not_first l.records.now l.i

abbrev pub decreases-operand : goal.decreases-operand
decreases-operand l = l.depth * 16 + 3 + 2 * not_first l.records.now l.i

abbrev pub decreases-pair : goal.decreases-pair
decreases-pair l = l.depth * 16 + 7

abbrev pub invariant-chain-loop-pending : goal.invariant-chain-loop-pending
invariant-chain-loop-pending l = (v : ChainAt l.records l.values l.carriers l.op l.fn.left.number l.fn.left.bits l.fn.right.number l.fn.right.bits l.fn.right.next l.depth) → Going v l.pending l.last.count l.last.number l.last.bits l.at

abbrev pub decreases-chain-loop-pending : goal.decreases-chain-loop-pending
decreases-chain-loop-pending l = length l.records - l.at
