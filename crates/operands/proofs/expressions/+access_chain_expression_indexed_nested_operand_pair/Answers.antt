-- The cycle of calls {access, chain, expression, indexed, nested, operand, pair}. A subscript or a parenthesis is one level deeper. At a level each calls
-- one below it: an expression a pair, a pair a chain, these an operand, an operand an access or what is nested; and NOTs the operand behind them.
-- Assumes nothing.
use borrow.Author.Rules.{rules}
use native.Mathlib.Omega.{arith}
use mathlib.Core.Path.{refl, sym, ◌∙◌}
use Prim.Native.Nat.{◌+◌, ◌-◌}
use Rattle.operands.specs.Laws.Accesses as accesses
use Rattle.operands.specs.Laws.Operands as operands
use Rattle.operands.specs.Laws.Operands.{not_first_small}
use Rattle.operands.specs.Laws.Expressions as expressions
use Rattle.operands.specs.Laws.Going as goings
use Rattle.operands.specs.Laws.Passed.{passed}
use Rattle.operands.specs.Scene.{ExpressionAnswer, OperandAnswer, AccessAnswer}
use Rattle.operands.specs.Expressions.{PairAnswer, ChainAnswer}
use Rattle.operands.proofs.expressions.+access_chain_expression_indexed_nested_operand_pair.Goals as goal

pub access-overflow_add-i : goal.access-overflow_add-i
access-overflow_add-i t c = omega (arith, accesses.access_small c.requires)

pub access-kind_at-requires : goal.access-kind_at-requires
access-kind_at-requires t c = search accesses.second_room

pub access-overflow_add-i-then-kind_at-ne-LBRA : goal.access-overflow_add-i-then-kind_at-ne-LBRA
access-overflow_add-i-then-kind_at-ne-LBRA t c = omega (arith, accesses.access_small c.requires)

pub access-overflow_add-i-then-kind_at-ne-LBRA-2 : goal.access-overflow_add-i-then-kind_at-ne-LBRA-2
access-overflow_add-i-then-kind_at-ne-LBRA-2 t c = omega (arith, accesses.access_small c.requires)

pub access-bits_size-requires : goal.access-bits_size-requires
access-bits_size-requires t c = accesses.plain_bits c.requires c.kind_at.ensures c.if-kind_at-ne-LBRA.true

pub access-overflow_add-i-then-kind_at-ne-LBRA-3 : goal.access-overflow_add-i-then-kind_at-ne-LBRA-3
access-overflow_add-i-then-kind_at-ne-LBRA-3 t c = omega (arith, accesses.plain_small c.requires c.kind_at.ensures c.if-kind_at-ne-LBRA.true c.bits_size.ensures)

pub access-in_word-requires : goal.access-in_word-requires
access-in_word-requires t c = search (rules, accesses.cell_room)

pub access-returns-then-kind_at-ne-LBRA : goal.access-returns-then-kind_at-ne-LBRA
access-returns-then-kind_at-ne-LBRA t c = λ v. search accesses.plain_answer

pub access-indexed-requires : goal.access-indexed-requires
access-indexed-requires t c = (omega (arith, c.decreases), (c.requires, sym c.kind_at.ensures ∙ c.if-kind_at-ne-LBRA.false))

pub access-returns : goal.access-returns
access-returns t c = λ v. c.indexed.ensures v

pub chain-loop-pending-init : goal.chain-loop-pending-init
chain-loop-pending-init t c = λ v. goings.going v refl

pub chain-kind_at-kind-requires : goal.chain-kind_at-kind-requires
chain-kind_at-kind-requires t c = goings.going_room c.loop-pending.invariant c.requires

pub chain-settle-settled-requires : goal.chain-settle-settled-requires
chain-settle-settled-requires t c = search goings.settle_at

pub chain-returns-then-tight-eq0 : goal.chain-returns-then-tight-eq0
chain-returns-then-tight-eq0 t c = λ v. goings.going_ends c.loop-pending.invariant v c.kind_at-kind.ensures c.tightness_of-tight.ensures c.if-tight-eq0.true c.settle-settled.ensures

pub chain-wait-requires : goal.chain-wait-requires
chain-wait-requires t c = omega (arith, goings.slot c.loop-pending.invariant c.requires c.kind_at-kind.ensures c.tightness_of-tight.ensures c.if-tight-eq0.false c.settle-settled.ensures)

pub chain-overflow_add-at : goal.chain-overflow_add-at
chain-overflow_add-at t c = omega (arith, goings.going_small c.loop-pending.invariant c.requires)

pub chain-operand-requires : goal.chain-operand-requires
chain-operand-requires t c = (omega (arith, not_first_small c.args.records.now (c.loop-pending.at + 1), c.decreases), goings.next_operand c.loop-pending.invariant c.requires c.kind_at-kind.ensures c.tightness_of-tight.ensures c.if-tight-eq0.false)

pub chain-returns-in_err-more : goal.chain-returns-in_err-more
chain-returns-in_err-more t c = λ v. passed (ChainAnswer v) _ c.from_residual.ensures.1 (goings.going_faults c.loop-pending.invariant v c.kind_at-kind.ensures c.tightness_of-tight.ensures c.if-tight-eq0.false c.settle-settled.ensures c.operand.ensures c.in_err-more.was)

pub chain-overflow_add-last : goal.chain-overflow_add-last
chain-overflow_add-last t c = omega (arith, goings.slot c.loop-pending.invariant c.requires c.kind_at-kind.ensures c.tightness_of-tight.ensures c.if-tight-eq0.false c.settle-settled.ensures)

pub chain-loop-pending-smaller : goal.chain-loop-pending-smaller
chain-loop-pending-smaller t c = goings.going_falls c.loop-pending.invariant c.requires c.kind_at-kind.ensures c.tightness_of-tight.ensures c.if-tight-eq0.false c.operand.ensures c.in_ok-more.was

pub chain-loop-pending-preserved : goal.chain-loop-pending-preserved
chain-loop-pending-preserved t c = λ v. goings.going_turn c.loop-pending.invariant v c.kind_at-kind.ensures c.tightness_of-tight.ensures c.if-tight-eq0.false c.settle-settled.ensures c.wait.ensures c.operand.ensures c.in_ok-more.was

pub expression-operand-requires : goal.expression-operand-requires
expression-operand-requires t c = (omega (arith, not_first_small c.args.records.now c.args.i, c.decreases), search expressions.first_operand)

pub expression-kind_at-requires : goal.expression-kind_at-requires
expression-kind_at-requires t c = expressions.first_room c.requires c.operand.ensures c.in_ok-first.was

pub expression-returns-then-tightness_of-eq0 : goal.expression-returns-then-tightness_of-eq0
expression-returns-then-tightness_of-eq0 t c = λ v. expressions.expression_single v c.operand.ensures c.in_ok-first.was c.kind_at.ensures c.tightness_of.ensures c.if-tightness_of-eq0.true

pub expression-pair-requires : goal.expression-pair-requires
expression-pair-requires t c = (omega (arith, c.decreases), expressions.pair_at c.requires c.operand.ensures c.in_ok-first.was c.kind_at.ensures c.tightness_of.ensures c.if-tightness_of-eq0.false)

pub expression-returns-in_err-first : goal.expression-returns-in_err-first
expression-returns-in_err-first t c = λ v. passed (ExpressionAnswer v) _ c.from_residual.ensures.1 (expressions.expression_faults v c.operand.ensures c.in_err-first.was)

pub expression-returns : goal.expression-returns
expression-returns t c = λ v. expressions.pair_answers v c.operand.ensures c.in_ok-first.was c.kind_at.ensures c.tightness_of.ensures c.if-tightness_of-eq0.false _ c.pair.ensures

pub indexed-overflow_add-i : goal.indexed-overflow_add-i
indexed-overflow_add-i t c = omega (arith, accesses.access_small c.requires.0)

pub indexed-overflow_sub-depth : goal.indexed-overflow_sub-depth
indexed-overflow_sub-depth t c = search accesses.index_deep

pub indexed-expression-requires : goal.indexed-expression-requires
indexed-expression-requires t c = (omega (arith, accesses.index_deep c.requires.0 c.requires.1, c.decreases), search accesses.index_view)

pub indexed-overflow_add-index : goal.indexed-overflow_add-index
indexed-overflow_add-index t c = omega (arith, accesses.index_small c.requires.0 c.requires.1 c.expression.ensures c.in_ok-index.was)

pub indexed-subscripted-requires : goal.indexed-subscripted-requires
indexed-subscripted-requires t c = accesses.index_inside c.requires.0 c.requires.1 c.expression.ensures c.in_ok-index.was

pub indexed-returns-in_err-index : goal.indexed-returns-in_err-index
indexed-returns-in_err-index t c = λ v. passed (AccessAnswer v) _ c.from_residual.ensures.1 (accesses.index_faults v c.requires.1 c.expression.ensures c.in_err-index.was)

pub indexed-returns : goal.indexed-returns
indexed-returns t c = λ v. accesses.index_answer v c.requires.1 c.expression.ensures c.in_ok-index.was _ c.subscripted.ensures

pub nested-kind_at-requires : goal.nested-kind_at-requires
nested-kind_at-requires t c = search operands.nested_room

pub nested-overflow_add-i : goal.nested-overflow_add-i
nested-overflow_add-i t c = omega (arith, operands.nested_small c.requires)

pub nested-overflow_sub-depth : goal.nested-overflow_sub-depth
nested-overflow_sub-depth t c = search operands.group_deep

pub nested-expression-requires : goal.nested-expression-requires
nested-expression-requires t c = (omega (arith, operands.group_deep c.requires c.kind_at.ensures c.if-kind_at-eq-LPAR.true, c.decreases), search operands.group_view)

pub nested-closed_by-requires : goal.nested-closed_by-requires
nested-closed_by-requires t c = operands.group_closable c.requires c.kind_at.ensures c.if-kind_at-eq-LPAR.true c.expression.ensures c.in_ok-inside.was

pub nested-returns-in_err-inside : goal.nested-returns-in_err-inside
nested-returns-in_err-inside t c = λ v. passed (OperandAnswer v.view) _ c.from_residual.ensures.1 (operands.group_faults v c.kind_at.ensures c.if-kind_at-eq-LPAR.true c.expression.ensures c.in_err-inside.was)

pub nested-returns-then-kind_at-eq-LPAR : goal.nested-returns-then-kind_at-eq-LPAR
nested-returns-then-kind_at-eq-LPAR t c = λ v. operands.group_answer v c.kind_at.ensures c.if-kind_at-eq-LPAR.true c.expression.ensures c.in_ok-inside.was c.closed_by.ensures

pub nested-behind_nots-at-requires : goal.nested-behind_nots-at-requires
nested-behind_nots-at-requires t c = search operands.nested_in

pub nested-operand-requires : goal.nested-operand-requires
nested-operand-requires t c = (omega (arith, operands.nots_fall c.requires c.kind_at.ensures c.if-kind_at-eq-LPAR.false c.behind_nots-at.ensures, c.decreases), search operands.nots_view)

pub nested-overflow_sub-at : goal.nested-overflow_sub-at
nested-overflow_sub-at t c = search operands.nots_before

pub nested-negated-requires : goal.nested-negated-requires
nested-negated-requires t c = operands.nots_invertible c.requires c.kind_at.ensures c.if-kind_at-eq-LPAR.false c.behind_nots-at.ensures c.operand.ensures c.in_ok-bare.was

pub nested-returns-in_err-bare : goal.nested-returns-in_err-bare
nested-returns-in_err-bare t c = λ v. passed (OperandAnswer v.view) _ c.from_residual-in_err-bare.ensures.1 (operands.nots_faults v c.kind_at.ensures c.if-kind_at-eq-LPAR.false c.behind_nots-at.ensures c.operand.ensures c.in_err-bare.was)

pub nested-returns : goal.nested-returns
nested-returns t c = λ v. operands.nots_answer v c.kind_at.ensures c.if-kind_at-eq-LPAR.false c.behind_nots-at.ensures c.operand.ensures c.in_ok-bare.was c.negated.ensures

pub operand-kind_at-kind-requires : goal.operand-kind_at-kind-requires
operand-kind_at-kind-requires t c = search operands.operand_room

pub operand-access-requires : goal.operand-access-requires
operand-access-requires t c = (omega (arith, c.decreases), search operands.name_view)

pub operand-returns-in_err-at : goal.operand-returns-in_err-at
operand-returns-in_err-at t c = λ v. passed (OperandAnswer v) _ c.from_residual.ensures.1 (operands.name_faults v c.kind_at-kind.ensures c.if-kind-eq-NAME.true c.access.ensures c.in_err-at.was)

pub operand-read-requires : goal.operand-read-requires
operand-read-requires t c = operands.name_readable c.requires c.kind_at-kind.ensures c.if-kind-eq-NAME.true c.access.ensures c.in_ok-at.was

pub operand-returns-then-kind-eq-NAME : goal.operand-returns-then-kind-eq-NAME
operand-returns-then-kind-eq-NAME t c = λ v. operands.name_answer v c.kind_at-kind.ensures c.if-kind-eq-NAME.true c.access.ensures c.in_ok-at.was c.read.ensures

pub operand-value_at-requires : goal.operand-value_at-requires
operand-value_at-requires t c = search operands.value_room

pub operand-size_at-requires : goal.operand-size_at-requires
operand-size_at-requires t c = search operands.operand_room

pub operand-overflow_add-result : goal.operand-overflow_add-result
operand-overflow_add-result t c = omega (arith, operands.operand_small c.requires)

pub operand-returns-then-kind-eq-CONST : goal.operand-returns-then-kind-eq-CONST
operand-returns-then-kind-eq-CONST t c = λ v. search operands.constant_answer

pub operand-nested-requires : goal.operand-nested-requires
operand-nested-requires t c = (omega (arith, c.decreases), search operands.nested_at)

pub operand-returns : goal.operand-returns
operand-returns t c = λ v. search operands.nested_answers

pub pair-kind_at-op-requires : goal.pair-kind_at-op-requires
pair-kind_at-op-requires t c = search expressions.operator_room

pub pair-overflow_add-left : goal.pair-overflow_add-left
pair-overflow_add-left t c = omega (arith, expressions.operator_small c.requires)

pub pair-operand-requires : goal.pair-operand-requires
pair-operand-requires t c = (omega (arith, not_first_small c.args.records.now (c.args.left.next + 1), c.decreases), search expressions.second_operand)

pub pair-kind_at-requires : goal.pair-kind_at-requires
pair-kind_at-requires t c = expressions.second_room c.requires c.operand.ensures c.in_ok-right.was

pub pair-operate-requires : goal.pair-operate-requires
pair-operate-requires t c = expressions.pair_operands c.requires c.operand.ensures c.in_ok-right.was c.kind_at-op.ensures c.kind_at.ensures c.tightness_of.ensures c.if-tightness_of-eq0.true

pub pair-operate_bits-requires : goal.pair-operate_bits-requires
pair-operate_bits-requires t c = expressions.pair_lengths c.requires c.operand.ensures c.in_ok-right.was c.kind_at-op.ensures c.kind_at.ensures c.tightness_of.ensures c.if-tightness_of-eq0.true

pub pair-returns-then-tightness_of-eq0 : goal.pair-returns-then-tightness_of-eq0
pair-returns-then-tightness_of-eq0 t c = λ v. expressions.pair_answer v c.operand.ensures c.in_ok-right.was c.kind_at-op.ensures c.kind_at.ensures c.tightness_of.ensures c.if-tightness_of-eq0.true c.operate.ensures c.operate_bits.ensures

pub pair-chain-requires : goal.pair-chain-requires
pair-chain-requires t c = (omega (arith, c.decreases), expressions.chain_at c.requires c.operand.ensures c.in_ok-right.was c.kind_at-op.ensures)

pub pair-returns-in_err-right : goal.pair-returns-in_err-right
pair-returns-in_err-right t c = λ v. passed (PairAnswer v) _ c.from_residual.ensures.1 (expressions.pair_faults v c.operand.ensures c.in_err-right.was)

pub pair-returns : goal.pair-returns
pair-returns t c = λ v. expressions.chain_answers v c.operand.ensures c.in_ok-right.was c.kind_at-op.ensures _ c.chain.ensures
