-- `pairing::answers::refused_answer` meets its contract, by the number and the side.
-- Assumes nothing.
use Rattle.pairing.specs.Laws.Numbers.{bad_told, told_first, told_second}
use Rattle.pairing.proofs.answers.refused_answer.Goals as goal

pub returns-then-number-eq81 : goal.returns-then-number-eq81
returns-then-number-eq81 c = bad_told _ _ c.bad_turn.ensures c.if-number-eq81.true

pub refusal-requires : goal.refusal-requires
refusal-requires c = c.requires c.if-number-eq81.false

pub returns-then-side-eq0 : goal.returns-then-side-eq0
returns-then-side-eq0 c = told_first _ _ c.refusal.ensures c.with_side.ensures c.if-side-eq0.true

pub refusal-requires-2 : goal.refusal-requires-2
refusal-requires-2 c = c.requires c.if-number-eq81.false

pub returns : goal.returns
returns c = told_second _ _ c.refusal-2.ensures c.with_side-2.ensures c.if-side-eq0.false
