-- `chaining::walks::start` meets its contract.
use borrow.Author.Rules.{rules}
use mathlib.Core.Path.{refl}
use Rattle.rules.specs.Calls.Why.{padded, reason_numbers}
use Rattle.chaining.specs.Laws.Walks.{start_none, start_one}
use Rattle.chaining.proofs.walks.start.Goals as goal

pub refused_body-body-requires : goal.refused_body-body-requires
unfolding padded reason_numbers
refused_body-body-requires c = search rules

pub ended-requires : goal.ended-requires
unfolding padded reason_numbers
ended-requires c = search rules

pub returns-then-m-body : goal.returns-then-m-body
unfolding padded reason_numbers
returns-then-m-body c = start_none c.refused_body-body.ensures c.if-m-body.true c.ended.ensures.0 c.ended.ensures.1 refl

pub bounds-numbers-0 : goal.bounds-numbers-0
unfolding padded reason_numbers
bounds-numbers-0 c = search rules

pub empty-requires : goal.empty-requires
unfolding padded reason_numbers
empty-requires c = search rules

pub returns : goal.returns
unfolding padded reason_numbers
returns c = start_one c.refused_body-body.ensures _ c.if-m-body.false refl c.empty.ensures refl
