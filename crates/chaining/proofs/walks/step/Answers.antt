-- `chaining::walks::step` meets its contract.
use borrow.Author.Rules.{rules}
use mathlib.Core.Path.{refl}
use native.Mathlib.Omega.{arith}
use Rattle.chaining.specs.Laws.Walks.{step_over, step_closed, step_none, step_on}
use Rattle.chaining.proofs.walks.step.Goals as goal

pub returns-in_default : goal.returns-in_default
returns-in_default c = λ place l x. step_over _ c.in_default.is x

pub with_body-more-requires : goal.with_body-more-requires
with_body-more-requires c = (c.requires.0, (c.requires.1.1 _ c.in-Some.is, (search rules, search rules)))

pub has-requires : goal.has-requires
has-requires c = omega (arith, c.requires.1.1 _ c.in-Some.is, c.requires.0.ready.few)

pub returns-then-has : goal.returns-then-has
returns-then-has c = λ place l x. step_closed _ _ _ l x c.in-Some.is c.requires.1.0 c.with_body-more.ensures c.has.ensures c.if-has.true c.ended.ensures.0 c.ended.ensures.1

pub first_of-next-requires : goal.first_of-next-requires
first_of-next-requires c = (c.requires.0, c.requires.1.1 _ c.in-Some.is)

pub returns-then-m-next : goal.returns-then-m-next
returns-then-m-next c = λ place l x. step_none _ _ _ l x c.in-Some.is c.requires.1.0 c.with_body-more.ensures c.has.ensures c.if-has.false c.first_of-next.ensures c.if-m-next.true c.ended-then-m-next.ensures.0 c.ended-then-m-next.ensures.1

pub only-requires : goal.only-requires
only-requires c = omega (arith, c.requires.1.1 _ c.in-Some.is, c.requires.0.ready.few)

pub returns : goal.returns
returns c = λ place l x. step_on _ _ _ l x c.in-Some.is c.requires.1.0 c.with_body-more.ensures c.has.ensures c.if-has.false c.first_of-next.ensures _ _ c.if-m-next.false refl refl c.only.ensures c.union.ensures
