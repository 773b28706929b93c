-- `marking::frames::also` meets its contract.
use borrow.Author.Rules.{rules}
use mathlib.Core.Path.{refl}
use Rattle.marking.specs.Machine.{also}
use Rattle.marking.specs.Laws.Holding.{none_shown, outer_low, one_more_low, also_shown}
use Rattle.marking.proofs.frames.also.Goals as goal

pub returns-then-depth-eq0 : goal.returns-then-depth-eq0
returns-then-depth-eq0 c = none_shown (λ fs z. also fs _ _ z) (λ z. refl) (search rules) (search rules)

pub begin-requires : goal.begin-requires
begin-requires c = search (rules, outer_low, one_more_low)

pub returns : goal.returns
returns c = also_shown c.if-depth-eq0.false c.get16-outer.ensures c.get16-before.ensures _ c.begin.ensures
