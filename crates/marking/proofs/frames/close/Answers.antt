-- `marking::frames::close` meets its contract.
use borrow.Author.Rules.{rules}
use mathlib.Core.Path.{refl}
use Rattle.marking.specs.Machine.{closed}
use Rattle.marking.specs.Laws.Holding.{none_shown, close_shown}
use Rattle.marking.proofs.frames.close.Goals as goal

pub returns-then-depth-eq0 : goal.returns-then-depth-eq0
returns-then-depth-eq0 c = none_shown closed (λ z. refl) (search rules) (search rules)

pub returns : goal.returns
returns c = search (rules, close_shown)
