-- `counting::frames::close` meets its contract.
use borrow.Author.Rules.{rules}
use Rattle.counting.specs.Laws.Holding.{close_none, close_shown}
use Rattle.counting.proofs.frames.close.Goals as goal

pub returns-then-depth-eq0 : goal.returns-then-depth-eq0
returns-then-depth-eq0 c = search (rules, close_none)

pub returns : goal.returns
returns c = search (rules, close_shown)
