-- `scopes::scopes::opened` meets its contract.
use borrow.Author.Rules.{rules}
use Rattle.scopes.specs.Laws.Frames.{opened_more, opened_one}
use Rattle.scopes.proofs.scopes.opened.Goals as goal

pub returns-then-several : goal.returns-then-several
returns-then-several c = search (rules, opened_more)

pub returns : goal.returns
returns c = search (rules, opened_one)
