-- `scopes::scopes::next_group` meets its contract.
use borrow.Author.Rules.{rules}
use Rattle.scopes.specs.Laws.Frames.{followed_more, followed_one}
use Rattle.scopes.proofs.scopes.next_group.Goals as goal

pub returns-then-several : goal.returns-then-several
returns-then-several c = search (rules, followed_more)

pub returns : goal.returns
returns c = search (rules, followed_one)
