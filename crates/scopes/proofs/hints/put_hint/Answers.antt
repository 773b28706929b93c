-- `scopes::hints::put_hint` meets its contract.
-- Assumes nothing.
use borrow.Author.Rules.{rules}
use Rattle.scopes.specs.Laws.Hints.{hinting}
use Rattle.scopes.proofs.hints.put_hint.Goals as goal

pub returns : goal.returns
returns c = search (rules, hinting)
