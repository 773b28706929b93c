-- `ways::labels::push` meets its contract: an entry behind those of the labels before it, and its hint.
-- Assumes nothing.
use borrow.Author.Rules.{rules}
use Rattle.ways.specs.Laws.Stack.{pushed}
use Rattle.ways.proofs.labels.push.Goals as goal

pub returns : goal.returns
returns c = search (rules, pushed)
