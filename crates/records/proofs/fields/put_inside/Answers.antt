-- `records::fields::put_inside` meets its contract: the third cell of two bytes of a record.
-- Assumes nothing.
use borrow.Author.Rules.{rules}
use Rattle.records.specs.Laws.Kept.{inside_put}
use Rattle.records.proofs.fields.put_inside.Goals as goal

pub returns : goal.returns
returns c = search (rules, inside_put)
