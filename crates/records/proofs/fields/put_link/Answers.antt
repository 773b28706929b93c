-- `records::fields::put_link` meets its contract: the fourth cell of two bytes of a record.
-- Assumes nothing.
use borrow.Author.Rules.{rules}
use Rattle.records.specs.Laws.Kept.{link_put}
use Rattle.records.proofs.fields.put_link.Goals as goal

pub returns : goal.returns
returns c = search (rules, link_put)
