-- `spelling::spell_name` meets its contract: the name is spelled as the node that the search finds, or is a node itself.
-- Assumes nothing.
use borrow.Author.Rules.{rules}
use Rattle.spelling.proofs.Steps.{end_inside, as_node, as_new}
use Rattle.spelling.proofs.spell_name.Goals as goal

pub get16-x-requires : goal.get16-x-requires
get16-x-requires c = search (rules, end_inside)

pub returns-then-x : goal.returns-then-x
returns-then-x c = let r = as_node c.search-c.ensures c.get16-x.ensures c.if-x.true c.put_link.ensures in record { kept = r.0; spelled_to = r.1 }

pub put16-requires : goal.put16-requires
put16-requires c = search (rules, end_inside)

pub returns : goal.returns
returns c = let r = as_new c.search-c.ensures c.get16-x.ensures c.requires.room_size_in_bounds c.if-x.false c.put16.ensures c.put_link-2.ensures in record { kept = r.0; spelled_to = r.1 }
