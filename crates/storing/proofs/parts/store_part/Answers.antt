-- `storing::parts::store_part` meets its contract.
-- Assumes nothing.
use borrow.Author.Rules.{rules}
use Rattle.storing.specs.Laws.Parts.{part_put}
use Rattle.storing.proofs.parts.store_part.Goals as goal

pub returns : goal.returns
returns c = record { put = search part_put; place = search rules; word = search rules; value = search rules }
