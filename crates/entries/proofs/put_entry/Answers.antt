-- `entries::put_entry` meets its contract: the entry is written cell by cell.
-- Assumes nothing.
use borrow.Author.Rules.{rules}
use Rattle.entries.specs.Laws.Entries.{cells_put_entry}
use Rattle.entries.proofs.put_entry.Goals as goal

pub returns : goal.returns
returns c = search (rules, cells_put_entry)
