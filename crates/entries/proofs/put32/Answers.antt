-- `entries::put32` meets its contract: a number of 32 bits is written as two of 16.
-- Assumes nothing.
use borrow.Author.Rules.{rules}
use Rattle.entries.specs.Laws.Entries.{halves_put}
use Rattle.entries.proofs.put32.Goals as goal

pub returns : goal.returns
returns c = search (rules, halves_put)
