-- `lines::bytes::put_byte` meets its contract: the byte stands behind what the buffer held.
-- Assumes nothing.
use borrow.Author.Rules.{rules}
use Rattle.lines.specs.Laws.Appended.{one_more}
use Rattle.lines.proofs.bytes.put_byte.Goals as goal

pub returns : goal.returns
returns c = search (rules, one_more)
