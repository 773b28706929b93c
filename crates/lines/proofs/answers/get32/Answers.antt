-- `lines::answers::get32` meets its contract: two cells of 16 bits are one of 32.
-- Assumes nothing.
use borrow.Author.Rules.{rules}
use Rattle.lines.proofs.Reports.{two_cells}
use Rattle.lines.proofs.answers.get32.Goals as goal

pub returns : goal.returns
returns c = search (rules, two_cells)
