-- `spelling::nodes::clear_children` meets its contract: two cells are written, side by side.
-- Assumes nothing.
use borrow.Author.Rules.{rules}
use Rattle.spelling.specs.Laws.Cells.{opened}
use Rattle.spelling.proofs.nodes.clear_children.Goals as goal

pub returns : goal.returns
returns c = search (rules, opened)
