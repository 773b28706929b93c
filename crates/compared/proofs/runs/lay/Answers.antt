-- `compared::runs::lay` meets its contract: the cells are written behind the carriers.
-- Assumes nothing.
use borrow.Author.Rules.{rules}
use Rattle.compared.specs.Laws.Laid.{laid}
use Rattle.compared.proofs.runs.lay.Goals as goal

pub returns : goal.returns
returns c =
    laid _ _ _ _ _ _ c.requires.carriers_len_bound.0 c.requires.carriers_len_bound.1 c.copy.ensures (search rules) c.mark.ensures
