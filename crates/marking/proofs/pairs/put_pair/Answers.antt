-- `marking::pairs::put_pair` meets its contract.
use borrow.Author.Rules.{rules}
use Rattle.marking.specs.Laws.Holding.{pair_put}
use Rattle.marking.proofs.pairs.put_pair.Goals as goal

pub returns : goal.returns
returns c = search (rules, pair_put)
