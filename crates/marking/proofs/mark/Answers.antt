-- `marking::mark` meets its contract.
use borrow.Author.Rules.{rules}
use Rattle.reading.specs.Laws.Reading.{kinded}
use Rattle.marking.specs.Laws.Whole.{all_marked}
use Rattle.marking.proofs.mark.Goals as goal

pub walk-requires : goal.walk-requires
walk-requires c = search (rules, kinded)

pub returns : goal.returns
returns c = λ decls m v. all_marked _ (search rules) v
