-- `bounding::mains::longest` meets its contract.
use borrow.Author.Rules.{rules}
use Rattle.bounding.specs.Laws.Mains.{to_fill}
use Rattle.bounding.proofs.mains.longest.Goals as goal

pub main_count-requires : goal.main_count-requires
main_count-requires c = to_fill c.requires.0 c.requires.1 (search rules) c.blank.ensures
