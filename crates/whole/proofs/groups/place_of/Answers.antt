-- `whole::groups::place_of` meets its contract.
use borrow.Author.Rules.{rules}
use Rattle.whole.specs.Laws.GroupKeys.{place_there, place_past, place_bound}
use Rattle.whole.proofs.groups.place_of.Goals as goal

pub returns-then-i-n : goal.returns-then-i-n
returns-then-i-n c = (search (rules, place_bound), search (rules, place_there))

pub returns : goal.returns
returns c = (search rules, search (rules, place_past))
