-- `declare::faults::declared_before` meets its contract: the outer name first, then those before it.
-- Assumes nothing.
use borrow.Author.Rules.{rules}
use Rattle.declare.proofs.Choosing.{chosen_room, chosen_two, chosen_record, outer_has_it, another_has_it}
use Rattle.declare.proofs.faults.declared_before.Goals as goal

pub get16-p-requires : goal.get16-p-requires
get16-p-requires c = search (rules, chosen_room)

pub same_word-requires : goal.same_word-requires
same_word-requires c = search (rules, chosen_two)

pub inside_at-requires : goal.inside_at-requires
inside_at-requires c = search (rules, chosen_record)

pub returns-then-same_word : goal.returns-then-same_word
returns-then-same_word c = search (rules, outer_has_it)

pub returns-else-same_word : goal.returns-else-same_word
returns-else-same_word c = search (rules, another_has_it)
