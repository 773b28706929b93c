-- `accesses::lengths::how_many` meets its contract.
-- Assumes nothing.
use borrow.Author.Rules.{rules}
use Rattle.rules.specs.Declarations.{how_many}
use Rattle.accesses.proofs.lengths.how_many.Goals as goal

pub overflow_add-result : goal.overflow_add-result
unfolding how_many
overflow_add-result c = search rules

pub overflow_cast-result : goal.overflow_cast-result
unfolding how_many
overflow_cast-result c = search rules

pub returns-then-l-r : goal.returns-then-l-r
unfolding how_many
returns-then-l-r c = search rules

pub overflow_sub-result-2 : goal.overflow_sub-result-2
unfolding how_many
overflow_sub-result-2 c = search rules

pub overflow_add-result-2 : goal.overflow_add-result-2
unfolding how_many
overflow_add-result-2 c = search rules

pub overflow_cast-result-2 : goal.overflow_cast-result-2
unfolding how_many
overflow_cast-result-2 c = search rules

pub returns : goal.returns
unfolding how_many
returns c = search rules
