-- `profiling::steps::jump` meets its contract.
use borrow.Author.Rules.{rules}
use Rattle.profiling.specs.Laws.Acting.{acting_kinds, jump_nowhere, jump_there, to_jump}
use Rattle.profiling.proofs.steps.jump.Goals as goal

pub kind_of-requires : goal.kind_of-requires
kind_of-requires c = search (rules, acting_kinds)

pub leave-requires : goal.leave-requires
leave-requires c = search (rules, to_jump)

pub returns-then-kind_of-eq-NAME : goal.returns-then-kind_of-eq-NAME
returns-then-kind_of-eq-NAME c = search (rules, jump_there)

pub returns : goal.returns
returns c = jump_nowhere c.requires c.kind_of.ensures c.if-kind_of-eq-NAME.false
