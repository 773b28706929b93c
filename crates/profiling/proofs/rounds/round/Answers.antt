-- `profiling::rounds::round` meets its contract.
use borrow.Author.Rules.{rules}
use Rattle.profiling.specs.Laws.Levels.{parts_none, part_at, parts_more, last_room, round_done}
use Rattle.profiling.proofs.rounds.round.Goals as goal

pub loop-k-init : goal.loop-k-init
loop-k-init c = search (rules, parts_none)

pub declaration-requires : goal.declaration-requires
declaration-requires c = search (rules, part_at)

pub loop-k-preserved : goal.loop-k-preserved
loop-k-preserved c = search (rules, parts_more)

pub put_known-requires : goal.put_known-requires
put_known-requires c = search (rules, last_room)

pub returns : goal.returns
returns c = search (rules, round_done)
