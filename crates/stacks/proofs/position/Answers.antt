-- `stacks::position` meets its contract: what the index has is believed only where it leads to a stacked name with the spelling.
-- Assumes nothing.
use borrow.Author.Rules.{rules}
use native.Mathlib.Omega.{arith}
use Rattle.stacks.specs.Laws.Index.{spelling_small, stacked_room, found_top, found_here, found_other}
use Rattle.stacks.proofs.position.Goals as goal

pub overflow_add-spelling : goal.overflow_add-spelling
overflow_add-spelling c = omega (arith, spelling_small c.requires)

pub get16-k-requires : goal.get16-k-requires
get16-k-requires c = omega (arith, spelling_small c.requires)

pub returns-then-count-k : goal.returns-then-count-k
returns-then-count-k c = found_top c.requires c.link_at-spelling.ensures c.get16-k.ensures (omega arith)

pub link_at-requires : goal.link_at-requires
link_at-requires c = search (rules, stacked_room)

pub returns-then-link_at-spelling : goal.returns-then-link_at-spelling
returns-then-link_at-spelling c = search (rules, found_here)

pub returns : goal.returns
returns c = search (rules, found_other)
