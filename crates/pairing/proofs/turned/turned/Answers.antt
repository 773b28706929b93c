-- `pairing::turned::turned` meets its contract: both sides from their tables, and what their turns came to.
-- Assumes nothing.
use native.Mathlib.Omega.{arith}
use Rattle.pairing.specs.Laws.Turned.{numbered, sides, own_room, turns_ended}
use Rattle.pairing.proofs.turned.turned.Goals as goal

pub begin-begun-requires : goal.begin-begun-requires
begin-begun-requires c =
    record { by_index = (_, c.requires.by_index.0, c.requires.by_index.1, c.requires.by_index.2); in_bounds = (c.requires.in_bounds.0, (c.requires.in_bounds.1.0, (c.requires.in_bounds.1.1.0, (c.requires.in_bounds.1.1.1.0, numbered c.requires.by_index.1 c.requires.by_index.2 c.requires.by_index.3 c.requires.in_bounds.1.1.1.1)))) }

pub take-last-requires : goal.take-last-requires
take-last-requires c =
    let g = c.begin-begun.ensures _ c.requires.by_index.0 c.requires.by_index.1 c.requires.by_index.2 in record { sides = sides c.requires.by_index.1 c.requires.by_index.2 c.requires.by_index.3 g (omega (arith, c.requires.in_bounds.0, c.begin-begun.auto.room0)); w1_in_bounds = (omega (arith, own_room c.requires.by_index.1 c.requires.by_index.2 c.requires.by_index.3 g (omega (arith, c.requires.in_bounds.0, c.begin-begun.auto.room0)), c.requires.in_bounds.1.0, c.begin-begun.auto.room1), c.requires.in_bounds.1.1.1.1) }

pub returns : goal.returns
returns c =
    turns_ended c.requires.by_index.1 c.requires.by_index.2 c.requires.by_index.3 (c.take-last.ensures (sides c.requires.by_index.1 c.requires.by_index.2 c.requires.by_index.3 (c.begin-begun.ensures _ c.requires.by_index.0 c.requires.by_index.1 c.requires.by_index.2) (omega (arith, c.requires.in_bounds.0, c.begin-begun.auto.room0))))
    c.take-last.auto.carriers (λ i. omega (arith, c.slice_known-15-1.given i)) c.last_answer.ensures
