-- `ways::prefixes::turn` meets its contract.
-- Assumes nothing.
use native.Mathlib.Omega.{arith}
use Rattle.ways.specs.Laws.Firsts.{first_fits}
use Rattle.ways.specs.Laws.Prefixes.{turn_within, turn_starts, turn_put}
use Rattle.ways.proofs.prefixes.turn.Goals as goal

pub overflow_add-at : goal.overflow_add-at
overflow_add-at c = omega (arith, (turn_within c.requires.1).1)

pub first_of-first-requires : goal.first_of-first-requires
first_of-first-requires c = (c.requires.0, turn_starts c.requires.1)

pub put_link-requires : goal.put_link-requires
put_link-requires c = let v = c.requires.1 in ((turn_within v).0, omega (arith, (first_fits (turn_starts v) (c.first_of-first.ensures _ (turn_starts v))).1))

pub returns : goal.returns
returns c = λ g v. turn_put v (c.first_of-first.ensures g (turn_starts v)) c.put_link.ensures
