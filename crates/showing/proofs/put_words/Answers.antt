-- `showing::put_words` meets its contract: what is read is ready to be listed.
-- Assumes nothing.
use native.Mathlib.Omega.{arith}
use Rattle.showing.proofs.Reading.{ready_there}
use Rattle.showing.proofs.put_words.Goals as goal

pub put_listing-requires : goal.put_listing-requires
put_listing-requires c = record { ready = ready_there _ _ _ _ c.in-Ok.is c.read.ensures; most_words_in_bounds = (omega arith, omega arith) }
