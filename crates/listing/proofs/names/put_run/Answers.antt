-- `listing::names::put_run` meets its contract: what is appended and what is left make the run.
-- Assumes nothing.
use borrow.Author.Rules.{rules}
use Rattle.listing.proofs.Spelling.{run_starts, run_room, run_less, run_done}
use Rattle.listing.proofs.names.put_run.Goals as goal

pub loop-k-init : goal.loop-k-init
loop-k-init c = search (rules, run_starts)

pub put_byte-next-requires : goal.put_byte-next-requires
put_byte-next-requires c = search (rules, run_room)

pub loop-k-preserved : goal.loop-k-preserved
loop-k-preserved c = search (rules, run_less)

pub returns : goal.returns
returns c = search (rules, run_done)
