-- `reader::parsing::place_of` meets its contract.
-- Assumes nothing.
use borrow.Author.Tests.{lt-ltb, le-ltb}
use Rattle.reader.specs.Parsed.{place_by}
use Rattle.reader.proofs.parsing.place_of.Goals as goal

pub returns-then-k-n : goal.returns-then-k-n
unfolding place_by
returns-then-k-n c = rw (place_by, lt-ltb _ _ c.if-k-n.true) c.place_at.ensures

pub returns : goal.returns
unfolding place_by
returns c = rw (place_by, le-ltb _ _ c.if-k-n.false)
