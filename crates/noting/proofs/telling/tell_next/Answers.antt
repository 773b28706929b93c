-- `noting::telling::tell_next` meets its contract: the floor is where the part is to stand.
-- Assumes nothing.
use native.Mathlib.Omega.{arith}
use Rattle.listed.specs.Named.{entry_of}
use Rattle.noting.specs.Laws.Telling.{next_never, next_at}
use Rattle.noting.proofs.telling.tell_next.Goals as goal

pub returns-then-i : goal.returns-then-i
returns-then-i c =
    next_never c.requires (entry_of c.args.x) c.get16-i.ensures c.if-i.true

pub returns : goal.returns
returns c =
    next_at c.requires (entry_of c.args.x) c.get16-i.ensures (omega arith) c.fit.ensures
