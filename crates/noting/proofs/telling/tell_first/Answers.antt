-- `noting::telling::tell_first` meets its contract: where the word is found decides.
-- Assumes nothing.
use native.Mathlib.Omega.{arith}
use Rattle.listed.specs.Named.{entry_of}
use Rattle.noting.specs.Laws.Telling.{first_missing, first_early, first_in_time}
use Rattle.noting.proofs.telling.tell_first.Goals as goal

pub returns-then-count-i : goal.returns-then-count-i
returns-then-count-i c = first_missing (entry_of c.args.x) c.seek-i.ensures (omega arith) c.put16.ensures

pub returns-then-i-get16 : goal.returns-then-i-get16
returns-then-i-get16 c =
    first_early (entry_of c.args.x) c.seek-i.ensures (omega arith) c.get16.ensures c.if-i-get16.true (c.spoil.ensures _ c.seek-i.ensures.stands.sound)

pub returns : goal.returns
returns c =
    first_in_time (entry_of c.args.x) c.seek-i.ensures (omega arith) c.get16.ensures (omega arith) c.fit.ensures
