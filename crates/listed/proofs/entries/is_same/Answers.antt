-- `listed::entries::is_same` meets its contract: the first difference decides.
-- Assumes nothing.
use Rattle.listed.specs.Named.{entry_of}
use Rattle.listed.specs.Laws.Entries.{other_place, other_word, value_decides}
use Rattle.listed.proofs.entries.is_same.Goals as goal

pub returns-then-a-b : goal.returns-then-a-b
returns-then-a-b c = let s = c.args in other_place (entry_of s.a) (entry_of s.b) c.if-a-b.true

pub returns-then-a-b-2 : goal.returns-then-a-b-2
returns-then-a-b-2 c =
    let s = c.args in
    other_word (entry_of s.a) (entry_of s.b) c.if-a-b.false c.if-a-b-2.true

pub returns : goal.returns
returns c =
    let s = c.args in
    value_decides (entry_of s.a) (entry_of s.b) c.if-a-b.false c.if-a-b-2.false
