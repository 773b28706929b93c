-- `lent::memory::unread` meets its contract: memory first, then the text's length.
-- Assumes nothing.
use Rattle.std.proofs.lemmas.Bool.{not_from_false, not_from_true}
use borrow.Author.Rules.{rules}
use Rattle.lent.specs.Measured.{short_memory, long_text, none}
use Rattle.lent.specs.Laws.Measured.{enough, not_enough}
use Rattle.lent.proofs.memory.unread.Goals as goal

pub returns-then-not-is_enough : goal.returns-then-not-is_enough
returns-then-not-is_enough c = short_memory (not_enough _ c.is_enough.result c.is_enough.ensures (not_from_false _ c.if-not-is_enough.true))

pub returns-then-text-gt-LONGEST_TEXT : goal.returns-then-text-gt-LONGEST_TEXT
returns-then-text-gt-LONGEST_TEXT c = long_text (enough _ c.is_enough.result c.is_enough.ensures (not_from_true _ c.if-not-is_enough.false)) c.if-text-gt-LONGEST_TEXT.true

pub returns : goal.returns
returns c = none (enough _ c.is_enough.result c.is_enough.ensures (not_from_true _ c.if-not-is_enough.false)) (search rules)
