-- `reading::bits::is_empty` meets its contract.
use mathlib.Core.Bool.{false≢true}
use Rattle.reading.specs.Laws.Bits.{words_empty}
use Rattle.reading.proofs.bits.is_empty.Goals as goal

pub returns-then-s-ne0 : goal.returns-then-s-ne0
returns-then-s-ne0 c = λ e. absurd (false≢true e)

pub returns-then-s-ne0-2 : goal.returns-then-s-ne0-2
returns-then-s-ne0-2 c = λ e. absurd (false≢true e)

pub returns-then-s-ne0-3 : goal.returns-then-s-ne0-3
returns-then-s-ne0-3 c = λ e. absurd (false≢true e)

pub returns-then-s-ne0-4 : goal.returns-then-s-ne0-4
returns-then-s-ne0-4 c = λ e. absurd (false≢true e)

pub returns : goal.returns
returns c =
    λ e. words_empty _ c.if-s-ne0.false c.if-s-ne0-2.false
    c.if-s-ne0-3.false c.if-s-ne0-4.false
