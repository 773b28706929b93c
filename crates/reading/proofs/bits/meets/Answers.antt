-- `reading::bits::meets` meets its contract: a word in which both have a bit shows the number, and without one there is none.
use borrow.Author.Rules.{rules}
use mathlib.Core.Path.{sym}
use Rattle.reading.specs.Laws.Bits.{settled, words_meet, words_apart}
use Rattle.reading.proofs.bits.meets.Goals as goal

pub returns-then-common : goal.returns-then-common
returns-then-common c = λ xs ys p q. sym (words_meet _ _ xs ys p q 0 (search rules) (settled _ _ c.if-common.true c.common.ensures))

pub returns-then-common-2 : goal.returns-then-common-2
returns-then-common-2 c = λ xs ys p q. sym (words_meet _ _ xs ys p q 1 (search rules) (settled _ _ c.if-common-2.true c.common-2.ensures))

pub returns-then-common-3 : goal.returns-then-common-3
returns-then-common-3 c = λ xs ys p q. sym (words_meet _ _ xs ys p q 2 (search rules) (settled _ _ c.if-common-3.true c.common-3.ensures))

pub returns-then-common-4 : goal.returns-then-common-4
returns-then-common-4 c = λ xs ys p q. sym (words_meet _ _ xs ys p q 3 (search rules) (settled _ _ c.if-common-4.true c.common-4.ensures))

pub returns : goal.returns
returns c =
    λ xs ys p q. sym (words_apart _ _ xs ys p q (settled _ _
    c.if-common.false
    c.common.ensures)
    (settled _ _ c.if-common-2.false
    c.common-2.ensures)
    (settled _ _ c.if-common-3.false c.common-3.ensures)
    (settled _ _ c.if-common-4.false c.common-4.ensures))
