-- `nesting::labels::flag_of` meets its contract: from the label that the hint leads to outwards.
use borrow.Author.Rules.{rules}
use native.Mathlib.Omega.{arith}
use Rattle.nesting.specs.Laws.Labels.{seek_room, both_named, seek_found, seek_on, seek_none}
use Rattle.nesting.proofs.labels.flag_of.Goals as goal

pub overflow_mul-j : goal.overflow_mul-j
overflow_mul-j c = omega (arith, seek_room c.loop-j.invariant)

pub overflow_add-j : goal.overflow_add-j
overflow_add-j c = omega (arith, seek_room c.loop-j.invariant)

pub get16-label-requires : goal.get16-label-requires
get16-label-requires c = omega (arith, seek_room c.loop-j.invariant)

pub same_spelling-requires : goal.same_spelling-requires
same_spelling-requires c = search (rules, both_named)

pub overflow_mul-j-then-same_spelling : goal.overflow_mul-j-then-same_spelling
overflow_mul-j-then-same_spelling c = omega (arith, seek_room c.loop-j.invariant)

pub overflow_add-j-then-same_spelling : goal.overflow_add-j-then-same_spelling
overflow_add-j-then-same_spelling c = omega (arith, seek_room c.loop-j.invariant)

pub get16-requires : goal.get16-requires
get16-requires c = omega (arith, seek_room c.loop-j.invariant, c.loop-j-test.true)

pub returns-then-same_spelling : goal.returns-then-same_spelling
returns-then-same_spelling c = seek_found c.loop-j.invariant c.loop-j-test.true c.get16-label.ensures c.same_spelling.ensures c.if-same_spelling.true c.get16.ensures

pub loop-j-preserved : goal.loop-j-preserved
loop-j-preserved c = seek_on c.loop-j.invariant c.loop-j-test.true c.get16-label.ensures c.same_spelling.ensures c.if-same_spelling.false

pub returns : goal.returns
returns c = seek_none c.loop-j.invariant c.loop-j-test.false
