-- `operands::accesses::subscripted` meets its contract: the word is outside, or its number is known.
-- Assumes nothing.
use borrow.Author.Rules.{rules}
use native.Mathlib.Omega.{arith}
use Rattle.operands.specs.Laws.Subscripts.{bits_view, bits_small, name_room, outside_answer, word_small, word_answer}
use Rattle.operands.proofs.accesses.subscripted.Goals as goal

pub left_word-requires : goal.left_word-requires
left_word-requires c = c.requires.room

pub right_word-requires : goal.right_word-requires
right_word-requires c = c.requires.room

pub place16_at-requires : goal.place16_at-requires
place16_at-requires c = search name_room

pub bits_size-requires : goal.bits_size-requires
bits_size-requires c = (c.requires.behind.values, bits_view c.requires.behind)

pub overflow_add-p : goal.overflow_add-p
overflow_add-p c = omega (arith, bits_small c.requires.behind c.bits_size.ensures)

pub in_word-requires : goal.in_word-requires
in_word-requires c = search (rules, word_small)

pub returns-in-None : goal.returns-in-None
returns-in-None c = λ v. search outside_answer

pub returns-in-Some : goal.returns-in-Some
returns-in-Some c = λ v. search word_answer
