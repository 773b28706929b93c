-- `declare::faults::fault_at` meets its contract, test by test.
-- Assumes nothing.
use borrow.Author.Rules.{rules}
use native.Mathlib.Omega.{arith}
use Rattle.declare.proofs.Choosing.{chosen_room, chosen_view}
use Rattle.declare.proofs.Judging.{small_view}
use Rattle.declare.proofs.Numbering.{twice_declared, too_large, one_too_many, too_many_words, mapped_wrong, faultless}
use Rattle.declare.proofs.faults.fault_at.Goals as goal

pub get16-p-requires : goal.get16-p-requires
get16-p-requires c = search (rules, chosen_room)

pub declared_before-requires : goal.declared_before-requires
declared_before-requires c = (_, _, c.requires.chosen)

pub returns-then-declared_before : goal.returns-then-declared_before
returns-then-declared_before c = search (rules, twice_declared)

pub too_large-requires : goal.too_large-requires
too_large-requires c = search (rules, chosen_view)

pub returns-then-too_large : goal.returns-then-too_large
returns-then-too_large c = search (rules, too_large)

pub returns-then-k-ge-MOST_DECLARATIONS : goal.returns-then-k-ge-MOST_DECLARATIONS
returns-then-k-ge-MOST_DECLARATIONS c =
    one_too_many _ _ _ _ _ _ _ c.get16-p.ensures c.declared_before.ensures c.if-declared_before.false
    c.too_large.ensures c.if-too_large.false (omega (arith, c.if-k-ge-MOST_DECLARATIONS.true))

pub words_in-requires : goal.words_in-requires
words_in-requires c =
    small_view c.too_large.ensures c.if-too_large.false
    (chosen_view c.requires.chosen c.get16-p.ensures)

pub overflow_add-words : goal.overflow_add-words
overflow_add-words c = omega (arith, c.words_in.ensures.1, c.requires.words_le_most_words)

pub returns-then-words-words_in-gt-MOST_WORDS : goal.returns-then-words-words_in-gt-MOST_WORDS
returns-then-words-words_in-gt-MOST_WORDS c =
    too_many_words _ _ _ _ _ _ _ c.get16-p.ensures c.declared_before.ensures
    c.if-declared_before.false c.too_large.ensures c.if-too_large.false (omega (arith, c.if-k-ge-MOST_DECLARATIONS.false))
    c.words_in.ensures.0 (omega (arith, c.if-words-words_in-gt-MOST_WORDS.true))

pub returns-then-bad_mapping : goal.returns-then-bad_mapping
returns-then-bad_mapping c =
    mapped_wrong _ _ _ _ _ _ _ c.get16-p.ensures
    c.declared_before.ensures c.if-declared_before.false
    c.too_large.ensures c.if-too_large.false (omega (arith, c.if-k-ge-MOST_DECLARATIONS.false)) c.words_in.ensures.0
    (omega (arith, c.if-words-words_in-gt-MOST_WORDS.false)) c.bad_mapping.ensures c.if-bad_mapping.true

pub returns : goal.returns
returns c =
    faultless _ _ _ _ _ _ _ c.get16-p.ensures
    c.declared_before.ensures c.if-declared_before.false
    c.too_large.ensures c.if-too_large.false (omega (arith, c.if-k-ge-MOST_DECLARATIONS.false)) c.words_in.ensures.0
    (omega (arith, c.if-words-words_in-gt-MOST_WORDS.false)) c.bad_mapping.ensures c.if-bad_mapping.false
