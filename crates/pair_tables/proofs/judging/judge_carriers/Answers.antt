-- `pair_tables::judging::judge_carriers` meets its contract: by the total of words, by the length of the carriers, then word by word.
-- Assumes nothing.
use native.Mathlib.Omega.{arith}
use Rattle.table.specs.Laws.Kth.{table_length}
use Rattle.pair_tables.specs.Laws.Judging.{over_32, other_60, to_carry, carries_by}
use Rattle.pair_tables.proofs.judging.judge_carriers.Goals as goal

pub returns-then-total-gt-MOST_WORDS : goal.returns-then-total-gt-MOST_WORDS
returns-then-total-gt-MOST_WORDS c = λ key v w j. over_32 j _ c.if-total-gt-MOST_WORDS.true

pub returns-then-carriers-total : goal.returns-then-carriers-total
returns-then-carriers-total c = λ key v w j. other_60 j _ c.if-total-gt-MOST_WORDS.false c.if-carriers-total.true

pub words-words0-requires : goal.words-words0-requires
words-words0-requires c = (c.requires.by_index.1.text, c.requires.by_index.1.tokens, c.requires.by_index.1.description, c.requires.by_index.1.ready)

pub start_joint-requires : goal.start_joint-requires
start_joint-requires c = (
  c.requires.by_index.1,
  c.requires.by_index.2,
  to_carry c.requires.by_index.3 _ c.if-total-gt-MOST_WORDS.false c.if-carriers-total.false
      (c.words-words0.ensures.0 c.requires.by_index.1.text c.requires.by_index.1.tokens c.requires.by_index.1.description c.requires.by_index.1.ready) (omega (arith, table_length c.requires.by_index.2.ready, c.requires.m1_in_bounds)),
)

pub returns : goal.returns
returns c =
    λ key v w j. carries_by j _ c.if-total-gt-MOST_WORDS.false c.if-carriers-total.false
    (c.start_joint.ensures v w
    (to_carry j _ c.if-total-gt-MOST_WORDS.false c.if-carriers-total.false (c.words-words0.ensures.0 v.text v.tokens v.description v.ready)
    (omega (arith, table_length w.ready, c.requires.m1_in_bounds))))
