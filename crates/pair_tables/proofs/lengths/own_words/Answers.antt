-- `pair_tables::lengths::own_words` meets its contract: what begins among the words of the first text is shared.
-- Assumes nothing.
use native.Mathlib.Omega.{arith}
use mathlib.Core.Path.{◌∙◌}
use Rattle.pair_tables.specs.Laws.Lengths.{adds_none, adds_own}
use Rattle.pair_tables.proofs.lengths.own_words.Goals as goal

pub returns-then-first-words0 : goal.returns-then-first-words0
returns-then-first-words0 c = ((λ v. adds_none _ c.if-first-words0.true), omega arith)

pub returns : goal.returns
returns c = ((λ v. c.words_in.ensures.0 v ∙ adds_own _ c.if-first-words0.false), c.words_in.ensures.1)
