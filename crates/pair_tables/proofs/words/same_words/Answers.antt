-- `pair_tables::words::same_words` meets its contract: words of one size are compared where they stand in their texts.
-- Assumes nothing.
use Rattle.pair_tables.specs.Laws.Words.{other_size, runs_inside, same_runs}
use Rattle.pair_tables.proofs.words.same_words.Goals as goal

pub returns-then-n-m : goal.returns-then-n-m
returns-then-n-m c = λ v w. other_size c.size_at-n.ensures c.size_at-m.ensures v w c.if-n-m.true

pub same_runs-requires : goal.same_runs-requires
same_runs-requires c =
    runs_inside c.size_at-n.ensures c.size_at-m.ensures c.requires.0 c.requires.1 c.if-n-m.false c.place_at.ensures
    c.place_at-2.ensures

pub returns : goal.returns
returns c =
    λ v w. same_runs c.size_at-n.ensures c.size_at-m.ensures v w c.if-n-m.false c.place_at.ensures
    c.place_at-2.ensures c.same_runs.ensures
