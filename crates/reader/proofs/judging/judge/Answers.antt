-- `reader::judging::judge` meets its contract: the declarations stand where they are kept.
-- Assumes nothing.
use borrow.Author.Rules.{rules}
use Rattle.reader.specs.Laws.Judged.{declares_kept}
use Rattle.reader.proofs.judging.judge.Goals as goal

pub judge_bodies-requires : goal.judge_bodies-requires
judge_bodies-requires c = record { declares = declares_kept c.keep.ensures (search rules) c.requires.declares; in_bounds = search rules }
