-- `reader::judging::judge_bodies` meets its contract: the least fault of the 40s is the refusal, else the whole is judged.
-- Assumes nothing.
use borrow.Author.Rules.{rules}
use Rattle.reader.specs.Laws.Judged.{to_judge_bodies, refused_40, lawful_40}
use Rattle.reader.proofs.judging.judge_bodies.Goals as goal

pub fault40-key-requires : goal.fault40-key-requires
fault40-key-requires c = (_, to_judge_bodies c.requires.declares (search rules))

pub returns-then-key : goal.returns-then-key
returns-then-key c = refused_40 c.requires.declares c.requires.in_bounds (c.fault40-key.ensures.answer _) c.if-key.true c.fault_of.ensures

pub judge_whole-requires : goal.judge_whole-requires
judge_whole-requires c = record { lawful = lawful_40 c.requires.declares c.requires.in_bounds (c.fault40-key.ensures.answer _) c.if-key.false; in_bounds = search rules }
