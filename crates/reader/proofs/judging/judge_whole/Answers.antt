-- `reader::judging::judge_whole` meets its contract: the least fault of the 50s is the refusal.
-- Assumes nothing.
use borrow.Author.Rules.{rules}
use Rattle.reader.specs.Laws.Judged.{to_judge_whole, refused_50, accepted_50}
use Rattle.reader.proofs.judging.judge_whole.Goals as goal

pub fault50-key-requires : goal.fault50-key-requires
fault50-key-requires c = (to_judge_whole c.requires.lawful, search rules)

pub returns-then-key : goal.returns-then-key
returns-then-key c = refused_50 c.requires.lawful c.fault50-key.ensures c.if-key.true c.number_fault_of.ensures

pub returns : goal.returns
returns c = search (rules, accepted_50)
