-- `gathering::gathering::note_carriers` meets its contract.
use borrow.Author.Rules.{rules}
use Rattle.gathering.specs.Laws.Filling.{note_more}
use Rattle.gathering.proofs.gathering.note_carriers.Goals as goal

pub loop-k-preserved : goal.loop-k-preserved
loop-k-preserved c = search (rules, note_more)
