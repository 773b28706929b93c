-- `scopes::scopes::push_frame` meets its contract.
use borrow.Author.Rules.{rules}
use Rattle.scopes.specs.Laws.Frames.{frame_pushed}
use Rattle.scopes.proofs.scopes.push_frame.Goals as goal

pub returns : goal.returns
returns c = search (rules, frame_pushed)
