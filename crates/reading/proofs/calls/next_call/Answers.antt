-- `reading::calls::next_call` meets its contract: the activations that are left stay the same up to the next.
use borrow.Author.Rules.{rules}
use Rattle.reading.specs.Laws.Calls.{exhausted, ended, reached, shut, onward}
use Rattle.reading.proofs.calls.next_call.Goals as goal

pub returns-then-halts : goal.returns-then-halts
returns-then-halts c = search (rules, ended)

pub returns-then-activates : goal.returns-then-activates
returns-then-activates c = search (rules, reached)

pub returns-then-closes : goal.returns-then-closes
returns-then-closes c = search (rules, shut)

pub loop-i-preserved : goal.loop-i-preserved
loop-i-preserved c = search (rules, onward)

pub returns : goal.returns
returns c = search (rules, exhausted)
