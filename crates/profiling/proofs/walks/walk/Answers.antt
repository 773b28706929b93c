-- `profiling::walks::walk` meets its contract.
use borrow.Author.Rules.{rules}
use Rattle.profiling.specs.Laws.Going.{to_begin, goes, going_acts, stands_after, ended, goes_on, going_stands, over}
use Rattle.profiling.proofs.walks.walk.Goals as goal

pub begin-s-requires : goal.begin-s-requires
begin-s-requires c = search (rules, to_begin)

pub loop-i-init : goal.loop-i-init
loop-i-init c = search (rules, goes)

pub step-s-requires : goal.step-s-requires
step-s-requires c = search (rules, going_acts)

pub tell-requires : goal.tell-requires
tell-requires c = search (rules, stands_after)

pub returns-then-s-eq0 : goal.returns-then-s-eq0
returns-then-s-eq0 c = search (rules, ended)

pub loop-i-preserved : goal.loop-i-preserved
loop-i-preserved c = search (rules, goes_on)

pub tell-requires-2 : goal.tell-requires-2
tell-requires-2 c = search (rules, going_stands)

pub returns : goal.returns
returns c = search (rules, over)
