-- `walking::walks::walk` meets its contract.
use borrow.Author.Rules.{rules}
use Rattle.walking.specs.Laws.Going.{goes, going_acts, ended, goes_on, over}
use Rattle.walking.proofs.walks.walk.Goals as goal

pub loop-i-init : goal.loop-i-init
loop-i-init c = search (rules, goes)

pub step-s-requires : goal.step-s-requires
step-s-requires c = search (rules, going_acts)

pub returns-then-s-eq0 : goal.returns-then-s-eq0
returns-then-s-eq0 c = search (rules, ended)

pub loop-i-preserved : goal.loop-i-preserved
loop-i-preserved c = search (rules, goes_on)

pub returns : goal.returns
returns c = search (rules, over)
