-- `resuming::mains::main_number` meets its contract: none of the declarations passed is MAIN's.
-- Assumes nothing.
use borrow.Author.Rules.{rules}
use mathlib.Core.Path.{sym, ◌∙◌}
use Rattle.reading.specs.Laws.Meanings.{declared_view}
use Rattle.resuming.specs.Laws.Mains.{none_searched, cell_room, name_room, searched, search_on, main_exists}
use Rattle.resuming.proofs.mains.main_number.Goals as goal

pub loop-k-init : goal.loop-k-init
loop-k-init c = none_searched _ _ _ _

pub get16-p-requires : goal.get16-p-requires
get16-p-requires c = search (rules, cell_room)

pub main_of-requires : goal.main_of-requires
main_of-requires c = declared_view c.requires c.loop-k-test.true c.get16-p.ensures

pub inside_at-requires : goal.inside_at-requires
inside_at-requires c = name_room c.loop-k.invariant c.loop-k-test.true c.get16-p.ensures c.requires

pub returns-then-is_some : goal.returns-then-is_some
returns-then-is_some c = λ v e. searched c.loop-k.invariant c.loop-k-test.true c.get16-p.ensures c.main_of.result c.main_of.ensures (sym c.is_some.ensures ∙ c.if-is_some.true) c.inside_at.ensures v

pub loop-k-preserved : goal.loop-k-preserved
loop-k-preserved c = search_on c.loop-k.invariant c.loop-k-test.true c.get16-p.ensures c.main_of.result c.main_of.ensures (sym c.is_some.ensures ∙ c.if-is_some.false)

pub returns : goal.returns
returns c = λ v e. absurd (main_exists c.loop-k.invariant c.loop-k-test.false v e)
