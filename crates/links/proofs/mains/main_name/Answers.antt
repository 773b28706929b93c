-- `links::mains::main_name` meets its contract: the first declaration with MAIN before its name.
-- Assumes nothing.
use mathlib.Core.Path.{sym, ◌∙◌}
use Rattle.links.specs.Laws.Mains.{start_searching, main_exists, cell_room, view_at, main_here, main_later}
use Rattle.links.proofs.mains.main_name.Goals as goal

pub loop-k-init : goal.loop-k-init
loop-k-init c = start_searching _ _ _

pub get16-name-requires : goal.get16-name-requires
get16-name-requires c = cell_room c.loop-k.invariant c.loop-k-test.true c.requires

pub main_of-requires : goal.main_of-requires
main_of-requires c = (c.requires.values, view_at c.loop-k.invariant c.loop-k-test.true c.get16-name.ensures c.requires)

pub returns-then-is_some : goal.returns-then-is_some
returns-then-is_some c =
    main_here c.loop-k.invariant c.loop-k-test.true c.get16-name.ensures c.main_of.result
    (λ v. c.main_of.ensures v.values (view_at c.loop-k.invariant c.loop-k-test.true c.get16-name.ensures v)) (sym c.is_some.ensures ∙ c.if-is_some.true)

pub loop-k-preserved : goal.loop-k-preserved
loop-k-preserved c =
    main_later c.loop-k.invariant c.loop-k-test.true c.get16-name.ensures c.main_of.result
    (λ v. c.main_of.ensures v.values (view_at c.loop-k.invariant c.loop-k-test.true c.get16-name.ensures v)) (sym c.is_some.ensures ∙ c.if-is_some.false)

pub returns : goal.returns
returns c = λ v. absurd (main_exists c.loop-k.invariant c.loop-k-test.false v)
