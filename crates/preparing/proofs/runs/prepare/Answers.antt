-- `preparing::runs::prepare` meets its contract: places, links and the start of MAIN, one after the other.
-- Assumes nothing.
use borrow.Author.Rules.{rules}
use native.Mathlib.Omega.{arith}
use Rattle.preparing.specs.Laws.Prepared.{to_place, to_link, to_start, prepared}
use Rattle.preparing.proofs.runs.prepare.Goals as goal

pub place-requires : goal.place-requires
place-requires c =
    (to_place c.requires.by_index.1, omega (arith, c.requires.by_index.1.lawful.declares.ready.few, c.requires.in_bounds.0))

pub link-requires : goal.link-requires
link-requires c =
    (to_link c.requires.by_index.1 (c.place.ensures (to_place c.requires.by_index.1)), search rules)

pub main_start-requires : goal.main_start-requires
main_start-requires c =
    let placed = c.place.ensures (to_place c.requires.by_index.1) in
    to_start c.requires.by_index.1 placed (c.link.ensures _ _ _ placed.ready c.requires.by_index.1.lawful.declares.spelled)

pub returns : goal.returns
returns c = λ words v.
    let placed = c.place.ensures (to_place v) in
    let links = c.link.ensures _ _ _ placed.ready v.lawful.declares.spelled in
    prepared v placed links c.requires.in_bounds.1 (c.main_start.ensures (to_start v placed links))
