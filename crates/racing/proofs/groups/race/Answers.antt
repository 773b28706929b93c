-- `racing::groups::race` meets its contract.
use borrow.Author.Rules.{rules}
use native.Mathlib.Omega.{arith}
use mathlib.Core.Path.{sym, ◌∙◌}
use Rattle.reading.specs.Laws.Reading.{kinded}
use Rattle.racing.specs.Laws.Groups.{look_starts, look_found, look_past, look_other, look_over}
use Rattle.racing.proofs.groups.race.Goals.{then-opens+else-is_some, else-opens}
use Rattle.racing.proofs.groups.race.Goals as goal

pub loop-i-init : goal.loop-i-init
loop-i-init c = look_starts c.requires.0 c.requires.1.1

pub kind_at-requires : goal.kind_at-requires
kind_at-requires c = omega (arith, c.loop-i-test.true, (kinded c.loop-i.invariant.reading).room)

pub overflow_add-i : goal.overflow_add-i
overflow_add-i c = omega (arith, c.loop-i-test.true, (kinded c.loop-i.invariant.reading).few)

pub returns-then-is_some : goal.returns-then-is_some
returns-then-is_some c =
    look_found c.loop-i.invariant c.loop-i-test.true c.kind_at.ensures c.opens.ensures c.if-opens.true
    c.race_in-found.result c.race_in-found.ensures (sym c.is_some.ensures ∙ c.if-is_some.true)

pub loop-i-preserved : goal.loop-i-preserved
loop-i-preserved c =
    elim c.if-opens.branch [
      | then-opens+else-is_some w ↦
          look_past c.loop-i.invariant c.loop-i-test.true c.kind_at.ensures c.opens.ensures w.if-opens.true
          w.race_in-found.result w.race_in-found.ensures (sym w.is_some.ensures ∙ w.if-is_some.false)
      | else-opens w ↦ look_other c.loop-i.invariant c.loop-i-test.true c.kind_at.ensures c.opens.ensures w.if-opens.false
    ]

pub returns : goal.returns
returns c = search (rules, look_over)
