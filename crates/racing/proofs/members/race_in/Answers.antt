-- `racing::members::race_in` meets its contract.
use borrow.Author.Rules.{rules}
use native.Mathlib.Omega.{arith}
use Prim.Native.Nat.{◌-◌}
use Rattle.reading.specs.Laws.Reading.{kinded}
use Rattle.whole.specs.Laws.GroupKeys.{end_inside}
use Rattle.racing.specs.Laws.Members.{search_starts, search_leads, search_found, search_over, search_on}
use Rattle.racing.proofs.members.race_in.Goals as goal

pub loop-m-init : goal.loop-m-init
loop-m-init c = search_starts c.requires.0 c.requires.1.1

pub earlier_at-earlier-requires : goal.earlier_at-earlier-requires
earlier_at-earlier-requires c = (search_leads c.loop-m.invariant, search rules)

pub returns-then-earlier-at : goal.returns-then-earlier-at
returns-then-earlier-at c = search_found c.loop-m.invariant c.earlier_at-earlier.ensures c.if-earlier-at.true

pub end_of-end-requires : goal.end_of-end-requires
end_of-end-requires c = search (rules, kinded)

pub kind_of-requires : goal.kind_of-requires
kind_of-requires c = search (rules, kinded)

pub returns-then-kind_of-ne-SEMI : goal.returns-then-kind_of-ne-SEMI
returns-then-kind_of-ne-SEMI c =
    search_over c.loop-m.invariant c.earlier_at-earlier.ensures c.if-earlier-at.false
    c.end_of-end.result c.end_of-end.ensures.1 c.kind_of.ensures c.if-kind_of-ne-SEMI.true

pub overflow_add-i : goal.overflow_add-i
overflow_add-i c =
    omega (
      arith,
      end_inside c.end_of-end.result (kinded c.loop-m.invariant.reading) c.kind_of.ensures c.if-kind_of-ne-SEMI.false,
      (kinded c.loop-m.invariant.reading).few,
    )

pub loop-m-smaller : goal.loop-m-smaller
loop-m-smaller c =
    omega (
      arith,
      end_inside c.end_of-end.result (kinded c.loop-m.invariant.reading) c.kind_of.ensures c.if-kind_of-ne-SEMI.false,
      c.end_of-end.ensures.0,
    )

pub loop-m-preserved : goal.loop-m-preserved
loop-m-preserved c =
    search_on c.loop-m.invariant c.earlier_at-earlier.ensures c.if-earlier-at.false
    c.end_of-end.result c.end_of-end.ensures.1 c.kind_of.ensures c.end_of-end.ensures.0 c.if-kind_of-ne-SEMI.false
