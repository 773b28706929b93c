-- `racing::members::earliest` meets its contract.
use borrow.Author.Rules.{rules}
use native.Mathlib.Omega.{arith}
use Prim.Native.Nat.{◌-◌}
use Rattle.reading.specs.Laws.Reading.{kinded}
use Rattle.racing.specs.Laws.Members.{choose_starts, choose_none, its_end, choose_one, choose_on}
use Rattle.racing.proofs.members.earliest.Goals as goal

pub loop-i-init : goal.loop-i-init
loop-i-init c = choose_starts _ _ _ c.requires.0 c.requires.1.1 c.touched-own.ensures

pub returns-then-races : goal.returns-then-races
returns-then-races c =
    choose_one c.loop-i.invariant c.loop-i-test.true _ _ _ c.touched.ensures
    c.races.ensures c.if-races.true

pub end_of-i-requires : goal.end_of-i-requires
end_of-i-requires c = search (rules, kinded)

pub overflow_add-i : goal.overflow_add-i
overflow_add-i c =
    omega (
      arith,
      its_end c.loop-i.invariant c.loop-i-test.true c.end_of-i.result c.end_of-i.ensures.1,
      (kinded c.loop-i.invariant.leads.reading).few,
    )

pub loop-i-smaller : goal.loop-i-smaller
loop-i-smaller c =
    omega (
      arith,
      its_end c.loop-i.invariant c.loop-i-test.true c.end_of-i.result c.end_of-i.ensures.1,
      c.end_of-i.ensures.0,
    )

pub loop-i-preserved : goal.loop-i-preserved
loop-i-preserved c =
    choose_on c.loop-i.invariant c.loop-i-test.true _ _ _
    c.touched.ensures c.races.ensures c.end_of-i.result c.end_of-i.ensures.1 c.if-races.false

pub returns : goal.returns
returns c = search (rules, choose_none)
