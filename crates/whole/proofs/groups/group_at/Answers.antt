-- `whole::groups::group_at` meets its contract.
use borrow.Author.Rules.{rules}
use native.Mathlib.Omega.{arith}
use mathlib.Core.Path.{◌∙◌}
use Rattle.reading.specs.Laws.Reading.{kinded}
use Rattle.whole.specs.Laws.GroupKeys.{compare_none, one_key, one_member, several_key, several_members, end_inside, next_member}
use Rattle.whole.proofs.groups.group_at.Goals as goal

pub loop-before-init : goal.loop-before-init
loop-before-init c =
    compare_none _ c.requires.0 c.requires.1.1 c.nothing-before.ensures.0
    c.nothing-before.ensures.1.0

pub end_of-end-requires : goal.end_of-end-requires
end_of-end-requires c = search (rules, kinded)

pub kind_of-requires : goal.kind_of-requires
kind_of-requires c = search (rules, kinded)

pub returns-then-i-from : goal.returns-then-i-from
returns-then-i-from c = (
  one_key c.loop-before.invariant c.end_of-end.result
      (record { gathered = c.passed-member.ensures.0; place = _; place_is = c.place_of-place.ensures.1; own = _; own_is = c.member_key.ensures; least = c.earlier-key.ensures; ends = λ v. c.end_of-end.ensures.1 v ∙ c.passed-member.ensures.1.same v; kind = c.kind_of.ensures }) c.if-kind_of-ne-SEMI.true c.if-i-from.true,
  one_member c.loop-before.invariant c.end_of-end.result
      (record { gathered = c.passed-member.ensures.0; place = _; place_is = c.place_of-place.ensures.1; own = _; own_is = c.member_key.ensures; least = c.earlier-key.ensures; ends = λ v. c.end_of-end.ensures.1 v ∙ c.passed-member.ensures.1.same v; kind = c.kind_of.ensures }) c.if-kind_of-ne-SEMI.true c.if-i-from.true,
)

pub returns-then-kind_of-ne-SEMI : goal.returns-then-kind_of-ne-SEMI
returns-then-kind_of-ne-SEMI c = (
  several_key c.loop-before.invariant c.end_of-end.result
      (record { gathered = c.passed-member.ensures.0; place = _; place_is = c.place_of-place.ensures.1; own = _; own_is = c.member_key.ensures; least = c.earlier-key.ensures; ends = λ v. c.end_of-end.ensures.1 v ∙ c.passed-member.ensures.1.same v; kind = c.kind_of.ensures }) c.if-kind_of-ne-SEMI.true c.if-i-from.false,
  several_members c.loop-before.invariant c.end_of-end.result
      (record { gathered = c.passed-member.ensures.0; place = _; place_is = c.place_of-place.ensures.1; own = _; own_is = c.member_key.ensures; least = c.earlier-key.ensures; ends = λ v. c.end_of-end.ensures.1 v ∙ c.passed-member.ensures.1.same v; kind = c.kind_of.ensures }) c.if-i-from.false,
)

pub overflow_add-i : goal.overflow_add-i
overflow_add-i c =
    omega (
      arith,
      end_inside c.end_of-end.result
          (kinded c.loop-before.invariant.reading) c.kind_of.ensures
          c.if-kind_of-ne-SEMI.false,
      (kinded c.loop-before.invariant.reading).few,
    )

pub loop-before-smaller : goal.loop-before-smaller
loop-before-smaller c =
    omega (
      arith,
      end_inside c.end_of-end.result
          (kinded c.loop-before.invariant.reading) c.kind_of.ensures
          c.if-kind_of-ne-SEMI.false,
      c.end_of-end.ensures.0,
      c.passed-member.ensures.1.past,
    )

pub loop-before-preserved : goal.loop-before-preserved
loop-before-preserved c =
    next_member c.loop-before.invariant c.end_of-end.result
    (record { gathered = c.passed-member.ensures.0; place = _; place_is = c.place_of-place.ensures.1; own = _; own_is = c.member_key.ensures; least = c.earlier-key.ensures; ends = λ v. c.end_of-end.ensures.1 v ∙ c.passed-member.ensures.1.same v; kind = c.kind_of.ensures }) c.if-kind_of-ne-SEMI.false c.joined-before.ensures.0 c.joined-before.ensures.1.0
