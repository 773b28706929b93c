-- `turning::ways::back` meets its contract: activations are left until one goes on.
-- Assumes nothing.
use native.Mathlib.Omega.{arith}
use mathlib.Core.Path.{refl}
use Rattle.turning.specs.Laws.Ways.{top_within, top_linked, behind_few, none_left, one_left, out_of_all, gone_on}
use Rattle.turning.proofs.ways.back.Goals as goal

pub loop-top-init : goal.loop-top-init
loop-top-init c = (refl, λ v. none_left v)

pub offset_bounds-stack-top : goal.offset_bounds-stack-top
offset_bounds-stack-top c = omega (arith, top_within (c.loop-top.invariant.1 c.requires).rest c.loop-top-test.true)

pub bounds-stack-top : goal.bounds-stack-top
bounds-stack-top c = omega (arith, top_within (c.loop-top.invariant.1 c.requires).rest c.loop-top-test.true)

pub link_at-behind-requires : goal.link_at-behind-requires
link_at-behind-requires c = (top_linked (c.loop-top.invariant.1 c.requires).rest c.loop-top-test.true).within

pub pass-requires : goal.pass-requires
pass-requires c =
    let w = (c.loop-top.invariant.1 c.requires).rest in
    (w.long, (w.list, (w.sound, behind_few w c.loop-top-test.true c.link_at-behind.ensures c.if-behind-ne0.true)))

pub returns-then-behind-ne0 : goal.returns-then-behind-ne0
returns-then-behind-ne0 c = λ v. gone_on v (c.loop-top.invariant.1 v) c.loop-top-test.true c.link_at-behind.ensures c.if-behind-ne0.true c.pass.ensures

pub leave-requires : goal.leave-requires
leave-requires c = let w = (c.loop-top.invariant.1 c.requires).rest in (w.long, (w.list, w.sound))

pub loop-top-preserved : goal.loop-top-preserved
loop-top-preserved c = (omega (arith, c.leave.auto.room, c.loop-top.invariant.0), λ v. one_left v (c.loop-top.invariant.1 v) c.loop-top-test.true c.link_at-behind.ensures c.if-behind-ne0.false c.leave.ensures)

pub returns : goal.returns
returns c = λ v. out_of_all v (c.loop-top.invariant.1 v) (λ h. omega (arith, c.loop-top-test.false, h))
