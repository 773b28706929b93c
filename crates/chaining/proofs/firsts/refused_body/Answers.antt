-- `chaining::firsts::refused_body` meets its contract.
use borrow.Author.Rules.{rules}
use native.Mathlib.Omega.{arith}
use Rattle.chaining.specs.Laws.Firsts.{seek_first, sought_all, seek_elsewhere, seek_short, sought}
use Rattle.chaining.proofs.firsts.refused_body.Goals.{else-name_place-place-via-then-name_place-place+else-has, else-name_place-place-via-else-name_place-place}
use Rattle.chaining.proofs.firsts.refused_body.Goals as goal

pub loop-k-init : goal.loop-k-init
loop-k-init c = search (rules, seek_first)

pub has-requires : goal.has-requires
has-requires c = omega (arith, c.loop-k.invariant.reading.ready.few)

pub returns-then-has : goal.returns-then-has
returns-then-has c = sought c.loop-k.invariant _ c.requires.1 c.loop-k-test.true c.name_place.ensures.1 c.if-name_place-place.true c.has.ensures c.if-has.true

pub loop-k-preserved : goal.loop-k-preserved
loop-k-preserved c =
    elim c.else-name_place-place.branch [
      | else-name_place-place-via-then-name_place-place+else-has w ↦ seek_short c.loop-k.invariant _ c.requires.1 c.loop-k-test.true c.name_place.ensures.1 w.if-name_place-place.true w.has.ensures w.if-has.false
      | else-name_place-place-via-else-name_place-place w ↦ seek_elsewhere c.loop-k.invariant _ c.requires.1 c.loop-k-test.true c.name_place.ensures.1 w.if-name_place-place.false
    ]

pub returns : goal.returns
returns c = search (rules, sought_all)
