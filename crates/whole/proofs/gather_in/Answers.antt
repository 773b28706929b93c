-- `whole::gather_in` meets its contract.
use mathlib.Core.Path.{sym}
use native.Mathlib.Omega.{arith}
use lib.ListN.{length-take}
use lib.Seq.{length-take-le}
use Rattle.room.specs.Whole.{labels_from}
use Rattle.whole.specs.Laws.Whole.{gathered_in}
use Rattle.whole.proofs.gather_in.Goals as goal

pub slice_bounds-gather_all-end-2 : goal.slice_bounds-gather_all-end-2
slice_bounds-gather_all-end-2 c = sym (length-take-le labels_from c.args.room.now (omega (arith, c.requires.1.0)))

pub gather_all-requires : goal.gather_all-requires
gather_all-requires c = (
  c.requires.0,
  (
    omega
        (arith, length-take labels_from c.args.room.now, c.requires.1.0, c.requires.0.ready.few),
    c.requires.1.1,
  ),
)

pub returns : goal.returns
returns c =
    gathered_in c.args.room.now _
    c.requires.1.0 c.gather_all.auto.memo
    c.gather_all.ensures
