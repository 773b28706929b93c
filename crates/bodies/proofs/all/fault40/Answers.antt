-- `bodies::all::fault40` meets its contract: what is found so far, with what the bodies left have, is the answer.
-- Assumes nothing.
use native.Mathlib.Omega.{arith}
use mathlib.Core.Path.{refl, ◌∙◌}
use Rattle.bodies.specs.Laws.All.{all_left, none_left, cell_room, here_view, one_less}
use Rattle.bodies.proofs.all.fault40.Goals as goal

pub loop-k-init : goal.loop-k-init
loop-k-init c = record { long = refl; left = λ text v. all_left v }

pub get16-name-requires : goal.get16-name-requires
get16-name-requires c = cell_room c.requires.1 c.loop-k-test.true

pub body_fault-requires : goal.body_fault-requires
body_fault-requires c = (_, here_view c.requires.1 c.loop-k-test.true c.loop-k.invariant.long c.get16-name.ensures)

pub loop-k-preserved : goal.loop-k-preserved
loop-k-preserved c =
    record {
      long = c.body_fault.ensures.long ∙ c.loop-k.invariant.long;
      left = λ text v.
          one_less v c.loop-k-test.true c.loop-k.invariant.long c.get16-name.ensures (c.loop-k.invariant.left text v) (c.body_fault.ensures.answer text) c.earlier-key.ensures;
    }

pub returns : goal.returns
returns c = record { answer = λ text v. none_left v (c.loop-k.invariant.left text v) (omega arith); long = c.loop-k.invariant.long }
