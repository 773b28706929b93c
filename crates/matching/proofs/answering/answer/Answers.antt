-- `matching::answering::answer` meets its contract: the least bad entry decides, then the floor.
-- Assumes nothing.
use native.Mathlib.Omega.{arith}
use mathlib.Core.Path.{◌∙◌, ap}
use lib.ListN.{length}
use Rattle.rules.specs.Stores.{up_to}
use Rattle.rules.specs.Entries.{entries_in}
use Rattle.matching.specs.Laws.Answering.{says_bad, says_missing, says_all}
use Rattle.matching.proofs.answering.answer.Goals as goal

pub returns-then-first : goal.returns-then-first
returns-then-first c =
    says_bad (entries_in c.args.entries.now) c.args.room.now c.first_left.result c.lesser-first.result c.get16.ensures c.first_left.ensures c.lesser-first.ensures (length (entries_in c.args.entries.now)) (omega arith)

pub overflow_cast-result : goal.overflow_cast-result
overflow_cast-result c =
    omega (arith, c.count.ensures, c.requires.few)

pub returns-then-get16-eq-NEVER : goal.returns-then-get16-eq-NEVER
returns-then-get16-eq-NEVER c =
    ap up_to c.count.ensures
    ∙ says_missing (entries_in c.args.entries.now) c.args.room.now c.first_left.result c.lesser-first.result c.get16.ensures c.first_left.ensures c.lesser-first.ensures
    c.get16-2.ensures (length (entries_in c.args.entries.now)) (omega arith) (omega arith)

pub returns : goal.returns
returns c =
    says_all (entries_in c.args.entries.now) c.args.room.now c.first_left.result c.lesser-first.result c.get16.ensures c.first_left.ensures c.lesser-first.ensures
    c.get16-2.ensures (length (entries_in c.args.entries.now)) (omega arith) (omega arith)
