-- `preparing::runs::run_started` meets its contract: the run of the rules, by the promise.
-- Assumes nothing.
use borrow.Author.Rules.{rules}
use native.Mathlib.Omega.{arith}
use Rattle.preparing.specs.Laws.Prepared.{to_run}
use Rattle.preparing.specs.Laws.Outcome.{run_ended}
use Rattle.preparing.proofs.runs.run_started.Goals as goal

pub prepare-begin-requires : goal.prepare-begin-requires
prepare-begin-requires c = record { by_index = (c.requires.by_index.0, c.requires.by_index.1); in_bounds = c.requires.in_bounds }

pub run-requires : goal.run-requires
run-requires c =
    (to_run c.requires.by_index.1 (c.prepare-begin.ensures c.requires.by_index.0 c.requires.by_index.1) c.requires.by_index.2, search rules)

pub returns : goal.returns
returns c =
    let q = c.prepare-begin.ensures c.requires.by_index.0 c.requires.by_index.1 in
    run_ended c.requires.by_index.1 q c.requires.by_index.2 (c.run.ensures (to_run c.requires.by_index.1 q c.requires.by_index.2)) (search rules) (λ i. omega (arith, c.slice_known-8-1.given i))
    c.ended_answer.ensures
