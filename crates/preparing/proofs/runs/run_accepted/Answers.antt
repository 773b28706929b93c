-- `preparing::runs::run_accepted` meets its contract: the carriers' refusal, or the run.
-- Assumes nothing.
use native.Mathlib.Omega.{arith}
use borrow.Author.Rules.{rules}
use Rattle.starts.specs.Laws.Cases.{declines_by, begins_by}
use Rattle.preparing.specs.Laws.Outcome.{refused_carriers}
use Rattle.preparing.proofs.runs.run_accepted.Goals as goal

pub refusal-requires : goal.refusal-requires
refusal-requires c =
    omega (arith, (declines_by (c.start.ensures _ _ _ c.requires.by_index.1.lawful.declares.ready) c.in-Err.is).near)

pub run_started-requires : goal.run_started-requires
run_started-requires c =
    record { by_index = (c.requires.by_index.0, c.requires.by_index.1, begins_by (c.start.ensures _ _ _ c.requires.by_index.1.lawful.declares.ready) c.in-Ok.is); in_bounds = c.requires.in_bounds }

pub returns-in-Err : goal.returns-in-Err
returns-in-Err c =
    refused_carriers c.requires.by_index.1 (declines_by (c.start.ensures _ _ _ c.requires.by_index.1.lawful.declares.ready) c.in-Err.is) c.refusal.ensures
