-- `running::runs::ran` meets its contract: the text's refusal, or what becomes of the carriers.
-- Assumes nothing.
use native.Mathlib.Omega.{arith}
use borrow.Author.Rules.{rules}
use Rattle.reader.specs.Laws.Cases.{refuses_by, accepts_by}
use Rattle.running.specs.Laws.Outcome.{refused_text}
use Rattle.running.proofs.runs.ran.Goals as goal

pub check-requires : goal.check-requires
check-requires c = record { text_len_bound = (c.requires.0, (c.requires.1.0, c.requires.1.1.0)); in_bounds = (c.requires.1.1.1, search rules) }

pub refusal-requires : goal.refusal-requires
refusal-requires c = omega (arith, (refuses_by c.check.ensures c.in-Err.is).near)

pub run_accepted-requires : goal.run_accepted-requires
run_accepted-requires c = record { by_index = (_, accepts_by c.check.ensures c.in-Ok.is); in_bounds = search rules }

pub returns-in-Err : goal.returns-in-Err
returns-in-Err c = refused_text (refuses_by c.check.ensures c.in-Err.is) c.refusal.ensures
