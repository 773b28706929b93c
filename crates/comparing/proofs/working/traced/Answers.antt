-- `comparing::working::traced` meets its contract: the text's refusal, or what becomes of the list.
-- Assumes nothing.
use native.Mathlib.Omega.{arith}
use borrow.Author.Rules.{rules}
use Rattle.reader.specs.Laws.Cases.{refuses_by, accepts_by}
use Rattle.comparing.specs.Laws.Traced.{refused_text}
use Rattle.comparing.proofs.working.traced.Goals as goal

pub refusal-requires : goal.refusal-requires
refusal-requires c = omega (arith, (refuses_by c.check.ensures c.in-Err.is).near)

pub compare_accepted-requires : goal.compare_accepted-requires
compare_accepted-requires c = record { by_index = (_, accepts_by c.check.ensures c.in-Ok.is); in_bounds = search rules }

pub returns-in-Err : goal.returns-in-Err
returns-in-Err c = refused_text (refuses_by c.check.ensures c.in-Err.is) c.refusal.ensures
