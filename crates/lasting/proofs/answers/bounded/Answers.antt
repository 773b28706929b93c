-- `lasting::answers::bounded` meets its contract.
use borrow.Author.Rules.{rules}
use native.Mathlib.Omega.{arith}
use Rattle.reader.specs.Laws.Cases.{refuses_by, accepts_by}
use Rattle.lasting.specs.Laws.Bounded.{ready, told_bound, told_refusal}
use Rattle.lasting.proofs.answers.bounded.Goals as goal

pub refusal-requires : goal.refusal-requires
refusal-requires c = omega (arith, (refuses_by c.check.ensures c.in-Err.is).near)

pub longest-requires : goal.longest-requires
longest-requires c = (ready (accepts_by c.check.ensures c.in-Ok.is), search rules)

pub returns-in-Err : goal.returns-in-Err
returns-in-Err c = told_refusal (refuses_by c.check.ensures c.in-Err.is) c.refusal.ensures

pub returns-in-Ok : goal.returns-in-Ok
returns-in-Ok c = told_bound (accepts_by c.check.ensures c.in-Ok.is) c.longest.ensures c.count_answer.ensures
