-- `resuming::profiles::profiled` meets its contract: the text's refusal, or the profile of its description.
-- Assumes nothing.
use borrow.Author.Rules.{rules}
use native.Mathlib.Omega.{arith}
use Rattle.reader.specs.Laws.Cases.{refuses_by, accepts_by}
use Rattle.resuming.specs.Laws.Told.{refused_text, accepted_text}
use Rattle.resuming.proofs.profiles.profiled.Goals as goal

pub refusal-requires : goal.refusal-requires
refusal-requires c = omega (arith, (refuses_by c.check.ensures c.in-Err.is).near)

pub profile_accepted-requires : goal.profile_accepted-requires
profile_accepted-requires c = record { by_index = (_, accepts_by c.check.ensures c.in-Ok.is); in_bounds = search rules }

pub returns-in-Err : goal.returns-in-Err
returns-in-Err c = refused_text (refuses_by c.check.ensures c.in-Err.is) c.refusal.ensures

pub returns-in-Ok : goal.returns-in-Ok
returns-in-Ok c = let a = accepts_by c.check.ensures c.in-Ok.is in accepted_text a (c.profile_accepted.ensures _ a)
