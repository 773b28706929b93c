-- `pairing::texts::pair_accepted` meets its contract: what is refused of both, or the turns.
-- Assumes nothing.
use borrow.Author.Rules.{rules}
use native.Mathlib.Omega.{arith}
use Rattle.pair_tables.specs.Standing.{standing}
use Rattle.pairing.specs.Laws.Outcome.{firsts_room, declined_by, begun_by, refused_both}
use Rattle.pairing.proofs.texts.pair_accepted.Goals as goal

pub judge-requires : goal.judge-requires
judge-requires c = record { stands = (standing c.requires.by_index.1, standing c.requires.by_index.2); m1_in_bounds = firsts_room c.requires.by_index.2 (search rules) }

pub refused_answer-requires : goal.refused_answer-requires
refused_answer-requires c = λ other.
    omega (arith, (declined_by (c.judge.ensures (standing c.requires.by_index.1) (standing c.requires.by_index.2)) c.in-Err.is).near other)

pub turned-requires : goal.turned-requires
turned-requires c =
    record { by_index = (c.requires.by_index.0, c.requires.by_index.1, c.requires.by_index.2, begun_by (c.judge.ensures (standing c.requires.by_index.1) (standing c.requires.by_index.2)) c.in-Ok.is); in_bounds = (c.requires.in_bounds.0, (c.requires.in_bounds.1.0, (c.requires.in_bounds.1.1.0, (c.requires.in_bounds.1.1.1, search rules)))) }

pub returns-in-Err : goal.returns-in-Err
returns-in-Err c =
    refused_both c.requires.by_index.1 c.requires.by_index.2 (declined_by (c.judge.ensures (standing c.requires.by_index.1) (standing c.requires.by_index.2)) c.in-Err.is) c.refused_answer.ensures

pub returns-in-Ok : goal.returns-in-Ok
returns-in-Ok c = c.turned.ensures
