-- `pairing::texts::pair_second` meets its contract: the second text's refusal, or what is answered to both.
-- Assumes nothing.
use Rattle.std.proofs.Common.{rules, arith}
use Rattle.reader.specs.Laws.Cases.{refuses_by, accepts_by}
use Rattle.pairing.specs.Laws.Outcome.{refused_second}
use Rattle.pairing.proofs.texts.pair_second.Goals as goal

pub refused_answer-requires : goal.refused_answer-requires
refused_answer-requires c = λ other. omega (arith, (refuses_by c.check.ensures c.in-Err.is).near)

pub pair_accepted-requires : goal.pair_accepted-requires
pair_accepted-requires c =
    record {
      by_index = (_, c.requires.accepts.0, accepts_by c.check.ensures c.in-Ok.is);
      in_bounds = (c.requires.in_bounds.0, (omega (arith, c.requires.in_bounds.1.1.1.1, c.check.auto.room), (c.requires.in_bounds.1.0, search rules)));
    }

pub returns-in-Err : goal.returns-in-Err
returns-in-Err c = refused_second c.requires.accepts.0.verdict (refuses_by c.check.ensures c.in-Err.is) c.refused_answer.ensures
