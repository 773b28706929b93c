-- `pairing::texts::pair_texts` meets its contract: the first text's refusal, or what is answered behind it.
-- Assumes nothing.
use Rattle.std.proofs.Common.{rules, arith}
use Rattle.reader.specs.Laws.Cases.{refuses_by, accepts_by}
use Rattle.pairing.specs.Laws.Outcome.{refused_first}
use Rattle.pairing.proofs.texts.pair_texts.Goals as goal

pub refused_answer-requires : goal.refused_answer-requires
refused_answer-requires c = λ other. omega (arith, (refuses_by c.check.ensures c.in-Err.is).near)

pub pair_second-requires : goal.pair_second-requires
pair_second-requires c =
    record {
      accepts = (accepts_by c.check.ensures c.in-Ok.is, c.requires.text0_len_bound.1);
      in_bounds = (omega (arith, c.requires.in_bounds.1.1.0, c.check.auto.room), (search rules, c.requires.in_bounds.1.1.1));
    }

pub returns-in-Err : goal.returns-in-Err
returns-in-Err c = refused_first (refuses_by c.check.ensures c.in-Err.is) c.refused_answer.ensures
