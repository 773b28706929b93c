-- `keeping::loads::loaded` meets its contract.
-- Assumes nothing.
use borrow.Author.Rules.{rules}
use Rattle.reader.specs.Laws.Cases.{refuses_by, accepts_by}
use Rattle.std.proofs.lemmas.Result.{err_from_is_err_and}
use Rattle.keeping.specs.Laws.Answered.{standing, refused_answer, kept_answer}
use Rattle.keeping.proofs.loads.loaded.Goals as goal

pub load_accepted-requires : goal.load_accepted-requires
load_accepted-requires c =
    let v = accepts_by c.check.ensures c.in_ok-accepted.was in record { words_value = (standing v, v.counted); in_bounds = (search rules, v.few_words) }

pub returns-in_err-accepted : goal.returns-in_err-accepted
returns-in_err-accepted c =
    let p = err_from_is_err_and c.from_residual.result c.from_residual.ensures.1 in
    rw (p.1, p.2) (refused_answer (refuses_by c.check.ensures c.in_err-accepted.was))

pub returns : goal.returns
returns c = let v = accepts_by c.check.ensures c.in_ok-accepted.was in kept_answer v (c.load_accepted.ensures (standing v) v.counted)
