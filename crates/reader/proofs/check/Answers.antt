-- `reader::check` meets its contract: a refusal of the text up to its declarations, or what is said of the rest.
-- Assumes nothing.
use Rattle.std.proofs.lemmas.Result.{err_from_is_err_and}
use Rattle.reader.specs.Judged.{refuses}
use Rattle.reader.proofs.check.Goals as goal

pub returns-in_err-read : goal.returns-in_err-read
returns-in_err-read c =
    let p = err_from_is_err_and c.from_residual.result c.from_residual.ensures.1 in
    rw (p.1, p.2) (refuses (rw c.in_err-read.was at c.read.ensures))
