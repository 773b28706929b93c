-- `reader::parsing::parse` meets its contract: the scanner's refusal, or the recogniser's answer on what the scanner wrote.
-- Assumes nothing.
use borrow.Author.Rules.{rules}
use Rattle.std.proofs.lemmas.Result.{err_from_is_err_and}
use Rattle.reader.specs.Laws.Parsed.{refused_scan, scanned}
use Rattle.reader.proofs.parsing.parse.Goals as goal

pub returns-in_err-n : goal.returns-in_err-n
returns-in_err-n c =
    let p = err_from_is_err_and c.from_residual.result c.from_residual.ensures.1 in
    rw (p.1, p.2) (refused_scan c.requires.0 c.scan.ensures.value c.in_err-n.was)

pub recognised-requires : goal.recognised-requires
recognised-requires c =
    scanned c.args.text.now c.args.records.now c.args.values.now (search rules) (search rules) (search rules)
    c.scan.ensures.records_after c.scan.ensures.values_after c.scan.ensures.value c.in_ok-n.was

pub returns : goal.returns
unfolding scanned
returns c =
    c.recognised.ensures
    (scanned c.args.text.now c.args.records.now c.args.values.now (search rules) (search rules) (search rules)
    c.scan.ensures.records_after c.scan.ensures.values_after c.scan.ensures.value c.in_ok-n.was)
