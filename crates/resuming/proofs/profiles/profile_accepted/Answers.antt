-- `resuming::profiles::profile_accepted` meets its contract: 90, then 91, then by the lowest place.
-- Assumes nothing.
use borrow.Author.Rules.{rules}
use Rattle.resuming.specs.Laws.Outputs.{written_by}
use Rattle.resuming.specs.Laws.Told.{no_test, no_output, to_ask, too_early, in_time}
use Rattle.resuming.proofs.profiles.profile_accepted.Goals as goal

pub returns-in_default : goal.returns-in_default
returns-in_default c = λ words v.
    no_test c.args.test.now c.args.output.now v (c.test_number.ensures (written_by v)) c.in_default.is c.refusal.ensures

pub returns-in_default-output_number : goal.returns-in_default-output_number
returns-in_default-output_number c = λ words v.
    no_output c.args.test.now c.args.output.now v (c.test_number.ensures (written_by v)) c.in-Some.is (c.output_number.ensures words v)
    c.in_default-output_number.is c.refusal-in_default-output_number.ensures

pub lowest-low-requires : goal.lowest-low-requires
lowest-low-requires c = (
  to_ask c.args.test.now c.args.output.now c.requires.by_index.1 (c.test_number.ensures (written_by c.requires.by_index.1)) c.in-Some.is (c.output_number.ensures c.requires.by_index.0 c.requires.by_index.1) c.in-Some-output_number.is,
  search rules,
)

pub returns-then-low-lt-UNSEEN : goal.returns-then-low-lt-UNSEEN
returns-then-low-lt-UNSEEN c = λ words v.
    let tested = c.test_number.ensures (written_by v) in
    let put = c.output_number.ensures words v in
    too_early c.args.test.now c.args.output.now v tested c.in-Some.is put c.in-Some-output_number.is
    (c.lowest-low.ensures (to_ask c.args.test.now c.args.output.now v tested c.in-Some.is put c.in-Some-output_number.is)) c.if-low-lt-UNSEEN.true c.refusal-then-low-lt-UNSEEN.ensures

pub returns : goal.returns
returns c = λ words v.
    let tested = c.test_number.ensures (written_by v) in
    let put = c.output_number.ensures words v in
    in_time c.args.test.now c.args.output.now v tested c.in-Some.is put c.in-Some-output_number.is
    (c.lowest-low.ensures (to_ask c.args.test.now c.args.output.now v tested c.in-Some.is put c.in-Some-output_number.is)) c.if-low-lt-UNSEEN.false c.unrefused.ensures
