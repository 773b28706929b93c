-- `resuming::outputs::output_number` meets its contract: a name that is not declared, or means no storage, is no output.
-- Assumes nothing.
use borrow.Author.Rules.{rules}
use Rattle.std.specs.Prelude.{◌≡◌, None}
use Rattle.naming.specs.Laws.Names.{cell_within, number_within, no_such_output, output_there, output_other}
use Rattle.resuming.specs.Laws.Outputs.{written_by, view_of, storage_of}
use Rattle.resuming.proofs.outputs.output_number.Goals as goal

pub returns-in_err-k : goal.returns-in_err-k
returns-in_err-k c = λ words a.
    let none_is : c.from_residual.result ≡ None = search rules in
    rw none_is (no_such_output (written_by a) _ (c.number_of.ensures (written_by a)) c.in_err-k.was)

pub get16-p-requires : goal.get16-p-requires
get16-p-requires c =
    let v = written_by c.requires.1 in cell_within v _ (number_within v _ (c.number_of.ensures v) c.in_ok-k.was)

pub is_storage-requires : goal.is_storage-requires
is_storage-requires c =
    let v = written_by c.requires.1 in
    view_of c.requires.1 (number_within v _ (c.number_of.ensures v) c.in_ok-k.was) c.get16-p.ensures

pub returns-then-is_storage : goal.returns-then-is_storage
returns-then-is_storage c = λ words a.
    let v = written_by a in
    let is = c.number_of.ensures v in
    output_there v _ is c.in_ok-k.was (storage_of a (number_within v _ is c.in_ok-k.was) c.get16-p.ensures c.is_storage.ensures) c.if-is_storage.true

pub returns : goal.returns
returns c = λ words a.
    let v = written_by a in
    let is = c.number_of.ensures v in
    output_other v _ is c.in_ok-k.was (storage_of a (number_within v _ is c.in_ok-k.was) c.get16-p.ensures c.is_storage.ensures) c.if-is_storage.false
