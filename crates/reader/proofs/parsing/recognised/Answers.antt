-- `reader::parsing::recognised` meets its contract: each answer is the recogniser's.
-- Assumes nothing.
use Rattle.std.specs.Prelude.{Err}
use Rattle.std.proofs.Common.{rules, ap, ◌∙◌}
use Rattle.reader.specs.Laws.Parsed.{scans_records, scans_room, scans_fine, scans_20, scans_21}
use Rattle.reader.proofs.parsing.recognised.Goals as goal

pub recognise-requires : goal.recognise-requires
recognise-requires c = scans_records c.requires

pub place_of-requires : goal.place_of-requires
place_of-requires c = scans_room c.requires

pub place_of-requires-in-Err-TooDeep : goal.place_of-requires-in-Err-TooDeep
place_of-requires-in-Err-TooDeep c = scans_room c.requires

pub returns-in-Ok : goal.returns-in-Ok
returns-in-Ok c = λ v. search (rules, scans_fine)

pub returns-in-Err-Unexpected : goal.returns-in-Err-Unexpected
returns-in-Err-Unexpected c = λ v. scans_20 v c.recognise.ensures (c.in-Err-Unexpected.is ∙ ap Err c.in-Err-Unexpected.field-0-is) c.place_of.ensures

pub returns-in-Err-TooDeep : goal.returns-in-Err-TooDeep
returns-in-Err-TooDeep c = λ v.
    scans_21 v c.recognise.ensures (c.in-Err-TooDeep.is ∙ ap Err c.in-Err-TooDeep.field-0-is) c.place_of-in-Err-TooDeep.ensures
