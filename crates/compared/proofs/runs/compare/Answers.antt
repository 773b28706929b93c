-- `compared::runs::compare` meets its contract: the run that tells the matching, by the promise.
-- Assumes nothing.
use borrow.Author.Rules.{rules}
use native.Mathlib.Omega.{arith}
use Rattle.listed.specs.Laws.Entries.{list_few}
use Rattle.compared.specs.Laws.Traced.{reading_by, to_trace, traced_ended}
use Rattle.compared.proofs.runs.compare.Goals as goal

pub lay-requires : goal.lay-requires
lay-requires c =
    record { by_index = (_, _, reading_by c.requires.by_index.1); carriers_len_bound = (omega (arith, c.requires.by_index.2.long, c.requires.by_index.1.counted, c.requires.by_index.1.few_words), c.requires.entries_value.1.1.0) }

pub begin-requires : goal.begin-requires
begin-requires c = (search rules, list_few _ c.requires.entries_value.0)

pub trace-ended-requires : goal.trace-ended-requires
trace-ended-requires c =
    let ready = c.prepare-first.ensures c.requires.by_index.0 c.requires.by_index.1 in
    to_trace c.requires.by_index.1 c.requires.by_index.2 ready c.lay.ensures c.requires.entries_value.1.1.0 c.begin.ensures

pub told_answer-requires : goal.told_answer-requires
told_answer-requires c =
    let ready = c.prepare-first.ensures c.requires.by_index.0 c.requires.by_index.1 in
    (c.trace-ended.ensures (to_trace c.requires.by_index.1 c.requires.by_index.2 ready c.lay.ensures c.requires.entries_value.1.1.0 c.begin.ensures)).tells.sound

pub returns : goal.returns
returns c =
    let ready = c.prepare-first.ensures c.requires.by_index.0 c.requires.by_index.1 in
    traced_ended c.requires.by_index.1 c.requires.by_index.2 ready c.lay.ensures c.requires.entries_value.1.1.0 c.begin.ensures (c.trace-ended.ensures (to_trace c.requires.by_index.1 c.requires.by_index.2 ready c.lay.ensures c.requires.entries_value.1.1.0 c.begin.ensures)) c.requires.entries_value.0 c.told_answer.ensures
