-- `grammar::moved` meets its contract: the entry that it reads is taken apart as the rows' numbers are put together.
-- Assumes nothing.
use borrow.Author.Rules.{rules}
use Rattle.grammar.proofs.Entries.{place_within, Read, nowhere, out, on, into}
use Rattle.grammar.proofs.moved.Goals.{After-wide32-entry}
use Rattle.grammar.proofs.moved.Goals as goal

read : (c : After-wide32-entry) → Read c.args.table.now c.args.state c.args.kind c.wide32-entry.result
read c = record { rows = c.requires.ruled; small = c.requires.kind_lt_kind_count; entry_is = c.wide32-entry.ensures }

pub overflow_add-state : goal.overflow_add-state
overflow_add-state c = let w = place_within c.requires.s_value.0 in search rules

pub offset_bounds-table-state : goal.offset_bounds-table-state
offset_bounds-table-state c = let w = place_within c.requires.s_value.0 in search rules

pub bounds-table-state : goal.bounds-table-state
bounds-table-state c = let w = place_within c.requires.s_value.0 in search rules

pub returns-then-entry-kind : goal.returns-then-entry-kind
returns-then-entry-kind c = nowhere _ _ _ _ (read (goal.at.returns-then-entry-kind c).After-wide32-entry) c.if-entry-kind.true

pub returns-then-inner-eq0 : goal.returns-then-inner-eq0
returns-then-inner-eq0 c = out _ _ _ _ (read (goal.at.returns-then-inner-eq0 c).After-wide32-entry) c.if-entry-kind.false c.if-inner-eq0.true

pub returns-then-outer-eq0 : goal.returns-then-outer-eq0
returns-then-outer-eq0 c = on _ _ _ _ (read (goal.at.returns-then-outer-eq0 c).After-wide32-entry) c.if-entry-kind.false c.if-inner-eq0.false c.if-outer-eq0.true

pub returns : goal.returns
returns c = into _ _ _ _ (read (goal.at.returns c).After-wide32-entry) c.if-entry-kind.false c.if-inner-eq0.false c.if-outer-eq0.false
