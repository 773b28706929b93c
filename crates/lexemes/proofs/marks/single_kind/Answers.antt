-- `lexemes::marks::single_kind` meets its contract: each arm's number is a mark's, and the last arm has none of them.
-- Assumes nothing.
use mathlib.Core.Path.{sym}
use Rattle.lexemes.specs.Codes.{code_of, mark_code, kind_found, singles}
use Rattle.lexemes.specs.Laws.Spellings.{none_found}
use Rattle.lexemes.proofs.marks.single_kind.Goals as goal

pub returns-in-41 : goal.returns-in-41
unfolding code_of kind_found
returns-in-41 c = rw c.in-41.is

pub returns-in-42 : goal.returns-in-42
unfolding code_of kind_found
returns-in-42 c = rw c.in-42.is

pub returns-in-92 : goal.returns-in-92
unfolding code_of kind_found
returns-in-92 c = rw c.in-92.is

pub returns-in-94 : goal.returns-in-94
unfolding code_of kind_found
returns-in-94 c = rw c.in-94.is

pub returns-in-61 : goal.returns-in-61
unfolding code_of kind_found
returns-in-61 c = rw c.in-61.is

pub returns-in-63 : goal.returns-in-63
unfolding code_of kind_found
returns-in-63 c = rw c.in-63.is

pub returns-in-45 : goal.returns-in-45
unfolding code_of kind_found
returns-in-45 c = rw c.in-45.is

pub returns-in-60 : goal.returns-in-60
unfolding code_of kind_found
returns-in-60 c = rw c.in-60.is

pub returns-in-59 : goal.returns-in-59
unfolding code_of kind_found
returns-in-59 c = rw c.in-59.is

pub returns-in-62 : goal.returns-in-62
unfolding code_of kind_found
returns-in-62 c = rw c.in-62.is

pub returns-in-65 : goal.returns-in-65
unfolding code_of kind_found
returns-in-65 c = rw c.in-65.is

pub returns-in-44 : goal.returns-in-44
unfolding code_of kind_found
returns-in-44 c = rw c.in-44.is

pub returns-in-46 : goal.returns-in-46
unfolding code_of kind_found
returns-in-46 c = rw c.in-46.is

pub returns-in_default : goal.returns-in_default
unfolding code_of kind_found
returns-in_default c = sym (none_found Unit mark_code c.args.code singles c.in_default.in_default-own.rest).1
