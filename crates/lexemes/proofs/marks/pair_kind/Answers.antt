-- `lexemes::marks::pair_kind` meets its contract: each arm's number is a mark's, and the last arm has none of them.
-- Assumes nothing.
use mathlib.Core.Path.{sym}
use Rattle.lexemes.specs.Codes.{code_of, mark_code, kind_found, pairs}
use Rattle.lexemes.specs.Laws.Spellings.{none_found}
use Rattle.lexemes.proofs.marks.pair_kind.Goals as goal

pub returns-in-15993 : goal.returns-in-15993
unfolding code_of kind_found
returns-in-15993 c = rw c.in-15993.is

pub returns-in-16253 : goal.returns-in-16253
unfolding code_of kind_found
returns-in-16253 c = rw c.in-16253.is

pub returns-in-11094 : goal.returns-in-11094
unfolding code_of kind_found
returns-in-11094 c = rw c.in-11094.is

pub returns-in_default : goal.returns-in_default
unfolding code_of kind_found
returns-in_default c = sym (none_found Unit mark_code c.args.code pairs c.in_default.in_default-own.rest).1
