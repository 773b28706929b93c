-- `lexemes::words::keyword_kind` meets its contract: each arm's number is a keyword's, and the last arm has none of them.
-- Assumes nothing.
use mathlib.Core.Path.{sym}
use Rattle.rules.specs.Text.Tokens.{keywords}
use Rattle.lexemes.specs.Codes.{code_of, word_code, kind_by}
use Rattle.lexemes.specs.Laws.Spellings.{missed}
use Rattle.lexemes.proofs.words.keyword_kind.Goals as goal

pub returns-in-782661986 : goal.returns-in-782661986
unfolding code_of kind_by
returns-in-782661986 c = rw c.in-782661986.is

pub returns-in-150437 : goal.returns-in-150437
unfolding code_of kind_by
returns-in-150437 c = rw c.in-150437.is

pub returns-in-13863278 : goal.returns-in-13863278
unfolding code_of kind_by
returns-in-13863278 c = rw c.in-13863278.is

pub returns-in-2473 : goal.returns-in-2473
unfolding code_of kind_by
returns-in-2473 c = rw c.in-2473.is

pub returns-in-40344893796 : goal.returns-in-40344893796
unfolding code_of kind_by
returns-in-40344893796 c = rw c.in-40344893796.is

pub returns-in-10641751913434415 : goal.returns-in-10641751913434415
unfolding code_of kind_by
returns-in-10641751913434415 c = rw c.in-10641751913434415.is

pub returns-in-56398121330 : goal.returns-in-56398121330
unfolding code_of kind_by
returns-in-56398121330 c = rw c.in-56398121330.is

pub returns-in-635050348 : goal.returns-in-635050348
unfolding code_of kind_by
returns-in-635050348 c = rw c.in-635050348.is

pub returns-in-3627667372402 : goal.returns-in-3627667372402
unfolding code_of kind_by
returns-in-3627667372402 c = rw c.in-3627667372402.is

pub returns-in-12228717 : goal.returns-in-12228717
unfolding code_of kind_by
returns-in-12228717 c = rw c.in-12228717.is

pub returns-in-12778803 : goal.returns-in-12778803
unfolding code_of kind_by
returns-in-12778803 c = rw c.in-12778803.is

pub returns-in-817687534 : goal.returns-in-817687534
unfolding code_of kind_by
returns-in-817687534 c = rw c.in-817687534.is

pub returns-in-216046 : goal.returns-in-216046
unfolding code_of kind_by
returns-in-216046 c = rw c.in-216046.is

pub returns-in-150433 : goal.returns-in-150433
unfolding code_of kind_by
returns-in-150433 c = rw c.in-150433.is

pub returns-in-224357 : goal.returns-in-224357
unfolding code_of kind_by
returns-in-224357 c = rw c.in-224357.is

pub returns-in-3247 : goal.returns-in-3247
unfolding code_of kind_by
returns-in-3247 c = rw c.in-3247.is

pub returns-in-207864 : goal.returns-in-207864
unfolding code_of kind_by
returns-in-207864 c = rw c.in-207864.is

pub returns-in-183397 : goal.returns-in-183397
unfolding code_of kind_by
returns-in-183397 c = rw c.in-183397.is

pub returns-in-203118 : goal.returns-in-203118
unfolding code_of kind_by
returns-in-203118 c = rw c.in-203118.is

pub returns-in-212204 : goal.returns-in-212204
unfolding code_of kind_by
returns-in-212204 c = rw c.in-212204.is

pub returns-in-203116 : goal.returns-in-203116
unfolding code_of kind_by
returns-in-203116 c = rw c.in-203116.is

pub returns-in-208167 : goal.returns-in-208167
unfolding code_of kind_by
returns-in-208167 c = rw c.in-208167.is

pub returns-in-203111 : goal.returns-in-203111
unfolding code_of kind_by
returns-in-203111 c = rw c.in-203111.is

pub returns-in_default : goal.returns-in_default
unfolding code_of kind_by
returns-in_default c = sym (missed Unit word_code c.args.code keywords c.in_default.in_default-own.rest).1
