-- `lines::digits::put_decimal` meets its contract: a number of 64 bits has at most 20 digits.
-- Assumes nothing.
use borrow.Author.Rules.{rules}
use Rattle.lines.proofs.Numbers.{decimal_put}
use Rattle.lines.proofs.digits.put_decimal.Goals as goal

pub returns : goal.returns
returns c = search (rules, decimal_put)
