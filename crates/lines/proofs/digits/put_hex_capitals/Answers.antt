-- `lines::digits::put_hex_capitals` meets its contract: there are 16 digits.
-- Assumes nothing.
use borrow.Author.Rules.{rules}
use Rattle.lines.proofs.Numbers.{hex_put}
use Rattle.lines.proofs.digits.put_hex_capitals.Goals as goal

pub returns : goal.returns
returns c = search (rules, hex_put)
