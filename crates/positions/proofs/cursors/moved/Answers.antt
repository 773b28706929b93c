-- `positions::cursors::moved` meets its contract: by the byte.
-- Assumes nothing.
use borrow.Author.Rules.{rules}
use mathlib.Core.Path.{sym, ap}
use Rattle.positions.specs.Cursors.{cursor}
use Rattle.laws.specs.Positions.{line_ended, line_goes_on}
use Rattle.positions.proofs.cursors.moved.Goals as goal

pub returns-then-byte-eq-LINE_END : goal.returns-then-byte-eq-LINE_END
returns-then-byte-eq-LINE_END c = sym (ap (cursor _) (line_ended _ _ (search rules)))

pub returns : goal.returns
returns c = sym (ap (cursor _) (line_goes_on _ _ (search rules)))
