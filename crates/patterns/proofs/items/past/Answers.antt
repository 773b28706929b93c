-- `patterns::items::past` meets its contract.
-- Assumes nothing.
use mathlib.Core.Path.{ap, ◌∙◌}
use Prim.Native.Nat.{◌^◌}
use lib.Dec.{leb}
use Rattle.patterns.proofs.items.past.Goals as goal

pub returns : goal.returns
returns c = c.longer.ensures ∙ ap (leb (2 ^ c.args.n)) c.highest.ensures
