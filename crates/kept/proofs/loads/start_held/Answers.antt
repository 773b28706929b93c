-- `kept::loads::start_held` meets its contract.
-- Assumes nothing.
use mathlib.Core.Path.{subst}
use mathlib.Core.List.{List}
use Prim.Native.Nat.{ℕ}
use Rattle.table.specs.Ready.{table_of}
use Rattle.starts.specs.Starts.{Starts}
use Rattle.kept.proofs.loads.start_held.Goals as goal

pub start-requires : goal.start-requires
start-requires c = (c.requires.scene.text, c.requires.scene.tokens, c.requires.scene.description, c.requires.scene.ready)

pub returns : goal.returns
returns c = λ v. subst (λ (b : List ℕ). Starts (table_of v) b c.start.result) c.read.ensures (c.start.ensures _ _ _ v.ready)
