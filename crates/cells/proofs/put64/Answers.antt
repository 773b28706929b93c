-- `cells::put64` meets its contract.
use Rattle.std.proofs.Common.{◌∙◌, arith}
use Rattle.cells.proofs.Bytes.{placed}
use Rattle.cells.proofs.put64.Goals as goal

pub returns : goal.returns
returns c = placed 7 _ _ _ _ c.args.v (c.copy_from_slice.ensures.after ∙ c.to_le_bytes.ensures) (omega arith) c.requires
