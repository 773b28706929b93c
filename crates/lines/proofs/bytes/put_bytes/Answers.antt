-- `lines::bytes::put_bytes` meets its contract: the bytes stand behind what the buffer held.
-- Assumes nothing.
use Rattle.lines.proofs.Runs.{overwritten}
use Rattle.lines.proofs.bytes.put_bytes.Goals as goal

pub returns : goal.returns
returns c = overwritten _ _ _ c.copy_from_slice.ensures.after c.requires
