-- `starts::is_long` meets its contract: two and more are left above the lowest `last` bits.
-- Assumes nothing.
use Rattle.starts.proofs.Seeking.{long_test}
use Rattle.starts.proofs.is_long.Goals as goal

pub returns : goal.returns
returns c = long_test c.args.word c.args.last
