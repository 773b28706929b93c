-- `images::images::blocks_for` meets its contract.
-- Assumes nothing.
use mathlib.Core.Path.{refl}
use Rattle.rules.specs.Images.{blocks_for}
use Rattle.images.proofs.images.blocks_for.Goals as goal

pub returns : goal.returns
unfolding blocks_for
returns c = refl
