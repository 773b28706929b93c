-- `images::images::image_size` meets its contract: the product fits.
-- Assumes nothing.
use native.Mathlib.Omega.{arith}
use Rattle.rules.specs.Images.{blocks_for}
use Rattle.images.proofs.images.image_size.Goals as goal

pub overflow_mul-result : goal.overflow_mul-result
unfolding blocks_for
overflow_mul-result c = omega arith
