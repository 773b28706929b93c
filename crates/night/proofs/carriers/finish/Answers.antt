-- `night::carriers::finish` is safe: the largest image fits.
-- Assumes nothing.
use native.Mathlib.Omega.{arith}
use lib.ListN.{length-take}
use Rattle.night.specs.Laws.Sizes.{largest_image}
use Rattle.night.proofs.carriers.finish.Goals as goal

pub slice_bounds-image-end : goal.slice_bounds-image-end
slice_bounds-image-end c = omega (arith, largest_image _ c.image_size-size.ensures (omega arith))

pub slice_bounds-store_in-end : goal.slice_bounds-store_in-end
slice_bounds-store_in-end c = simp length-take (omega (arith, largest_image _ c.image_size-size.ensures (omega arith)))
