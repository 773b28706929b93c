-- The largest image.
-- Assumes nothing.
use Rattle.std.specs.Prelude.{ℕ, ◌≤◌, ◌≡◌}
use Rattle.std.proofs.Common.{arith}
use Rattle.rules.specs.Images.{blocks_for, image_size_of}

pub largest_image : (size : ℕ) {r : ℕ} → r ≡ image_size_of size → size ≤ 32768 → r ≤ 33792
unfolding blocks_for
largest_image size e h = omega arith
