-- What a token of the kind k does to one who passes over an action, at the depth d and in the mode m: whether the action ends before it or with it, and the
-- depth and the mode behind it.
use Rattle.std.specs.Prelude.{ℕ, ◌+◌, ◌≤◌, ◌≡◌, Bool}
use Rattle.table.specs.Scans.{deeper}
use Rattle.reading.specs.Kinds.{ends, closes, mode}

pub record Stepped (d m k : ℕ) (before with_it : Bool) (depth behind : ℕ) : Type 0 where
  pub ending : before ≡ ends d k
  pub closing : with_it ≡ closes d k
  pub depth_is : depth ≡ deeper d k
  pub depth_most : depth ≤ d + 1
  pub mode_is : behind ≡ mode m k
  pub mode_most : behind ≤ m + 1
