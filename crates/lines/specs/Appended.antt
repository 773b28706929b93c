-- Bytes that are appended to what a buffer holds.
use Rattle.std.specs.Prelude.{ℕ, ◌+◌, ◌≡◌, List, ◌++◌, length, take}

-- behind its first `at` bytes, which it keeps, a buffer takes some more, and then holds r
pub record Appended (before after : List ℕ) (at r : ℕ) (more : List ℕ) : Type 0 where
  pub size : r ≡ at + length more
  pub room : length after ≡ length before
  pub kept : take r after ≡ take at before ++ more
