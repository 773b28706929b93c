-- Words of bits that hold the carriers of sets.
use Rattle.std.specs.Prelude.{ℕ, ◌≡◌, List}
use Rattle.rules.specs.Whole.Sets.{Sets, member}
use Rattle.reading.specs.Bits.{holds}

-- words that hold the carriers of sets
pub record Holding (r w : List ℕ) (s : Sets) : Type 0 where
  pub reading : (c : ℕ) → holds r c ≡ member c s.reads
  pub writing : (c : ℕ) → holds w c ≡ member c s.writes
