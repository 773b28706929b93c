-- A field of bits of a word that is there.
use Rattle.std.specs.Prelude.{◌+◌, ◌<◌, ◌≤◌}
use Rattle.rules.specs.Limits.{most_bits}
use Rattle.rules.specs.Declarations.{Table, total_words}
use Rattle.rules.specs.Steps.Evaluation.{Field}

-- bits inside a word that is there
pub record Within (ds : Table) (f : Field) : Type 0 where
  pub word : f.word < total_words ds
  pub some : 1 ≤ f.size
  pub fits : f.low + f.size ≤ most_bits
