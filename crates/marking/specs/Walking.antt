-- What a walk over the tokens of a description starts from, and what each token does.
use Rattle.std.specs.Prelude.{ℕ, ◌+◌, ◌<◌, List, drop}
use Rattle.records.specs.Holds.{kind_byte}
use Rattle.reading.specs.Groups.{more}
use Rattle.reading.specs.Reading.{Kinded}
use Rattle.marking.specs.Machine.{acted}
use Rattle.marking.specs.Holding.{Standing, Does}
use Rattle.marking.specs.declared.frames.Nest.{Nest}

-- the token i is next
pub record Acting (records room : List ℕ) (n i : ℕ) (s : Nest) : Type 0 where
  pub kinds : Kinded records n
  pub within : i < n
  pub stands : Standing room i s

-- what it did
abbrev pub Acted : List ℕ → List ℕ → List ℕ → ℕ → ℕ → Nest → Nest → Type 0
Acted records old new n i s r = (v : Kinded records n) → Does i (acted (i + 1) (kind_byte records i) (more (drop (i + 1) v.tokens))) old s new r
