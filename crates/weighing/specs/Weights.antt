-- A judged thing in two numbers: the key of its least fault, and its length. How an operator combines them.
use Rattle.std.specs.Prelude.{ℕ, ◌<◌, ◌≤◌, ◌≡◌, [], ◌++◌}
use Rattle.rules.specs.Text.Tokens.{Info, Op}
use Rattle.rules.specs.Values.{op_bits}
use Rattle.rules.specs.Limits.{most_bits}
use Rattle.rules.specs.Faults.Bodies.{Judged, judged_as, over}
use Rattle.keys.specs.Keys.{no_key, least_key, Smalls}

-- its faults have keys, its length fits, and is 0 just where it has a fault
pub record Fine (j : Judged) : Type 0 where
  pub smalls : Smalls j.faults
  pub few : j.bits ≤ most_bits
  pub some : j.faults ≡ [] → 0 < j.bits
  pub empty : least_key j.faults < no_key → j.bits ≡ 0

pub record Weighs (k n : ℕ) (j : Judged) : Type 0 where
  pub key : k ≡ least_key j.faults
  pub bits : n ≡ j.bits
  pub fine : Fine j

-- an operator and its operands
abbrev pub operated : Op → Info → Judged → Judged → Judged
operated o i a b = judged_as (over (a.faults ++ b.faults) (op_bits o a.bits b.bits) i.place) (op_bits o a.bits b.bits)
