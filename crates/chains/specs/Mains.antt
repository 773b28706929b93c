-- The faults of 50, kept while the declarations are read one after the other: whether MAIN is seen, and the least key of a second one.
use Rattle.std.specs.Prelude.{ℕ, ◌<◌, ◌≡◌, Bool, List, [], Option as Found, Some}
use Rattle.std.proofs.Math.Option.{Option, none, some}
use Rattle.rules.specs.Text.Tokens.{Info}
use Rattle.rules.specs.Declarations.{declared_of}
use Rattle.rules.specs.Faults.Fault.{Fault, when}
use Rattle.table.specs.Views.{MainAt}
use Rattle.reading.specs.Reading.{Reading}
use Rattle.reading.specs.Meanings.{declares}

-- of one declaration
abbrev pub second_main : Bool → Option Info → List Fault
second_main seen none = []
second_main seen (some i) = when seen 50 i.place

-- MAIN of the declaration k is the token r
pub record Mainly (records decls : List ℕ) (m n k : ℕ) (r : Found ℕ) : Type 0 where
  pub within : (p : ℕ) → r ≡ Some p → p < n
  pub is : (v : Reading records decls m n) (h : k < m) → MainAt v.tokens r (declared_of (declares v k h).declaration).mainly
