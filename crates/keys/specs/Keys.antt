-- A fault as one number, so that the least fault of a list is a minimum: the place counts first, or the number.
use Rattle.std.specs.Prelude.{ℕ, ◌+◌, ◌*◌, ◌<◌, ◌≤◌, min, List, [], ◌∷◌}
use Rattle.rules.specs.Limits.{longest_text}
use Rattle.rules.specs.Faults.Fault.{Fault}

abbrev pub key : Fault → ℕ
key f = f.place * 128 + f.number

abbrev pub number_key : Fault → ℕ
number_key f = f.number * 65536 + f.place

-- no fault: above every key
abbrev pub no_key : ℕ
no_key = 4294967295

-- the least key of a list
unfoldable pub least_by : (Fault → ℕ) → List Fault → ℕ
least_by k [] = no_key
least_by k (f ∷ fs) = min (k f) (least_by k fs)

abbrev pub least_key : List Fault → ℕ
least_key fs = least_by key fs

abbrev pub least_number_key : List Fault → ℕ
least_number_key fs = least_by number_key fs

pub record Small (f : Fault) : Type 0 where
  pub number : f.number < 128
  pub place : f.place ≤ longest_text

pub data Smalls : List Fault → Type 0 where
  none_small : Smalls []
  also_small : {f : Fault} {fs : List Fault} → Small f → Smalls fs → Smalls (f ∷ fs)
