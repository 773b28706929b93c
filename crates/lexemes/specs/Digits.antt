-- A byte as a digit: its value in any base up to 16, 16 for `?` and 17 for any other byte.
use Rattle.std.specs.Prelude.{Bool, true, false, ℕ, ◌-◌, eqb, ltb}
use Rattle.rules.specs.Text.Bytes.{fold}

abbrev pick : Bool → ℕ → ℕ → ℕ
pick true a b = a
pick false a b = b

-- by the byte in upper case
abbrev pub upper_digit : ℕ → ℕ
upper_digit n = pick (eqb n 63) 16 (pick (ltb n 48) 17 (pick (ltb n 58) (n - 48) (pick (ltb n 65) 17 (pick (ltb n 71) (n - 55) 17))))

unfoldable pub digit_no : ℕ → ℕ
digit_no b = upper_digit (fold b)
