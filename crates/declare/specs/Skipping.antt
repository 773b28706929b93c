-- A declaration ends at the first `,` or END that no bracket of its own holds.
use Rattle.std.specs.Prelude.{ℕ, zero, suc, Bool, true, false, ◌||◌}
use Rattle.rules.specs.Text.Tokens.{Kind, same, Comma}
use Rattle.rules.specs.Grammar.Verdict.{closes}

abbrev pub none_open_of : Bool → ℕ → Bool
none_open_of false d = false
none_open_of true zero = true
none_open_of true (suc d) = false

-- a `,` or a closer, with none of d brackets open
unfoldable pub ends : ℕ → Kind → Bool
ends d k = none_open_of (closes k || same Comma k) d
