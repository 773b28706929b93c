-- What a refused text is told, as the code hands it about.
use Rattle.std.specs.Prelude.{ℕ, Result}
use Rattle.rules.specs.declared.refusals.Refusal.{Refusal}

-- the refusal of a number at a place
abbrev pub refusal_at : ℕ → ℕ → Refusal
refusal_at m p = record { number = m; place = p }

-- what is answered, or a refusal
abbrev pub OrRefused : Type 0 → Type 0
OrRefused A = Result A Refusal
