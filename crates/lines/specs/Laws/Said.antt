-- Laws of what is said of a run, by its ending.
-- Assumes nothing.
use Prim.Native.Nat.{ℕ}
use Rattle.std.specs.Prelude.{◌≡◌, refl, List}
use Rattle.rules.specs.Text.Bytes.{bytes}
use Rattle.lines.specs.Appended.{Appended}
use Rattle.lines.specs.declared.answers.Ending.{Ending}
use Rattle.lines.specs.declared.answers.Ending.TheVariants.{Done, Stopped, Paused, Fault, Refused, Unbounded, Other}
use Rattle.lines.specs.Endings.{refused_bytes}
use Rattle.lines.specs.Said.{steps_bytes, fault_bytes, said_bytes}

module _ (e : Ending) (l c n s : ℕ) {before after : List ℕ} {at r : ℕ} where
  pub is_done : e ≡ Done → Appended before after at r (steps_bytes (bytes "done after ") s) → Appended before after at r (said_bytes e l c n s)
  unfolding said_bytes
  is_done z h = rw (z, said_bytes) h

  pub is_stopped : e ≡ Stopped → Appended before after at r (steps_bytes (bytes "stopped after ") s) → Appended before after at r (said_bytes e l c n s)
  unfolding said_bytes
  is_stopped z h = rw (z, said_bytes) h

  pub is_paused : e ≡ Paused → Appended before after at r (steps_bytes (bytes "paused after ") s) → Appended before after at r (said_bytes e l c n s)
  unfolding said_bytes
  is_paused z h = rw (z, said_bytes) h

  pub is_fault : e ≡ Fault → Appended before after at r (fault_bytes l c n s) → Appended before after at r (said_bytes e l c n s)
  unfolding said_bytes
  is_fault z h = rw (z, said_bytes) h

  pub is_refused : (e ≡ Done → ⊥) → (e ≡ Stopped → ⊥) → (e ≡ Paused → ⊥) → (e ≡ Fault → ⊥) → Appended before after at r (refused_bytes l c n)
      → Appended before after at r (said_bytes e l c n s)
  unfolding said_bytes
  is_refused d₀ d₁ d₂ d₃ h = by e d₀ d₁ d₂ d₃
    where
      by : (e : Ending) → (e ≡ Done → ⊥) → (e ≡ Stopped → ⊥) → (e ≡ Paused → ⊥) → (e ≡ Fault → ⊥) → Appended before after at r (said_bytes e l c n s)
      by Done d₀ d₁ d₂ d₃ = absurd (d₀ refl)
      by Stopped d₀ d₁ d₂ d₃ = absurd (d₁ refl)
      by Paused d₀ d₁ d₂ d₃ = absurd (d₂ refl)
      by Fault d₀ d₁ d₂ d₃ = absurd (d₃ refl)
      by Refused d₀ d₁ d₂ d₃ = h
      by Unbounded d₀ d₁ d₂ d₃ = h
      by (Other code) d₀ d₁ d₂ d₃ = h
