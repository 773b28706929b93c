-- A fault is a number and a place. "Within a ten the smallest place, then number; in the 50s and 60s the number first."
use Rattle.std.specs.Prelude.{ℕ, Bool, true, false, ◌&&◌, ◌||◌, List, [], ◌∷◌, ltb, eqb}
use Rattle.std.proofs.Math.Option.{Option, none, some}

pub record Fault : Type 0 where
  pub number : ℕ
  pub place : ℕ

abbrev pub fault : ℕ → ℕ → Fault
fault n p = record { number = n; place = p }

-- a fault where a test holds
abbrev pub when : Bool → ℕ → ℕ → List Fault
when true n p = fault n p ∷ []
when false n p = []

-- whether a comes before b: by place first, or by number first
abbrev pub by_place_of : Fault → Fault → Bool
by_place_of a b = ltb a.place b.place || (eqb a.place b.place && ltb a.number b.number)

abbrev pub by_number_of : Fault → Fault → Bool
by_number_of a b = ltb a.number b.number || (eqb a.number b.number && ltb a.place b.place)

-- the least of a list, by an order; b is the least so far
unfoldable pub least_from : (Fault → Fault → Bool) → Fault → List Fault → Fault
least_from before b [] = b
least_from before b (f ∷ fs) = least_from before (elim (before f b) [ true ↦ f | false ↦ b ]) fs

unfoldable pub least : (Fault → Fault → Bool) → List Fault → Option Fault
least before [] = none
least before (f ∷ fs) = some (least_from before f fs)
