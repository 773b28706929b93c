-- What a conjunction and a disjunction tell, and how to come to them.
-- Assumes nothing.
use Rattle.std.specs.Prelude.{Bool, true, false, ◌&&◌, ◌||◌, ◌⊎◌, T}
use Rattle.std.proofs.Common.{inl, inr}

pub both : (a b : Bool) → T a → T b → T (a && b)
both true b p q = q
both false b p q = p

pub first : (a b : Bool) → T (a && b) → T a
first true b p = tt
first false b p = p

pub second : (a b : Bool) → T (a && b) → T b
second true b p = p
second false b p = absurd p

pub left : (a b : Bool) → T a → T (a || b)
left true b p = tt
left false b p = absurd p

pub right : (a b : Bool) → T b → T (a || b)
right true b p = tt
right false b p = p

pub which : (a b : Bool) → T (a || b) → T a ⊎ T b
which true b p = inl p
which false b p = inr p
