-- Reports ordered by what they say is reached.
use Rattle.std.specs.Prelude.{ℕ, ◌≡◌, Bool, true, false, cond, ◌&&◌, []}
use Rattle.rules.specs.Declarations.{Word}
use Rattle.rules.specs.Whole.Sets.{member}
use Rattle.laws_orders.proofs.Orders.Tests.{or_left, or_right, member_left, member_right}
use Rattle.paths.specs.Cited.Early.{Report, in_turn, beside, either, turning}

pub and_true : (a b : Bool) → a ≡ true → b ≡ true → (a && b) ≡ true
and_true true b p q = q
and_true false b p q = p

pub record Sub (x y : Report) : Type 0 where
  pub places : (p : ℕ) → member p x.places ≡ true → member p y.places ≡ true
  pub ends : x.ends ≡ true → y.ends ≡ true
  pub leaves : (k : Word) → x.leaves k ≡ true → y.leaves k ≡ true

pub sub_refl : (x : Report) → Sub x x
sub_refl x = record { places = λ p h. h; ends = λ h. h; leaves = λ k h. h }

pub sub_trans : {x y z : Report} → Sub x y → Sub y z → Sub x z
sub_trans s t =
    record { places = λ p h. t.places p (s.places p h); ends = λ h. t.ends (s.ends h); leaves = λ k h. t.leaves k (s.leaves k h) }

pub either_left : (x y : Report) {z : Report} → Sub (either x y) z → Sub x z
either_left x y s =
    record {
      places = λ p h. s.places p (member_left p x.places y.places h);
      ends = λ h. s.ends (or_left x.ends y.ends h);
      leaves = λ k h. s.leaves k (or_left (x.leaves k) (y.leaves k) h);
    }

pub either_right : (x y : Report) {z : Report} → Sub (either x y) z → Sub y z
either_right x y s =
    record {
      places = λ p h. s.places p (member_right p x.places y.places h);
      ends = λ h. s.ends (or_right x.ends y.ends h);
      leaves = λ k h. s.leaves k (or_right (x.leaves k) (y.leaves k) h);
    }

-- when the first has ended, the second is what is reached
pub turn_second : (x y : Report) {z : Report} → x.ends ≡ true → Sub (in_turn x y) z → Sub y z
turn_second x y e s =
    record {
      places = λ p h. s.places p (member_right p x.places (cond x.ends y.places []) (rw e h));
      ends = λ h. s.ends (and_true x.ends y.ends e h);
      leaves = λ k h. s.leaves k (or_right (x.leaves k) (x.ends && y.leaves k) (and_true x.ends (y.leaves k) e h));
    }

pub beside_second : (x y : Report) {z : Report} → x.ends ≡ true → Sub (beside x y) z → Sub y z
beside_second x y e s =
    record {
      places = λ p h. s.places p (member_right p x.places y.places h);
      ends = λ h. s.ends (and_true x.ends y.ends e h);
      leaves = λ k h. s.leaves k (or_right (x.leaves k) (y.leaves k) h);
    }

pub beside_first : (x y : Report) {z : Report} → y.ends ≡ true → Sub (beside x y) z → Sub x z
beside_first x y e s =
    record {
      places = λ p h. s.places p (member_left p x.places y.places h);
      ends = λ h. s.ends (and_true x.ends y.ends h e);
      leaves = λ k h. s.leaves k (or_left (x.leaves k) (y.leaves k) h);
    }

pub turning_sub : {x y : Report} → Sub x y → Sub (turning x) (turning y)
turning_sub s = record { places = s.places; ends = λ h. h; leaves = s.leaves }
