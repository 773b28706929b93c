-- What the loops over bytes keep, and how a turn keeps it.
-- Assumes nothing.
use Rattle.std.specs.Prelude.{ℕ, ◌+◌, ◌*◌, ◌<◌, ◌≤◌, ◌≡◌, refl, true, false, ◌&&◌, List, eqb, length, get_or, drop, set}
use Rattle.std.proofs.Common.{sym, ap, ap₂, ◌∙◌, arith, add-one, eq-eqb, ne_eqb, length-set, drop_of_length-le, drop-cons}
use Rattle.std.proofs.Math.Seq.{paste, paste-zero, paste-suc}
use Rattle.rules.specs.Images.{checked_size, weighed, check_of, all_zero}

-- i bytes are copied
pub record Copied (before : List ℕ) (at : ℕ) (from now : List ℕ) (i : ℕ) : Type 0 where
  pub within : i ≤ length from
  pub long : length now ≡ length before
  pub is : now ≡ paste before at from i

pub none_copied : (before : List ℕ) (at : ℕ) (from : List ℕ) → Copied before at from before 0
none_copied before at from = record { within = omega arith; long = refl; is = paste-zero before at from }

pub more_copied : {before : List ℕ} {at : ℕ} {from now : List ℕ} {i : ℕ} → Copied before at from now i → at + length from ≤ length before → i < length from
    → Copied before at from (set now (at + i) (get_or from i 0)) (i + 1)
more_copied {before} {at} {from} {now} {i} v room h = record {
  within = omega arith;
  long = length-set now (at + i) (get_or from i 0) ∙ v.long;
  is = ap (λ l. set l (at + i) (get_or from i 0)) v.is ∙ rw add-one (paste-suc before at from i 0 (omega arith) h);
}

pub all_copied : {before : List ℕ} {at : ℕ} {from now : List ℕ} {i : ℕ} → Copied before at from now i → length from ≤ i → now ≡ paste before at from (length from)
all_copied {before} {at} {from} {i = i} v h = let e : i ≡ length from = omega arith in v.is ∙ ap (paste before at from) e

-- i bytes are summed up
pub record Summed (front : List ℕ) (sum i : ℕ) : Type 0 where
  pub within : i ≤ length front
  pub small : sum ≤ 129540 * i
  pub is : sum + weighed i (drop i front) ≡ check_of front

pub none_summed : (front : List ℕ) → Summed front 0 0
none_summed front = record { within = omega arith; small = omega arith; is = omega arith }

pub more_summed : {front : List ℕ} {sum i w : ℕ} → Summed front sum i → i < length front → (w ≡ get_or front i 0 * (i + 1)) × (w ≤ 129540)
    → Summed front (sum + w) (i + 1)
unfolding weighed
more_summed {front} {sum} {i} {w} v h e =
    let first : weighed i (drop i front) ≡ w + weighed (i + 1) (drop (i + 1) front) =
    ap (weighed i) (drop-cons front i 0 h) ∙ ap₂ (λ x j. x + weighed (i + 1) (drop j front)) (sym e.0) (sym (add-one i)) in
    record { within = omega arith; small = omega (arith, e.1); is = omega (arith, v.is) }

pub all_summed : {front : List ℕ} {sum i : ℕ} → Summed front sum i → length front ≤ i → length front ≡ checked_size → (sum ≡ check_of front) × (sum < 4294967296)
unfolding weighed
all_summed {front} {sum} {i} v h l =
    let over : weighed i (drop i front) ≡ 0 = ap (weighed i) (drop_of_length-le front {i = i} h) in
    (omega (arith, v.is), omega (arith, v.small))

-- i bytes are 0
pub record Zeros (bytes : List ℕ) (i : ℕ) : Type 0 where
  pub within : i ≤ length bytes
  pub is : all_zero (drop i bytes) ≡ all_zero bytes

pub none_zero : (bytes : List ℕ) → Zeros bytes 0
none_zero bytes = record { within = omega arith; is = refl }

first_zero : (bytes : List ℕ) (i : ℕ) → i < length bytes → all_zero (drop i bytes) ≡ (eqb (get_or bytes i 0) 0 && all_zero (drop (i + 1) bytes))
unfolding all_zero
first_zero bytes i h = ap all_zero (drop-cons bytes i 0 h) ∙ ap (λ j. eqb (get_or bytes i 0) 0 && all_zero (drop j bytes)) (sym (add-one i))

pub more_zero : {bytes : List ℕ} {i : ℕ} → Zeros bytes i → i < length bytes → get_or bytes i 0 ≡ 0 → Zeros bytes (i + 1)
more_zero {bytes} {i} v h z = record {
  within = omega arith;
  is = sym (first_zero bytes i h ∙ ap (λ t. t && all_zero (drop (i + 1) bytes)) (eq-eqb _ _ z)) ∙ v.is;
}

pub not_zero : {bytes : List ℕ} {i : ℕ} → Zeros bytes i → i < length bytes → (get_or bytes i 0 ≡ 0 → ⊥) → false ≡ all_zero bytes
not_zero {bytes} {i} v h z = sym (first_zero bytes i h ∙ ap (λ t. t && all_zero (drop (i + 1) bytes)) (ne_eqb _ _ z)) ∙ v.is

pub all_zero_lem : {bytes : List ℕ} {i : ℕ} → Zeros bytes i → length bytes ≤ i → true ≡ all_zero bytes
unfolding all_zero
all_zero_lem {bytes} {i} v h = sym (ap all_zero (drop_of_length-le bytes {i = i} h)) ∙ v.is
