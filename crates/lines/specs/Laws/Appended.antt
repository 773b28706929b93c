-- Laws of appending: nothing, a byte more, one part behind another, and what is left of a part.
-- Assumes nothing.
use Rattle.std.specs.Prelude.{ℕ, ◌+◌, ◌<◌, ◌≡◌, refl, List, [], ◌∷◌, ◌++◌, length, take, set}
use Rattle.std.proofs.Common.{sym, ap, ◌∙◌, append_assoc, append-nil, arith, add-one, length-append, length-set, take-suc-set}
use Rattle.lines.specs.Appended.{Appended}

pub one_more : (before : List ℕ) {at b : ℕ} → at < length before → Appended before (set before at b) at (at + 1) (b ∷ [])
one_more before {at} {b} h = record { size = refl; room = length-set before at b; kept = rw add-one (take-suc-set before at b h) }

pub nothing_more : {buffer : List ℕ} {at : ℕ} → Appended buffer buffer at at []
nothing_more {buffer} {at} = record { size = omega arith; room = refl; kept = sym (append-nil (take at buffer)) }

pub and_then : {before between after : List ℕ} {at next r : ℕ} {xs ys : List ℕ} → Appended before between at next xs → Appended between after next r ys
    → Appended before after at r (xs ++ ys)
and_then {before} {at = at} {xs = xs} {ys} p q = record {
  size = omega (arith, p.size, q.size, length-append xs ys);
  room = q.room ∙ p.room;
  kept = q.kept ∙ ap (λ l. l ++ ys) p.kept ∙ append_assoc (take at before) xs ys;
}

-- of what is to be appended, the rest is still to come
pub record Left (before now : List ℕ) (start at : ℕ) (whole rest : List ℕ) : Type 0 where
  pub size : at + length rest ≡ start + length whole
  pub room : length now ≡ length before
  pub kept : take at now ++ rest ≡ take start before ++ whole

pub all_left : {buffer : List ℕ} {at : ℕ} {whole : List ℕ} → Left buffer buffer at at whole whole
all_left = record { size = refl; room = refl; kept = refl }

pub less_left : {before now after : List ℕ} {start at r : ℕ} {whole xs ys : List ℕ} → Left before now start at whole (xs ++ ys) → Appended now after at r xs
    → Left before after start r whole ys
less_left {now = now} {at = at} {xs = xs} {ys} l p = record {
  size = omega (arith, l.size, p.size, length-append xs ys);
  room = p.room ∙ l.room;
  kept = ap (λ m. m ++ ys) p.kept ∙ append_assoc (take at now) xs ys ∙ l.kept;
}

pub none_left : {before now : List ℕ} {start at : ℕ} {whole : List ℕ} → Left before now start at whole [] → Appended before now start at whole
none_left {now = now} {at = at} l = record {
  size = omega (arith, l.size);
  room = l.room;
  kept = sym (append-nil (take at now)) ∙ l.kept;
}
