-- Laws of bytes that are written behind those that a buffer keeps.
-- Assumes nothing.
use Rattle.std.specs.Prelude.{ℕ, ◌+◌, ◌-◌, ◌≤◌, ◌≡◌, refl, List, ◌++◌, length, take}
use Rattle.std.proofs.Common.{ap, ◌∙◌, arith, length-append, length-take, length-drop}
use Rattle.std.proofs.lemmas.Slice.{take-put_mid}
use borrow.Rule.Slice.PartMut.{put_mid}
use Rattle.lines.specs.Appended.{Appended}

-- as many bytes as there are, written behind those that are kept
pub overwritten : (before more ys : List ℕ) {at : ℕ} → ys ≡ more → at + length more ≤ length before
    → Appended before (put_mid at (at + length more - at) before ys) at (at + length more) more
overwritten before more ys {at} e h = record {
  size = refl;
  room = rw e (omega (arith, length-append {A = ℕ}, length-take {A = ℕ}, length-drop {A = ℕ}));
  kept = take-put_mid at (at + length more - at) before ys (at + length more) (rw e refl) (omega arith) ∙ ap (λ l. take at before ++ l) e;
}
