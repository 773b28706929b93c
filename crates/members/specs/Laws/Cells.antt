-- The cells of a token: those that are written for it, and 0 behind the last one.
use Rattle.std.specs.Prelude.{ℕ, zero, suc, ◌+◌, ◌*◌, ◌<◌, ◌≤◌, ◌≡◌, refl, List}
use Rattle.std.proofs.Common.{sym, ◌∙◌, lt-ltb, le-ltb}
use Rattle.std.proofs.Math.Path.{ap}
use Rattle.std.proofs.Math.Bool.{cond}
use Rattle.cells.specs.Cells.{cell}
use Rattle.telling.specs.Cited.Cells.{member_by, member_of}
use Rattle.members.specs.Cells.{cells_in}

module _ (bytes : List ℕ) (n i : ℕ) where
  pub rank_is : i < n → (cells_in bytes n).rank i ≡ cell 2 bytes (2 * i)
  unfolding cells_in
  rank_is h = ap (λ b. cond b (cell 2 bytes (2 * i)) 0) (lt-ltb i n h)

  pub up_is : i < n → (cells_in bytes n).up i ≡ cell 2 bytes (2 * i + 1)
  unfolding cells_in
  up_is h = ap (λ b. cond b (cell 2 bytes (2 * i + 1)) 0) (lt-ltb i n h)

  pub rank_behind : n ≤ i → (cells_in bytes n).rank i ≡ 0
  unfolding cells_in
  rank_behind h = ap (λ b. cond b (cell 2 bytes (2 * i)) 0) (le-ltb i n h)

  pub up_behind : n ≤ i → (cells_in bytes n).up i ≡ 0
  unfolding cells_in
  up_behind h = ap (λ b. cond b (cell 2 bytes (2 * i + 1)) 0) (le-ltb i n h)

-- an instruction that begins no member, and one that does
module _ (bytes : List ℕ) (n i : ℕ) where
  pub member_around : {r u : ℕ} → r ≡ (cells_in bytes n).rank i → r ≡ 0 → u ≡ (cells_in bytes n).up i → u ≡ member_of (cells_in bytes n) i
  member_around e h f = f ∙ sym (ap (λ r. member_by (cells_in bytes n) r i) (sym e ∙ h))

  pub member_itself : (r : ℕ) → r ≡ (cells_in bytes n).rank i → (r ≡ 0 → ⊥) → i ≡ member_of (cells_in bytes n) i
  member_itself zero e h = absurd (h refl)
  member_itself (suc r) e h = sym (ap (λ x. member_by (cells_in bytes n) x i) (sym e))
