-- The bytes of a number, put in the place of as many others, are the cell that is put.
-- Assumes nothing.
use Rattle.std.specs.Prelude.{◌≡◌, refl, List, [], ◌∷◌, ◌++◌, ℕ, zero, suc, ◌+◌, ◌/◌, ◌%◌, ◌^◌, ◌≤◌, length, take, drop, set}
use Rattle.std.specs.Int.{bytes_low_first}
use Rattle.std.proofs.Common.{sym, ap, ◌∙◌, arith, length-set, append_assoc}
use Rattle.std.proofs.Math.Nat.{pow-succ', div-div-eq-div-mul, mul_comm}
use Rattle.std.proofs.lemmas.List.{take-append-drop, take_more_set, drop-set-lt, drop-drop}
use borrow.Rule.Slice.PartMut.{put_mid}
use Rattle.cells.specs.Cells.{put_at}

-- the bytes of v, the lowest first
digits : ℕ → ℕ → List ℕ
digits zero v = []
digits (suc w) v = v % 256 ∷ digits w (v / 256)

higher : (w k v : ℕ) → bytes_low_first (suc k) w v ≡ digits w (v / 256 ^ suc k)
unfolding digits
higher zero k v = refl
higher (suc w) k v =
    let next : v / 256 ^ suc (suc k) ≡ v / 256 ^ suc k / 256
    = ap (λ n. v / n) (pow-succ' 256 (suc k) ∙ mul_comm 256 (256 ^ suc k)) ∙ sym (div-div-eq-div-mul v (256 ^ suc k) 256) in
    ap (λ l. v / 256 ^ suc k % 256 ∷ l) (higher w (suc k) v ∙ ap (digits w) next)

bytes_of : (w v : ℕ) → bytes_low_first 0 (suc w) v ≡ digits (suc w) v
unfolding digits
bytes_of w v = ap (λ l. v % 256 ∷ l) (higher w 0 v)

written : (w : ℕ) (b : List ℕ) (o v : ℕ) → o + w ≤ length b → take o b ++ (digits w v ++ drop w (drop o b)) ≡ put_at w b o v
unfolding digits put_at
written zero b o v h = take-append-drop o b
written (suc w) b o v h =
    let c : List ℕ = set b o (v % 256) in
    let ds : List ℕ = digits w (v / 256) in
    let back : drop (suc w) (drop o b) ≡ drop w (drop (o + 1) c)
    = drop-drop (suc w) o b ∙ ap (λ n. drop n b) (omega arith) ∙ sym (drop-drop w (o + 1) b)
    ∙ ap (drop w) (sym (drop-set-lt (o + 1) b o (v % 256) (omega arith))) in
    ap (λ l. take o b ++ (v % 256 ∷ ds ++ l)) back
    ∙ sym (append_assoc (take o b) (v % 256 ∷ []) (ds ++ drop w (drop (o + 1) c)))
    ∙ ap (λ l. l ++ (ds ++ drop w (drop (o + 1) c))) (sym (take_more_set b o (v % 256) (omega arith)))
    ∙ written w c (o + 1) (v / 256) (simp length-set (omega arith))

-- so does a write of as many bytes as the cell has
pub placed : (w : ℕ) (b new : List ℕ) (o n v : ℕ) → new ≡ bytes_low_first 0 (suc w) v → n ≡ suc w → o + suc w ≤ length b
    → put_mid o n b new ≡ put_at (suc w) b o v
placed w b new o n v is count h =
    ap (λ l. put_mid o n b l) (is ∙ bytes_of w v) ∙ ap (λ k. put_mid o k b (digits (suc w) v)) count ∙ written (suc w) b o v h
