-- Laws of numbers written into lent bytes, two at a time.
use Rattle.std.specs.Prelude.{ℕ, suc, ◌+◌, ◌*◌, ◌<◌, ◌≤◌, ◌≡◌, refl, List, [], ◌∷◌, ◌++◌, length, take, drop, get_or}
use Rattle.std.proofs.Common.{sym, ap, ap₂, ◌∙◌, append_assoc, append-nil, arith, add-one, length-take, take_all, take-suc}
use Rattle.rules.specs.Answers.{bytes_of}
use Rattle.rules.specs.Calls.Memory.{number_bytes}
use Rattle.cells.specs.Cells.{put_cell}
use Rattle.lent.specs.Laws.Bytes.{pair_put}

bytes_append : (xs ys : List ℕ) → number_bytes (xs ++ ys) ≡ number_bytes xs ++ number_bytes ys
unfolding number_bytes
bytes_append [] ys = refl
bytes_append (x ∷ xs) ys = ap (λ (l : List ℕ). bytes_of 4 x ++ l) (bytes_append xs ys) ∙ sym (append_assoc (bytes_of 4 x) (number_bytes xs) (number_bytes ys))

bytes_length : (xs : List ℕ) → length (number_bytes xs) ≡ 4 * length xs
unfolding number_bytes bytes_of
bytes_length [] = refl
bytes_length (x ∷ xs) = omega (arith, bytes_length xs)

-- the first k pairs are written
pub record Writing (before ns now : List ℕ) (i : ℕ) : Type 0 where
  pub within : i ≤ 12
  pub front : now ≡ number_bytes (take (2 * i) ns) ++ drop (8 * i) before
  pub long : length now ≡ length before

pub none_written : (before ns : List ℕ) → Writing before ns before 0
unfolding number_bytes
none_written before ns = record { within = omega arith; front = refl; long = refl }

pub all_written : {before ns now : List ℕ} {i : ℕ} → 12 ≤ i → length ns ≡ 24 → Writing before ns now i → now ≡ number_bytes ns ++ drop 96 before
all_written {before} {ns} {now} {i} h e w =
    let z : i ≡ 12 = omega (arith, w.within) in
    w.front ∙ (ap (λ (k : ℕ). number_bytes (take (2 * k) ns) ++ drop (8 * k) before) z
    ∙ ap (λ (l : List ℕ). number_bytes l ++ drop 96 before) (take_all 24 ns (omega arith)))

-- two more numbers
pairs : (ns : List ℕ) (i : ℕ) → 2 * i + 1 < length ns
    → number_bytes (take (2 * (i + 1)) ns) ≡ number_bytes (take (2 * i) ns) ++ (bytes_of 4 (get_or ns (2 * i) 0) ++ bytes_of 4 (get_or ns (2 * i + 1) 0))
unfolding number_bytes
pairs ns i h =
    let j = 2 * i in
    let a = get_or ns j 0 in
    let b = get_or ns (j + 1) 0 in
    let two : 2 * (i + 1) ≡ suc (suc j) = omega arith in
    let t : take (2 * (i + 1)) ns ≡ take j ns ++ (a ∷ b ∷ []) =
    ap (λ (k : ℕ). take k ns) two ∙ (take-suc ns (suc j) 0 (omega arith)
    ∙ (ap₂ (λ (l : List ℕ) (k : ℕ). l ++ (get_or ns k 0 ∷ [])) (take-suc ns j 0 (omega arith)) (sym (add-one j))
    ∙ append_assoc (take j ns) (a ∷ []) (b ∷ []))) in
    ap number_bytes t ∙ (bytes_append (take j ns) (a ∷ b ∷ []) ∙ ap (λ (l : List ℕ). number_bytes (take j ns) ++ (bytes_of 4 a ++ l)) (append-nil (bytes_of 4 b)))

module _ {before ns now next : List ℕ} {i low high v : ℕ} (w : Writing before ns now i) (h : i < 12) (size : length ns ≡ 24) (room : 96 ≤ length before) where
  pub pair_written : low ≡ get_or ns (2 * i) 0 → high ≡ get_or ns (2 * i + 1) 0 → low < 4294967296 → v ≡ low + 4294967296 * high → next ≡ put_cell 8 now i v
      → length next ≡ length now → Writing before ns next (i + 1)
  pair_written a b small e put long = record {
    within = omega arith;
    front =
        let f = number_bytes (take (2 * i) ns) in
        let o : 8 * i ≡ length f = omega (arith, bytes_length (take (2 * i) ns), length-take (2 * i) ns) in
        put ∙ (ap (put_cell 8 now i) e ∙ (pair_put f before now (8 * i) i low high w.front o refl (omega arith) small
        ∙ (ap₂ (λ (x y : ℕ). (f ++ (bytes_of 4 x ++ bytes_of 4 y)) ++ drop (8 * i + 8) before) a b
        ∙ ap₂ (λ (l : List ℕ) (k : ℕ). l ++ drop k before) (sym (pairs ns i (omega arith))) (let z : 8 * i + 8 ≡ 8 * (i + 1) = omega arith in z))));
    long = long ∙ w.long;
  }
