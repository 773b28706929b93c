-- Laws of a word's letters where they stand in the text.
-- Assumes nothing.
use Rattle.std.specs.Prelude.{ℕ, zero, suc, ◌+◌, ◌*◌, ◌%◌, ◌<◌, ◌≤◌, ◌≡◌, refl, List, [], ◌∷◌, map, length, get_or, take, drop}
use Rattle.std.proofs.Common.{ap, ◌∙◌, arith, add-one, length-take, length-drop, get_or-take, get_or-drop}
use Rattle.std.proofs.lemmas.List.{length-map}
use Rattle.rules.specs.Text.Bytes.{fold}
use Rattle.records.specs.Holds.{folded_at}
use Rattle.spelling.specs.Trees.{hash_to, bit_of}
use Rattle.room.specs.Spelling.{heads}

map_at : (l : List ℕ) (k : ℕ) → k < length l → get_or (map fold l) k 0 ≡ fold (get_or l k 0)
map_at [] k h = absurd (omega arith)
map_at (b ∷ l) zero h = refl
map_at (b ∷ l) (suc k) h = map_at l k (omega arith)

map_behind : (l : List ℕ) (k : ℕ) → length l ≤ k → get_or (map fold l) k 0 ≡ 0
map_behind [] k h = refl
map_behind (b ∷ l) zero h = absurd (omega arith)
map_behind (b ∷ l) (suc k) h = map_behind l k (omega arith)

module _ (text : List ℕ) (p n : ℕ) (inside : p + n ≤ length text) where
  run_length : length (take n (drop p text)) ≡ n
  run_length = length-take n (drop p text) ∙ omega (arith, length-drop p text)

  pub letters : length (folded_at text p n) ≡ n
  letters = length-map (take n (drop p text)) fold ∙ run_length

  pub letter_at : (k : ℕ) → k < n → get_or (folded_at text p n) k 0 ≡ fold (get_or text (p + k) 0)
  letter_at k h = map_at (take n (drop p text)) k (omega (arith, run_length)) ∙ ap fold (get_or-take n (drop p text) k 0 h ∙ get_or-drop p text k 0)

  pub no_letter : (k : ℕ) → n ≤ k → get_or (folded_at text p n) k 0 ≡ 0
  no_letter k h = map_behind (take n (drop p text)) k (omega (arith, run_length))

pub hash_small : (w : List ℕ) (k : ℕ) → hash_to w k < heads
unfolding hash_to
hash_small w zero = omega arith
hash_small w (suc k) = omega arith

pub hash_next : (w : List ℕ) (k h x : ℕ) → h ≡ hash_to w k → x ≡ get_or w k 0 → (h * 33 + x) % heads ≡ hash_to w (k + 1)
unfolding hash_to
hash_next w k h x e f = rw (add-one, e, f)

pub bit_small : (w : List ℕ) (d : ℕ) → bit_of w d < 2
bit_small w d = omega arith
