-- The answer, from the numbers in the memory.
-- Assumes nothing.
use Rattle.std.specs.Prelude.{ℕ, zero, suc, ◌+◌, ◌<◌, ◌≤◌, ◌≡◌, refl, cond, List, [], ◌∷◌, eqb, length}
use Rattle.std.proofs.Math.Path.{sym, ap, ap₂}
use Rattle.std.proofs.Common.{◌∙◌, arith, zero-add, add-zero, eq-eqb, ne_eqb}
use Rattle.std.proofs.Math.Option.{Option, none, some}
use Rattle.std.proofs.Math.Decide.{dec_lt}
use Rattle.cells.specs.Cells.{cell}
use Rattle.rules.specs.Stores.{Entry, just_so, up_to}
use Rattle.traces.specs.Cited.Marking.{at, never, raise, lesser, Cells, untaken, verdict}
use Rattle.matching.specs.Matching.{answer_in}
use Rattle.matching.specs.Room.{endless, pos_of, left_from, matching_in, Sound}
use Rattle.room.specs.Trace.{floor_cell, bad_cell}
use Rattle.matching.specs.Laws.Room.{pos_at, pos_never}

untaken_behind : (o : Option Entry) (cs : Cells) → o ≡ none → untaken (o ∷ cs) ≡ raise (untaken cs)
unfolding untaken
untaken_behind o cs e = rw e refl

taken_first : (b : List ℕ) (k : ℕ) (x : Entry) (l : List Entry) → (cell 2 b k ≡ 0 → ⊥) → untaken (left_from b k (x ∷ l)) ≡ raise (untaken (left_from b (suc k) l))
unfolding left_from
taken_first b k x l h = untaken_behind (cond (eqb (cell 2 b k) 0) (some x) none) (left_from b (suc k) l) (ap (λ n. cond n (some x) none) (ne_eqb (cell 2 b k) 0 h))

untaken_at : (b : List ℕ) (k : ℕ) (l : List Entry) (r : ℕ) → ((j : ℕ) → k ≤ j → j < k + r → cell 2 b j ≡ 0 → ⊥) → r < length l → cell 2 b (k + r) ≡ 0
    → untaken (left_from b k l) ≡ at r
unfolding left_from untaken
untaken_at b k [] r p h e = absurd (omega arith)
untaken_at b k (x ∷ l) zero p h e =
    ap (λ n. untaken (cond n (some x) none ∷ left_from b (suc k) l)) (eq-eqb (cell 2 b k) 0 (ap (cell 2 b) (sym (add-zero k)) ∙ e))
untaken_at b k (x ∷ l) (suc r) p h e =
    let q : suc k + r ≡ k + suc r = omega arith in
    taken_first b k x l (p k (omega arith) (omega arith)) ∙ ap raise (untaken_at b (suc k) l r (λ j m n. p j (omega arith) (omega arith)) (omega arith) (ap (cell 2 b) q ∙ e))

untaken_none : (b : List ℕ) (k : ℕ) (l : List Entry) → ((j : ℕ) → k ≤ j → j < k + length l → cell 2 b j ≡ 0 → ⊥) → untaken (left_from b k l) ≡ never
unfolding left_from untaken
untaken_none b k [] p = refl
untaken_none b k (x ∷ l) p = taken_first b k x l (p k (omega arith) (omega arith)) ∙ ap raise (untaken_none b (suc k) l (λ j m n. p j (omega arith) (omega arith)))

-- the entries before i are taken
pub record Looked (b : List ℕ) (n i : ℕ) : Type 0 where
  pub within : i ≤ n
  pub taken : (j : ℕ) → j < i → cell 2 b j ≡ 0 → ⊥

pub none_looked : (b : List ℕ) (n : ℕ) → Looked b n 0
none_looked b n = record { within = omega arith; taken = λ j h. absurd (omega arith) }

module _ {b : List ℕ} {n i : ℕ} (v : Looked b n i) where
  pub more_looked : {g : ℕ} → i < n → g ≡ cell 2 b i → (g ≡ 0 → ⊥) → Looked b n (i + 1)
  more_looked {g} h is_g k = record { within = omega arith; taken = λ j m e. by j m e (dec_lt j i) }
    where
      by : (j : ℕ) → j < i + 1 → cell 2 b j ≡ 0 → Dec (j < i) → ⊥
      by j m e (yes p) = v.taken j p e
      by j m e (no p) = let u : i ≡ j = omega arith in k (is_g ∙ ap (cell 2 b) u ∙ e)

  module _ {l : List Entry} (s : Sound l b) (is_n : n ≡ length l) where
    pub left_here : {g : ℕ} → i < n → g ≡ cell 2 b i → g ≡ 0 → pos_of i ≡ untaken (matching_in l b).cells
    unfolding matching_in
    left_here h is_g e =
        pos_at i (omega (arith, s.few)) ∙ sym (untaken_at b 0 l i (λ j m k. v.taken j (omega arith)) (omega arith) (ap (cell 2 b) (zero-add i) ∙ sym is_g ∙ e))

    pub none_left : n ≤ i → pos_of endless ≡ untaken (matching_in l b).cells
    unfolding matching_in
    none_left h = pos_never endless (omega arith) ∙ sym (untaken_none b 0 l (λ j m k. v.taken j (omega arith)))

-- the least bad entry, and the floor
module _ (l : List Entry) (b : List ℕ) {g : ℕ} (u r : ℕ) (is_g : g ≡ cell 2 b bad_cell) (is_u : pos_of u ≡ untaken (matching_in l b).cells) (e : pos_of r ≡ lesser (pos_of g) (pos_of u)) where
  least_is : pos_of r ≡ lesser (matching_in l b).bad (untaken (matching_in l b).cells)
  unfolding matching_in
  least_is = e ∙ ap₂ lesser (ap pos_of is_g) is_u

  pub says_bad : (n : ℕ) → r < endless → up_to r ≡ answer_in (matching_in l b) n
  unfolding answer_in verdict
  says_bad n h = ap (λ p. verdict p (matching_in l b).floor n) (sym (pos_at r h) ∙ least_is)

  module _ {f : ℕ} (is_f : f ≡ cell 2 b floor_cell) (n : ℕ) (h : endless ≤ r) where
    fine_so_far : verdict never (pos_of f) n ≡ answer_in (matching_in l b) n
    unfolding answer_in matching_in
    fine_so_far = ap₂ (λ p q. verdict p q n) (sym (pos_never r h) ∙ least_is) (ap pos_of is_f)

    pub says_missing : f ≡ endless → up_to n ≡ answer_in (matching_in l b) n
    unfolding verdict
    says_missing k = ap (λ q. verdict never q n) (sym (pos_never f (omega arith))) ∙ fine_so_far

    pub says_all : f < endless → just_so ≡ answer_in (matching_in l b) n
    unfolding verdict
    says_all k = ap (λ q. verdict never q n) (sym (pos_at f k)) ∙ fine_so_far
