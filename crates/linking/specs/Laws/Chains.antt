-- The entries of a word, followed from one to the next, and how they are linked.
-- Assumes nothing.
use Rattle.std.specs.Prelude.{ℕ, suc, ◌+◌, ◌-◌, ◌<◌, ◌≤◌, ◌≡◌, refl, cond, List, [], ◌∷◌, map, eqb, length, get_or}
use Rattle.std.proofs.Common.{sym, ◌∙◌, ap, ap₂, arith, add-one}
use Rattle.std.proofs.Math.Option.{none, some}
use Rattle.std.proofs.Math.Decide.{dec_lt}
use Rattle.cells.specs.Cells.{cell, put_cell}
use Rattle.cells.proofs.Laws.{cell_same, cell_other, long_put}
use Rattle.rules.specs.Limits.{most_words}
use Rattle.rules.specs.Stores.{Entry, entry}
use Rattle.traces.specs.Cited.Marking.{Cells}
use Rattle.rules.specs.Entries.{most_entries}
use Rattle.matching.specs.Room.{endless, pos_of, left_from, groups_in, matching_in, word_at, Next, Reached, Sound, Stands, Linked, Filled}
use Rattle.room.specs.Trace.{room_size, next_cell, floor_cell, bad_cell, depth_cell, first_cell}
use Rattle.matching.specs.Matching.{untold}
use Rattle.linking.specs.Seeking.{OfWord, Sought, Reaches, Seeks}
use Rattle.matching.specs.Laws.Room.{pos_at, pos_never, left_frame, groups_frame, cells_long, taken_there, left_there}
use Rattle.linking.specs.Laws.Puts.{same_matching, reached_frame}

-- where the search of a word begins
pub first_reached : {l : List Entry} {b : List ℕ} {w r : ℕ} → Sound l b → w < most_words → r ≡ cell 2 b (first_cell + w) → Reached l b w r
first_reached {w = w} s k e = rw e (s.first w k)

-- where it ends
pub reaches_here : {l : List Entry} {b : List ℕ} {w i g : ℕ} → Reached l b w i → g ≡ cell 2 b i → g ≡ 0 → Reaches l b w i
reaches_here v is_g e = record { reached = v; untaken = λ h. sym is_g ∙ e }

pub reaches_none : {l : List Entry} {b : List ℕ} {w i : ℕ} → Reached l b w i → length l ≤ i → Reaches l b w i
reaches_none v h = record { reached = v; untaken = λ m. absurd (omega arith) }

-- a taken entry is passed, and the next one of its word is reached
pub reach_next : {l : List Entry} {b : List ℕ} {w i g r : ℕ} → Sound l b → w < most_words → Reached l b w i → i < length l → g ≡ cell 2 b i → (g ≡ 0 → ⊥)
    → r ≡ cell 2 b (next_cell + i) → (i < r) × Reached l b w r
reach_next {l} {b} {w} {i} {g} {r} s k v h is_g n is_r = (omega (arith, next.least), record { most = next.most; passed = passed; found = next.found })
  where
    next : Next l w (suc i) r
    next = let e : word_at l i ≡ w = v.found h in rw (← e, is_r) (s.next i h (omega arith))

    passed : (j : ℕ) → j < r → word_at l j ≡ w → cell 2 b j ≡ 0 → ⊥
    passed j m e z = by (dec_lt j i) (dec_lt i j)
      where
        by : Dec (j < i) → Dec (i < j) → ⊥
        by (yes p) q = v.passed j p e z
        by (no p) (yes q) = next.passed j (omega arith) m e
        by (no p) (no q) = let u : j ≡ i = omega arith in n (is_g ∙ ap (cell 2 b) (sym u) ∙ z)

module _ {l : List Entry} {b : List ℕ} {w r : ℕ} (s : Sound l b) (v : Reaches l b w r) where
  of_word : (k : ℕ) → k < length l → cell 2 b k ≡ 0 → OfWord w (get_or (matching_in l b).cells k none) → word_at l k ≡ w
  of_word k h z o = rw (left_there s k h z) at o

  -- what is reached is what is sought
  reached_sought : Sought w (matching_in l b).cells r
  reached_sought = record {
    most = omega (arith, cells_long s, v.reached.most);
    passed = λ k m o. by k m o (dec_lt 0 (cell 2 b k));
    found = λ h. rw (left_there s r (omega (arith, cells_long s)) (v.untaken (omega (arith, cells_long s)))) (v.reached.found (omega (arith, cells_long s)));
  }
    where
      by : (k : ℕ) → k < r → OfWord w (get_or (matching_in l b).cells k none) → Dec (0 < cell 2 b k) → ⊥
      by k m o (yes p) = rw (taken_there s k (omega (arith, v.reached.most)) (λ q. omega arith)) at o
      by k m o (no p) =
          let z : cell 2 b k ≡ 0 = omega arith in
          v.reached.passed k m (of_word k (omega (arith, v.reached.most)) z o) z

  -- the next search of the word begins there
  first_put : w < most_words → Stands l (put_cell 2 b (first_cell + w) r) (matching_in l b)
  unfolding matching_in
  first_put k =
      let a = put_cell 2 b (first_cell + w) r in
      let few = s.few in
      let low : (j : ℕ) → j < first_cell → cell 2 a j ≡ cell 2 b j = λ j h. cell_other 2 b (first_cell + w) r j (λ q. omega arith) in
      record {
        sound = record {
          few = s.few;
          long = omega (arith, long_put 2 b (first_cell + w) r, s.long);
          shallow = rw (low depth_cell (omega arith)) s.shallow;
          next = λ i m n. rw (low (next_cell + i) (omega arith)) (s.next i m n);
          first = λ u m. first u m (dec_lt u w) (dec_lt w u);
        };
        is = same_matching
            (left_frame a b 0 l (λ j h. low j (omega arith)))
            (ap pos_of (low floor_cell (omega arith)))
            (ap pos_of (low bad_cell (omega arith)))
            (ap (groups_in a) (low depth_cell (omega arith)) ∙ groups_frame a b (cell 2 b depth_cell) (λ j m n. low j (omega (arith, s.shallow))));
      }
    where
      kept : {u q : ℕ} → Reached l b u q → Reached l (put_cell 2 b (first_cell + w) r) u q
      kept x = reached_frame s.few (λ j h. cell_other 2 b (first_cell + w) r j (λ q. omega arith)) x

      other : (u : ℕ) → u < most_words → (u ≡ w → ⊥) → Reached l (put_cell 2 b (first_cell + w) r) u (cell 2 (put_cell 2 b (first_cell + w) r) (first_cell + u))
      other u m n = rw (cell_other 2 b (first_cell + w) r (first_cell + u) (λ q. n (omega arith))) (kept (s.first u m))

      first : (u : ℕ) → u < most_words → Dec (u < w) → Dec (w < u) → Reached l (put_cell 2 b (first_cell + w) r) u (cell 2 (put_cell 2 b (first_cell + w) r) (first_cell + u))
      first u m (yes p) q = other u m (λ e. omega arith)
      first u m (no p) (yes q) = other u m (λ e. omega arith)
      first u m (no p) (no q) =
          let e : u ≡ w = omega arith in
          rw (e, cell_same 2 b (first_cell + w) r (omega (arith, s.long)) (omega (arith, v.reached.most, s.few))) (kept v.reached)

  pub seeks_there : {a : List ℕ} → w < most_words → a ≡ put_cell 2 b (first_cell + w) r → Seeks l b a w r
  seeks_there k e = rw e (record { stands = first_put k; sought = reached_sought })

-- every word begins with no entry
pub none_filled : (b : List ℕ) (v : ℕ) → Filled b b v 0
none_filled b v = record { long = refl; each = λ w h. absurd (omega arith) }

pub more_filled : {b now a : List ℕ} {v w : ℕ} → Filled b now v w → room_size ≤ length b → w < most_words → v < 65536 → a ≡ put_cell 2 now (first_cell + w) v → Filled b a v (w + 1)
more_filled {b} {now} {a} {v} {w} f room h k e = rw e (record { long = long_put 2 now (first_cell + w) v ∙ f.long; each = λ u m. by u m (dec_lt u w) })
  where
    by : (u : ℕ) → u < w + 1 → Dec (u < w) → cell 2 (put_cell 2 now (first_cell + w) v) (first_cell + u) ≡ v
    by u m (yes p) = cell_other 2 now (first_cell + w) v (first_cell + u) (λ q. omega arith) ∙ f.each u p
    by u m (no p) =
        let q : u ≡ w = omega arith in
        ap (λ n. cell 2 (put_cell 2 now (first_cell + w) v) (first_cell + n)) q ∙ cell_same 2 now (first_cell + w) v (omega (arith, f.long)) k

pub all_filled : {b a : List ℕ} {v w : ℕ} → Filled b a v w → most_words ≤ w → Filled b a v most_words
all_filled f h = record { long = f.long; each = λ u m. f.each u (omega arith) }

pub filled_linked : {l : List Entry} {b a : List ℕ} {v : ℕ} → Filled b a v most_words → v ≡ length l → room_size ≤ length b → length l ≤ most_entries → Linked l a (length l)
filled_linked {l} f e room few = record {
  few = few;
  long = omega (arith, f.long);
  within = omega arith;
  clear = λ k m n. absurd (omega arith);
  next = λ k m n. absurd (omega arith);
  first = λ w h. rw (f.each w h, e) (record { least = omega arith; most = omega arith; passed = λ k m n. absurd (omega arith); found = λ m. absurd (omega arith) });
}

-- an entry that is not of the word
next_passed : {l : List Entry} {w i r : ℕ} → Next l w (i + 1) r → (word_at l i ≡ w → ⊥) → Next l w i r
next_passed {l} {w} {i} {r} n h = record { least = omega (arith, n.least); most = n.most; passed = λ k m o e. by k m o e (dec_lt i k); found = n.found }
  where
    by : (k : ℕ) → i ≤ k → k < r → word_at l k ≡ w → Dec (i < k) → ⊥
    by k m o e (yes p) = n.passed k (omega arith) o e
    by k m o e (no p) = let u : k ≡ i = omega arith in h (ap (word_at l) (sym u) ∙ e)

-- the entry i is not taken; its word is none that is stored
module _ {l : List Entry} {b : List ℕ} (i : ℕ) (v : Linked l b (i + 1)) where
  module _ {a : List ℕ} (e : a ≡ put_cell 2 b i 0) where
    cleared_other : (j : ℕ) → most_entries ≤ j → cell 2 a j ≡ cell 2 b j
    cleared_other j h = ap (λ (n : List ℕ). cell 2 n j) e ∙ cell_other 2 b i 0 j (λ q. omega (arith, v.few, v.within))

    cleared_long : length a ≡ length b
    cleared_long = ap length e ∙ long_put 2 b i 0

    cleared : (k : ℕ) → i ≤ k → k < length l → cell 2 a k ≡ 0
    cleared k m n = by (dec_lt i k)
      where
        by : Dec (i < k) → cell 2 a k ≡ 0
        by (yes p) = ap (λ (n : List ℕ). cell 2 n k) e ∙ cell_other 2 b i 0 k (λ q. omega arith) ∙ v.clear k (omega arith) n
        by (no p) =
            let u : k ≡ i = omega arith in
            ap (cell 2 a) u ∙ ap (λ (n : List ℕ). cell 2 n i) e ∙ cell_same 2 b i 0 (omega (arith, v.long, v.few, v.within)) (omega arith)

    pub unlinked : {x : Entry} → x ≡ get_or l i (entry 0 0 0) → most_words ≤ x.word → Linked l a i
    unlinked {x} is_x h = record {
      few = v.few;
      long = omega (arith, v.long, cleared_long);
      within = omega (arith, v.within);
      clear = cleared;
      next = λ k m n o. next k m n o (dec_lt i k);
      first = λ w m. rw (cleared_other (first_cell + w) (omega arith)) (next_passed (v.first w m) (λ q. omega (arith, ap (λ (y : Entry). y.word) is_x)));
    }
      where
        next : (k : ℕ) → i ≤ k → k < length l → word_at l k < most_words → Dec (i < k) → Next l (word_at l k) (suc k) (cell 2 a (next_cell + k))
        next k m n o (yes p) = rw (cleared_other (next_cell + k) (omega arith)) (v.next k (omega arith) n o)
        next k m n o (no p) =
            let u : k ≡ i = omega arith in
            absurd (omega (arith, ap (word_at l) u, ap (λ (y : Entry). y.word) is_x))

    -- the entry i comes in front of those of its word
    pub linked : {x : Entry} {g : ℕ} {a₁ a₂ : List ℕ} → x ≡ get_or l i (entry 0 0 0) → x.word < most_words → g ≡ cell 2 a (first_cell + x.word) → g < 65536
        → a₁ ≡ put_cell 2 a (next_cell + i) g → a₂ ≡ put_cell 2 a₁ (first_cell + x.word) i → Linked l a₂ i
    linked {x} {g} {a₁} {a₂} is_x h is_g k e₁ e₂ = record {
      few = v.few;
      long = omega (arith, v.long, long_two);
      within = omega (arith, v.within);
      clear = λ j m n. two_other j (λ q. omega (arith, v.few)) (λ q. omega (arith, v.few)) ∙ cleared j m n;
      next = λ j m n o. next j m n o (dec_lt i j);
      first = λ u m. first u m (dec_lt u w) (dec_lt w u);
    }
      where
        w : ℕ
        w = x.word

        is_w : word_at l i ≡ w
        is_w = sym (ap (λ (y : Entry). y.word) is_x)

        long_two : length a₂ ≡ length b
        long_two = ap length e₂ ∙ long_put 2 a₁ (first_cell + w) i ∙ ap length e₁ ∙ long_put 2 a (next_cell + i) g ∙ cleared_long

        two_other : (j : ℕ) → (j ≡ next_cell + i → ⊥) → (j ≡ first_cell + w → ⊥) → cell 2 a₂ j ≡ cell 2 a j
        two_other j m n =
            ap (λ (y : List ℕ). cell 2 y j) e₂ ∙ cell_other 2 a₁ (first_cell + w) i j n ∙ ap (λ (y : List ℕ). cell 2 y j) e₁ ∙ cell_other 2 a (next_cell + i) g j m

        there : cell 2 a₂ (next_cell + i) ≡ cell 2 b (first_cell + w)
        there =
            ap (λ (y : List ℕ). cell 2 y (next_cell + i)) e₂ ∙ cell_other 2 a₁ (first_cell + w) i (next_cell + i) (λ q. omega (arith, v.few, v.within))
            ∙ ap (λ (y : List ℕ). cell 2 y (next_cell + i)) e₁ ∙ cell_same 2 a (next_cell + i) g (omega (arith, v.long, cleared_long, v.few, v.within)) k
            ∙ is_g ∙ cleared_other (first_cell + w) (omega arith)

        next : (j : ℕ) → i ≤ j → j < length l → word_at l j < most_words → Dec (i < j) → Next l (word_at l j) (suc j) (cell 2 a₂ (next_cell + j))
        next j m n o (yes p) =
            rw (two_other (next_cell + j) (λ q. omega arith) (λ q. omega (arith, v.few)), cleared_other (next_cell + j) (omega arith)) (v.next j (omega arith) n o)
        next j m n o (no p) =
            let u : j ≡ i = omega arith in
            rw (u, there, is_w) (rw add-one at (v.first w h))

        other : (u : ℕ) → u < most_words → (u ≡ w → ⊥) → Next l u i (cell 2 a₂ (first_cell + u))
        other u m n =
            rw (two_other (first_cell + u) (λ q. omega (arith, v.few, v.within)) (λ q. n (omega arith)), cleared_other (first_cell + u) (omega arith))
            (next_passed (v.first u m) (λ q. n (sym q ∙ is_w)))

        here : cell 2 a₂ (first_cell + w) ≡ i
        here = ap (λ (y : List ℕ). cell 2 y (first_cell + w)) e₂ ∙ cell_same 2 a₁ (first_cell + w) i (omega (arith, v.long, ap length e₁, long_put 2 a (next_cell + i) g, cleared_long)) (omega (arith, v.few, v.within))

        first : (u : ℕ) → u < most_words → Dec (u < w) → Dec (w < u) → Next l u i (cell 2 a₂ (first_cell + u))
        first u m (yes p) q = other u m (λ e. omega arith)
        first u m (no p) (yes q) = other u m (λ e. omega arith)
        first u m (no p) (no q) =
            let e : u ≡ w = omega arith in
            rw (e, here) (record { least = omega arith; most = omega (arith, v.within); passed = λ k m n. absurd (omega arith); found = λ n. is_w })

-- all are linked, and the numbers are put
pub one_less : {l : List Entry} {b : List ℕ} {i : ℕ} → Linked l b i → 0 < i → Linked l b (i - 1 + 1)
one_less {i = i} v h = let e : i - 1 + 1 ≡ i = omega arith in rw e v

pub none_before : {l : List Entry} {b : List ℕ} {i : ℕ} → Linked l b i → i ≤ 0 → Linked l b 0
none_before {i = i} v h = let e : 0 ≡ i = omega arith in rw e v

left_all : (b : List ℕ) (k : ℕ) (l : List Entry) → ((j : ℕ) → k ≤ j → j < k + length l → cell 2 b j ≡ 0) → left_from b k l ≡ map some l
unfolding left_from
left_all b k [] h = refl
left_all b k (x ∷ l) h =
    ap₂ (λ n (t : Cells). cond (eqb n 0) (some x) none ∷ t) (h k (omega arith) (omega arith)) (left_all b (suc k) l (λ j m n. h j (omega arith) (omega arith)))

pub begun : {l : List Entry} {b a₁ a₂ a : List ℕ} → Linked l b 0 → a₁ ≡ put_cell 2 b floor_cell 0 → a₂ ≡ put_cell 2 a₁ bad_cell endless → a ≡ put_cell 2 a₂ depth_cell 0
    → Stands l a (untold l)
unfolding matching_in groups_in
begun {l} {b} {a₁} {a₂} {a} v e₁ e₂ e₃ = record {
  sound = record {
    few = v.few;
    long = omega (arith, v.long, same_long);
    shallow = omega (arith, depth);
    next = λ i m n. rw (other (next_cell + i) (λ q. omega arith) (λ q. omega arith) (λ q. omega arith)) (v.next i (omega arith) m n);
    first = λ w m. rw (other (first_cell + w) (λ q. omega arith) (λ q. omega arith) (λ q. omega arith)) (reached (v.first w m));
  };
  is = same_matching (left_all a 0 l (λ j m n. other j (λ q. omega (arith, v.few)) (λ q. omega (arith, v.few)) (λ q. omega (arith, v.few)) ∙ v.clear j (omega arith) (omega arith)))
      (ap pos_of floor ∙ pos_at 0 (omega arith)) (ap pos_of bad ∙ pos_never endless (omega arith)) (ap (groups_in a) depth);
}
  where
    long₁ : length a₁ ≡ length b
    long₁ = ap length e₁ ∙ long_put 2 b floor_cell 0

    long₂ : length a₂ ≡ length a₁
    long₂ = ap length e₂ ∙ long_put 2 a₁ bad_cell endless

    same_long : length a ≡ length b
    same_long = ap length e₃ ∙ long_put 2 a₂ depth_cell 0 ∙ long₂ ∙ long₁

    other : (j : ℕ) → (j ≡ floor_cell → ⊥) → (j ≡ bad_cell → ⊥) → (j ≡ depth_cell → ⊥) → cell 2 a j ≡ cell 2 b j
    other j m n o =
        ap (λ (y : List ℕ). cell 2 y j) e₃ ∙ cell_other 2 a₂ depth_cell 0 j o ∙ ap (λ (y : List ℕ). cell 2 y j) e₂ ∙ cell_other 2 a₁ bad_cell endless j n
        ∙ ap (λ (y : List ℕ). cell 2 y j) e₁ ∙ cell_other 2 b floor_cell 0 j m

    depth : cell 2 a depth_cell ≡ 0
    depth = ap (λ (y : List ℕ). cell 2 y depth_cell) e₃ ∙ cell_same 2 a₂ depth_cell 0 (omega (arith, v.long, long₁, long₂)) (omega arith)

    bad : cell 2 a bad_cell ≡ endless
    bad =
        ap (λ (y : List ℕ). cell 2 y bad_cell) e₃ ∙ cell_other 2 a₂ depth_cell 0 bad_cell (λ q. omega arith) ∙ ap (λ (y : List ℕ). cell 2 y bad_cell) e₂
        ∙ cell_same 2 a₁ bad_cell endless (omega (arith, v.long, long₁)) (omega arith)

    floor : cell 2 a floor_cell ≡ 0
    floor =
        ap (λ (y : List ℕ). cell 2 y floor_cell) e₃ ∙ cell_other 2 a₂ depth_cell 0 floor_cell (λ q. omega arith) ∙ ap (λ (y : List ℕ). cell 2 y floor_cell) e₂
        ∙ cell_other 2 a₁ bad_cell endless floor_cell (λ q. omega arith) ∙ ap (λ (y : List ℕ). cell 2 y floor_cell) e₁ ∙ cell_same 2 b floor_cell 0 (omega (arith, v.long)) (omega arith)

    reached : {w r : ℕ} → Next l w 0 r → Reached l a w r
    reached n = record { most = n.most; passed = λ k m e z. n.passed k (omega arith) m e; found = n.found }
