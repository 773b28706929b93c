-- The way between two instructions by numbers alone tells what is passed.
use Prim.Native.Nat.{ℕ, zero, suc, ◌+◌, ◌-◌, ◌≤◌}
use Rattle.std.specs.Prelude.{◌≡◌, Bool, true, false, eqb, length}
use Rattle.std.proofs.Math.Path.{refl, ap, ap₂}
use Rattle.std.proofs.Common.{sym, ◌∙◌, arith, zero-add}
use mathlib.Core.List.{List, [], ◌∷◌, ◌++◌, map}
use Rattle.std.proofs.Math.Nat.{add-zero, add-suc, suc-add}
use Rattle.traces.specs.Cited.Events.{Event, opens, turns, closes}
use Rattle.telling.specs.Cited.Passing.{Passing, opened, closed, group_event, times, meeting, meet, climb, leave_deeper, passage}
use Rattle.telling.specs.Cited.Cells.{Cells, up_from, cell_grouping}
use Rattle.passing.specs.Climbing.{meeting_told, up_by, meet_told}

opened_told : (to : List ℕ) → map group_event (map opened to) ≡ times (length to) opens
unfolding times
opened_told [] = refl
opened_told (y ∷ to) = ap (λ (es : List Event). opens ∷ es) (opened_told to)

pub closed_told : (xs : List ℕ) → map group_event (map closed xs) ≡ times (length xs) closes
unfolding times
closed_told [] = refl
closed_told (x ∷ xs) = ap (λ (es : List Event). closes ∷ es) (closed_told xs)

module _ (K : Cells) where
  -- x and those above it, d of them
  chain : ℕ → ℕ → List ℕ
  chain zero x = []
  chain (suc d) x = x ∷ chain d (K.up x)

  chain_length : (d x : ℕ) → length (chain d x) ≡ d
  unfolding chain
  chain_length zero x = refl
  chain_length (suc d) x = ap suc (chain_length d (K.up x))

  from_chain : (f x : ℕ) → up_from K f x ≡ chain (length (up_from K f x)) x
  unfolding up_from chain
  from_chain zero x = refl
  from_chain (suc f) zero = refl
  from_chain (suc f) (suc x) = ap (λ (xs : List ℕ). suc x ∷ xs) (from_chain f (K.up (suc x)))

  meeting_told_lem : (b : Bool) (j x y : ℕ) (to : List ℕ) (more : List Passing) {es : List Event} → map group_event more ≡ es
      → map group_event (meeting (cell_grouping K) b j x y to more) ≡ meeting_told b j (length to) es
  meeting_told_lem true j x y to more e = opened_told to
  meeting_told_lem false zero x y to more e = ap (λ (es : List Event). closes ∷ es) e
  meeting_told_lem false (suc j) x y to more e = ap (λ (es : List Event). turns ∷ es) (opened_told to)

  meet_told_lem : (d x y : ℕ) (to : List ℕ) → map group_event (meet (cell_grouping K) (chain d x) (chain d y) to) ≡ meet_told K d x y (length to)
  unfolding meet meet_told chain
  meet_told_lem zero x y to = opened_told to
  meet_told_lem (suc d) x y to = meeting_told_lem (eqb x y) ((cell_grouping K).before y) x y to _ (meet_told_lem d (K.up x) (K.up y) (y ∷ to))

  climb_told : (e d x y : ℕ) (to : List ℕ) → map group_event (climb (cell_grouping K) e (chain d x) (chain (d + e) y) to) ≡ meet_told K d x (up_by K e y) (length to + e)
  unfolding climb up_by chain
  climb_told zero d x y to = simp add-zero (meet_told_lem d x y to)
  climb_told (suc e) d x y to = simp add-suc (simp suc-add at (climb_told e d x (K.up y) (y ∷ to)))

  leave_told : (c e d x : ℕ) (ys : List ℕ)
      → map group_event (leave_deeper (cell_grouping K) c e (chain (d + c) x) ys) ≡ times c closes ++ map group_event (climb (cell_grouping K) e (chain d (up_by K c x)) ys [])
  unfolding leave_deeper up_by times chain
  leave_told zero e d x ys = simp add-zero
  leave_told (suc c) e d x ys = simp add-suc (ap (λ (es : List Event). closes ∷ es) (leave_told c e d (K.up x) ys))

  -- from inside a members to inside b of them; d is the lesser number
  passage_told : (a b x y c e d : ℕ) → a ≡ d + c → b ≡ d + e → a - b ≡ c → b - a ≡ e
      → map group_event (passage (cell_grouping K) (chain a x) (chain b y)) ≡ times c closes ++ meet_told K d (up_by K c x) (up_by K e y) e
  unfolding passage
  passage_told a b x y c e d p q r s =
      let way : ℕ → ℕ → List ℕ → List ℕ → List Event = λ m n us vs. map group_event (leave_deeper (cell_grouping K) m n us vs) in
      ap₂ (λ m n. way (m - n) (n - m) (chain a x) (chain b y)) (chain_length a x) (chain_length b y)
      ∙ ap₂ (λ m n. way m n (chain a x) (chain b y)) r s
      ∙ ap₂ (λ m n. way c e (chain m x) (chain n y)) p q
      ∙ leave_told c e d x (chain (d + e) y)
      ∙ ap (λ (es : List Event). times c closes ++ es) (climb_told e d (up_by K c x) y [] ∙ ap (meet_told K d (up_by K c x) (up_by K e y)) (zero-add e))

  from_told : (f : ℕ) {a : ℕ} (x : ℕ) → a ≡ length (up_from K f x) → up_from K f x ≡ chain a x
  from_told f x p = from_chain f x ∙ ap (λ k. chain k x) (sym p)

  -- into a body
  pub entered_told : (f y : ℕ) {b : ℕ} → b ≡ length (up_from K f y) → map group_event (passage (cell_grouping K) [] (up_from K f y)) ≡ times b opens
  unfolding chain times meet_told up_by
  entered_told f y {b} q =
      ap (λ (ys : List ℕ). map group_event (passage (cell_grouping K) [] ys)) (from_told f y q) ∙ passage_told 0 b 0 y 0 b 0 refl (omega arith) (omega arith) (omega arith)

  module _ {a b : ℕ} (f x y : ℕ) (p : a ≡ length (up_from K f x)) (q : b ≡ length (up_from K f y)) where
    chains : map group_event (passage (cell_grouping K) (up_from K f x) (up_from K f y)) ≡ map group_event (passage (cell_grouping K) (chain a x) (chain b y))
    chains = ap₂ (λ xs ys. map group_event (passage (cell_grouping K) xs ys)) (from_told f x p) (from_told f y q)

    -- out of as many members, or more; and out of fewer
    pub deeper_told : b ≤ a → map group_event (passage (cell_grouping K) (up_from K f x) (up_from K f y)) ≡ times (a - b) closes ++ meet_told K b (up_by K (a - b) x) y 0
    unfolding up_by
    deeper_told h = chains ∙ passage_told a b x y (a - b) 0 b (omega arith) (omega arith) refl (omega arith)

    pub higher_told : a ≤ b → map group_event (passage (cell_grouping K) (up_from K f x) (up_from K f y)) ≡ meet_told K a x (up_by K (b - a) y) (b - a)
    unfolding up_by times
    higher_told h = chains ∙ passage_told a b x y 0 (b - a) a (omega arith) (omega arith) (omega arith) refl
