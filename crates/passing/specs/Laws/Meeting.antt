-- The way up, step by step, and the way between two instructions as a whole.
use Prim.Native.Nat.{ℕ, zero, suc, ◌+◌, ◌-◌, ◌≤◌, ◌<◌}
use Rattle.std.specs.Prelude.{◌≡◌, refl, false, List, [], ◌∷◌, ◌++◌, map, eqb, length}
use Rattle.std.proofs.Common.{sym, ◌∙◌, ap₂, add-one, eq-eqb, ne_eqb}
use Rattle.std.proofs.Math.Path.{ap}
use native.Mathlib.Omega.{arith}
use Rattle.rules.specs.Limits.{deepest}
use Rattle.rules.specs.Stores.{Entry}
use Rattle.laws_orders.proofs.Orders.Tests.{impossible}
use Rattle.traces.specs.Cited.Events.{Event, opens, turns, closes}
use Rattle.telling.specs.Cited.Passing.{Passing, closed, group_event, times, passage}
use Rattle.telling.specs.Cited.Cells.{Cells, member_of, up_from, cell_grouping}
use Rattle.telling.proofs.Marked.{from_few}
use Rattle.matching.specs.Room.{matching_in, Sound}
use Rattle.room.specs.Trace.{most_groups}
use Rattle.passing.specs.Climbing.{meeting_told, up_by, meet_told}
use Rattle.passing.specs.Depth.{depth_after, Fits}
use Rattle.passing.specs.Laws.Depth.{depth_told}
use Rattle.passing.specs.Laws.Climbing.{closed_told, entered_told, deeper_told, higher_told}

-- what is told where a member is not the first of its group, and where it is
turn_told : (j k : ℕ) (more : List Event) → 0 < j → meeting_told false j k more ≡ turns ∷ times k opens
turn_told zero k more h = impossible (omega arith)
turn_told (suc j) k more h = refl

close_told : (j k : ℕ) (more : List Event) → j ≤ 0 → meeting_told false j k more ≡ closes ∷ more
close_told zero k more h = refl
close_told (suc j) k more h = impossible (omega arith)

module _ (K : Cells) (d x y k : ℕ) where
  pub all_met : d ≤ 0 → meet_told K d x y k ≡ times k opens
  unfolding meet_told
  all_met h = let p : d ≡ 0 = omega arith in ap (λ n. meet_told K n x y k) p

  one_met : 0 < d → meet_told K d x y k ≡ meeting_told (eqb x y) ((cell_grouping K).before y) k (meet_told K (d - 1) (K.up x) (K.up y) (k + 1))
  unfolding meet_told
  one_met h =
      let p : d ≡ suc (d - 1) = omega arith in
      ap (λ n. meet_told K n x y k) p
      ∙ ap (λ n. meeting_told (eqb x y) ((cell_grouping K).before y) k (meet_told K (d - 1) (K.up x) (K.up y) n)) (sym (add-one k))

  pub same_met : 0 < d → x ≡ y → meet_told K d x y k ≡ times k opens
  same_met h e = one_met h ∙ ap (λ b. meeting_told b ((cell_grouping K).before y) k (meet_told K (d - 1) (K.up x) (K.up y) (k + 1))) (eq-eqb x y e)

  module _ {r : ℕ} (h : 0 < d) (n : x ≡ y → ⊥) (e : r ≡ K.rank y) where
    other_met : meet_told K d x y k ≡ meeting_told false ((cell_grouping K).before y) k (meet_told K (d - 1) (K.up x) (K.up y) (k + 1))
    other_met = one_met h ∙ ap (λ b. meeting_told b ((cell_grouping K).before y) k (meet_told K (d - 1) (K.up x) (K.up y) (k + 1))) (ne_eqb x y n)

    pub next_met : 3 ≤ r → meet_told K d x y k ≡ turns ∷ times k opens
    next_met t = other_met ∙ turn_told ((cell_grouping K).before y) k _ (omega arith)

    pub first_met : {u v : ℕ} → r < 3 → u ≡ K.up x → v ≡ K.up y → meet_told K d x y k ≡ closes ∷ meet_told K (d - 1) u v (k + 1)
    first_met t p q = other_met ∙ close_told ((cell_grouping K).before y) k _ (omega arith) ∙ ap₂ (λ u v. closes ∷ meet_told K (d - 1) u v (k + 1)) (sym p) (sym q)

-- what control passes leaves few enough groups open
pub passed_fits : {l : List Entry} {room : List ℕ} (ps : List Passing) → Sound l room × (depth_after ps (length (matching_in l room).groups) ≤ most_groups)
    → Fits (map group_event ps) l room
passed_fits {l} {room} ps h = record { sound = h.0; few = omega (arith, h.1, depth_told ps (matching_in l room)) }

-- brackets nest no deeper
pub few_around : (K : Cells) (x : ℕ) {a : ℕ} → a ≡ length (up_from K deepest x) → a ≤ deepest
few_around K x e = omega (arith, e, from_few K deepest x)

module _ (K : Cells) (from : ℕ) {x a : ℕ} (p : x ≡ member_of K from) (q : a ≡ length (up_from K deepest x)) where
  around_is : up_from K deepest x ≡ (cell_grouping K).around from
  around_is = ap (up_from K deepest) p

  pub leaves : times a closes ≡ map group_event (map closed ((cell_grouping K).around from))
  leaves = ap (λ n. times n closes) q ∙ sym (closed_told (up_from K deepest x)) ∙ ap (λ (xs : List ℕ). map group_event (map closed xs)) around_is

  pub enters : times a opens ≡ map group_event (passage (cell_grouping K) [] ((cell_grouping K).around from))
  enters = sym (entered_told K deepest x q) ∙ ap (λ (xs : List ℕ). map group_event (passage (cell_grouping K) [] xs)) around_is

module _ (K : Cells) (from to : ℕ) {x y a b : ℕ} (p : x ≡ member_of K from) (q : y ≡ member_of K to)
    (r : a ≡ length (up_from K deepest x)) (s : b ≡ length (up_from K deepest y)) where
  as_passage : map group_event (passage (cell_grouping K) (up_from K deepest x) (up_from K deepest y))
      ≡ map group_event (passage (cell_grouping K) ((cell_grouping K).around from) ((cell_grouping K).around to))
  as_passage = ap₂ (λ (xs ys : List ℕ). map group_event (passage (cell_grouping K) xs ys)) (around_is K from p r) (around_is K to q s)

  pub passes_up : {u : ℕ} → b ≤ a → u ≡ up_by K (a - b) x
      → times (a - b) closes ++ meet_told K b u y 0 ≡ map group_event (passage (cell_grouping K) ((cell_grouping K).around from) ((cell_grouping K).around to))
  passes_up h e = ap (λ v. times (a - b) closes ++ meet_told K b v y 0) e ∙ sym (deeper_told K deepest x y r s h) ∙ as_passage

  pub passes_down : {u : ℕ} → a ≤ b → u ≡ up_by K (b - a) y
      → meet_told K a x u (b - a) ≡ map group_event (passage (cell_grouping K) ((cell_grouping K).around from) ((cell_grouping K).around to))
  passes_down h e = ap (λ v. meet_told K a x v (b - a)) e ∙ sym (higher_told K deepest x y r s h) ∙ as_passage
