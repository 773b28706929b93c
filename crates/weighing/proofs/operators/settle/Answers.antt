-- `weighing::operators::settle` meets its contract. The invariant: settling what still waits comes to settling all.
-- Assumes nothing.
use borrow.Author.Rules.{rules}
use native.Mathlib.Omega.{arith}
use mathlib.Core.Path.{◌≡◌, refl, ap, ◌∙◌}
use mathlib.Core.List.{List, []}
use Prim.Native.Nat.{ℕ, ◌+◌, ◌-◌, ◌*◌, ◌<◌, ◌≤◌}
use lib.ListN.{length, get_or}
use Rattle.rules.specs.Text.Tokens.{Info, Op, op_kind, kind_no}
use Rattle.rules.specs.Grammar.Precedence.{Factor, tightness}
use Rattle.rules.specs.Faults.Bodies.{Judged, judged_as}
use Rattle.records.specs.Holds.{kind_byte, place_cell}
use Rattle.table.specs.Operators.{tightness_at}
use Rattle.table.specs.Laws.Operators.{tightness_at_lem}
use Rattle.weighing.specs.Weights.{Weighs, operated}
use Rattle.weighing.specs.Settling.{SettleAt, Settles}
use Rattle.weighing.specs.Laws.Settling.{Settling, top, top_room, top_kind, top_place, top_small, length_fits, left_fits, turned, stopped, emptied}
use Rattle.weighing.proofs.operators.settle.Invariants.{Inv}
use Rattle.weighing.proofs.operators.settle.Goals as goal

begin : {records ats keys lengths : List ℕ} {tight count k n : ℕ} → SettleAt records ats keys lengths count k n → Inv records ats keys lengths tight count k n count k n
begin s = record { now = s; all = λ v operand. record { here = v; same_looser = refl; same_settled = refl } }

module _ {records ats keys lengths : List ℕ} {tight count₀ k₀ n₀ count k n : ℕ} (inv : Inv records ats keys lengths tight count₀ k₀ n₀ count k n) where
  ended : count ≤ 0 → (v : SettleAt records ats keys lengths count₀ k₀ n₀) (operand : Factor → Judged) → Settles operand tight v.waits v.value 0 k n
  ended h v operand = let z : count ≡ 0 = omega arith in rw z at (emptied (inv.all v operand) z)

  module _ (some : 0 < count) where
    room : 8 * get_or ats (count - 1) 0 + 8 ≤ length records
    room = top_room inv.now (top inv.now some) refl

    fits : (place : ℕ) → place ≡ place_cell records (get_or ats (count - 1) 0) → (get_or lengths (count - 1) 0 ≤ 64) × (n ≤ 64) × (place ≤ 32768)
    fits place e = (left_fits inv.now (top inv.now some), length_fits inv.now, omega (arith, top_small inv.now (top inv.now some) refl))

    module _ {op t : ℕ} (eo : op ≡ kind_byte records (get_or ats (count - 1) 0)) (et : t ≡ tightness_at op) where
      binds : {k n : ℕ} (v : SettleAt records ats keys lengths count k n) → t ≡ tightness (top v some).last.op
      binds v = et ∙ ap tightness_at (eo ∙ top_kind v (top v some) refl) ∙ tightness_at_lem (top v some).last.op

      stop : t < tight → (v : SettleAt records ats keys lengths count₀ k₀ n₀) (operand : Factor → Judged) → Settles operand tight v.waits v.value (count - 1 + 1) k n
      stop h v operand =
          let s = inv.all v operand in
          let e : count - 1 + 1 ≡ count = omega arith in
          rw e (stopped s (top s.here some) (rw (binds s.here) at h))

      module _ (h : tight ≤ t) (place : ℕ) (ep : place ≡ place_cell records (get_or ats (count - 1) 0)) {k' n' : ℕ}
          (both : (o : Op) (i : Info) (a b : Judged) → op ≡ kind_no (op_kind o) → place ≡ i.place
          → Weighs (get_or keys (count - 1) 0) (get_or lengths (count - 1) 0) a → Weighs k n b → Weighs k' n' (operated o i a b)) where
        turn : (v : SettleAt records ats keys lengths count₀ k₀ n₀) (operand : Factor → Judged) → Settling v operand tight (count - 1) k' n'
        turn v operand =
            let s = inv.all v operand in
            let w = top s.here some in
            turned s w (rw (binds s.here) at h)
            (both w.last.op w.last.info w.last.left s.here.value (eo ∙ top_kind s.here w refl) (ep ∙ top_place s.here w refl) w.at.left s.here.weighs)

        again : SettleAt records ats keys lengths count₀ k₀ n₀ → Inv records ats keys lengths tight count₀ k₀ n₀ (count - 1) k' n'
        again v = record { now = (turn v (λ f. judged_as [] 0)).here; all = turn }

pub loop-top-init : goal.loop-top-init
loop-top-init c = begin c.requires

pub kind_at-op-requires : goal.kind_at-op-requires
kind_at-op-requires c = search (rules, room)

pub returns-then-tightness_of-tight : goal.returns-then-tightness_of-tight
returns-then-tightness_of-tight c = search (rules, stop)

pub place_at-requires : goal.place_at-requires
place_at-requires c = search (rules, room)

pub combined-both-requires : goal.combined-both-requires
combined-both-requires c = fits c.loop-top.invariant c.loop-top-test.true _ c.place_at.ensures

pub loop-top-preserved : goal.loop-top-preserved
loop-top-preserved c = search (rules, again)

pub returns : goal.returns
returns c = search (rules, ended)
