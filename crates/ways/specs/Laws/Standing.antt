-- Laws of an action that stands in the table, and of the names in it while links are written.
-- Assumes nothing.
use Rattle.std.specs.Prelude.{ℕ, ◌+◌, ◌*◌, ◌<◌, ◌≤◌, List, ◌∷◌, length}
use Rattle.std.proofs.Common.{◌∙◌, arith}
use Rattle.ways.specs.Seeking.{Ground, Starts}
use Rattle.ways.specs.Laws.Forms.{action_within}
use Rattle.ways.specs.Laws.Firsts.{first_fits}
use Rattle.records.specs.Kept.{Kept}
use Rattle.ways.specs.Standing.{ActionAt, Meant}

module _ {g : Ground} {records labels : List ℕ} {at link count first depth : ℕ} (v : ActionAt g records labels at link count first depth) where
  abbrev pub starts : Starts g records at
  starts = record { holds = v.holds; action = v.action; rest = v.next ∷ v.rest; reads = v.reads }

  pub within : (at < length g.tokens) × (8 * at + 8 ≤ length records) × (at < 8192)
  within =
      let w = action_within v.holds at v.action (v.next ∷ v.rest) v.reads in
      (w, omega (arith, v.holds.record_room), omega (arith, v.holds.few))

  pub begins_fits : first < 8192
  begins_fits = (first_fits starts v.begins).1

pub meant_kept : (g : Ground) {old now : List ℕ} {a b : ℕ} (i : ℕ) → Kept old now a b → b ≤ i → Meant g old i → Meant g now i
meant_kept g i k h m t l w n = let z = m t l w n in (k.inside t (λ x y. omega arith) ∙ z.0, k.link t (λ x y. omega arith) ∙ z.1)

pub meant_later : (g : Ground) (records : List ℕ) (i j : ℕ) → i ≤ j → Meant g records i → Meant g records j
meant_later g records i j h m t l w n = m t (omega arith) w n
