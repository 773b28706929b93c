-- Laws of what is refused of two texts, their carriers and their turns.
-- Assumes nothing.
use Rattle.std.specs.Prelude.{ℕ, ◌*◌, ◌/◌, ◌%◌, ◌<◌, ◌≤◌, ◌≡◌, refl, List, length, ⊤, Result, Ok, Err}
use Rattle.std.proofs.Common.{sym, ◌∙◌, subst, arith}
use Rattle.std.proofs.Math.Path.{ap}
use Rattle.std.proofs.Math.Option.{none}
use borrow.Author.Tests.{le-leb, lt-leb, eq-eqb, ne_eqb}
use Rattle.rules.specs.Declarations.{Table, total_words}
use Rattle.rules.specs.Limits.{most_words}
use Rattle.rules.specs.Faults.Fault.{by_place_of, least}
use Rattle.rules.specs.Keeping.{fault60, fault61}
use Rattle.rules.specs.Pair.{faults80, fault32, joint, pair_on}
use Rattle.keys.specs.Keys.{no_key, Smalls}
use Rattle.keys.specs.Laws.Keys.{by_place, no_fault, place_first, place_near}
use Rattle.rules.specs.Refusals.{refusal_at, OrRefused}
use Rattle.rules.specs.declared.refusals.Refusal.{Refusal}
use Rattle.pair_tables.specs.Joining.{Joins}
use Rattle.pair_tables.specs.Lengths.{Carried, long_joint, Fits, none_long, one_long}
use Rattle.pair_tables.specs.Turns.{FirstBad}
use Rattle.pair_tables.specs.Judging.{Carriers, Uncarried, Carries, carried, uncarried, Begins, Declines, Judges, begins, declines}
use Rattle.pair_tables.specs.declared.judging.PairRefusal.{PairRefusal}

-- 32, 60 and 61
module _ {first second : Table} {firsts : List ℕ} {key total : ℕ} (j : Joins first second firsts key total) (b : List ℕ) where
  pub over_32 : most_words < total → Carries first second b (Err (refusal_at 32 0))
  unfolding fault32
  over_32 l =
      let large : most_words < total_words (joint first second) = omega (arith, j.words) in
      uncarried {r = refusal_at 32 0} record {
        refuses = λ x. rw (fault32, lt-leb (total_words (joint first second)) most_words large);
        near = omega arith;
      }

  module _ (l : total ≤ most_words) where
    few_words : total_words (joint first second) ≤ most_words
    few_words = omega (arith, j.words)

    passed_32 : fault32 (joint first second) ≡ none
    unfolding fault32
    passed_32 = rw (fault32, le-leb (total_words (joint first second)) most_words few_words)

    pub other_60 : (length b ≡ 8 * total → ⊥) → Carries first second b (Err (refusal_at 60 0))
    unfolding fault60
    other_60 n =
        uncarried {r = refusal_at 60 0} record {
          refuses = λ x. rw (passed_32, fault60, ne_eqb (length b) (8 * total_words (joint first second)) (λ e. n (e ∙ ap (λ (k : ℕ). 8 * k) (sym j.words))));
          near = omega arith;
        }

    module _ (long : length b ≡ 8 * total) where
      long_all : length b ≡ 8 * total_words (joint first second)
      long_all = long ∙ ap (λ (k : ℕ). 8 * k) j.words

      passed_60 : fault60 (joint first second) b ≡ none
      unfolding fault60
      passed_60 = rw (fault60, eq-eqb (length b) (8 * total_words (joint first second)) long_all)

      pub to_carry : {words : ℕ} → words ≡ total_words first → 2 * length second ≤ length firsts → Carried first second firsts words b
      to_carry is room = record { cells = j.cells; room = room; front = is; long = long_all; few = few_words }

      pub carries_by : {s : OrRefused ⊤} → Fits (long_joint first second b) s → Carries first second b s
      unfolding fault61
      carries_by (none_long e) = carried record { few = few_words; long = long_all; fit = rw (fault61, e) }
      carries_by (one_long {place = p} e near) =
          uncarried {r = refusal_at 61 p} record { refuses = λ x. rw (passed_32, passed_60, fault61, e); near = near }

-- 80, then 81, then those
module _ {first second : Table} {firsts : List ℕ} {key total : ℕ} (j : Joins first second firsts key total) (smalls : Smalls (faults80 first second))
    (b turns : List ℕ) where
  pub clash_80 : {r : Refusal} → r.number ≡ key % 128 → r.place ≡ key / 128 → (key ≡ no_key → ⊥)
      → Judges first second firsts b turns (Err (record { side = 1; refusal = r }))
  unfolding pair_on
  clash_80 {r} number place h =
      declines {r = record { side = 1; refusal = r }} record {
        refuses = λ budget. rw (pair_on, number, place, place_first (faults80 first second) key smalls j.keys h);
        near = λ m. omega (arith, place_near (faults80 first second) key smalls j.keys h);
      }

  module _ (none_80 : key ≡ no_key) where
    passed_80 : least by_place_of (faults80 first second) ≡ none
    unfolding least
    passed_80 = ap (least by_place_of) (no_fault by_place (faults80 first second) smalls (sym j.keys ∙ none_80))

    module _ {r : ℕ} (bad : FirstBad turns r) where
      pub bad_81 : r < length turns → Judges first second firsts b turns (Err (record { side = 0; refusal = refusal_at 81 r }))
      unfolding pair_on
      bad_81 l = declines {r = record { side = 0; refusal = refusal_at 81 r }} record { refuses = λ budget. rw (pair_on, passed_80, bad.bad l); near = λ n. absurd (n refl) }

      module _ (l : length turns ≤ r) where
        pub uncarried_down : {q : Refusal} → Uncarried first second b q.number q.place
            → Judges first second firsts b turns (Err (record { side = 0; refusal = q }))
        unfolding pair_on
        uncarried_down {q} u =
            declines {r = record { side = 0; refusal = q }} record {
              refuses = λ budget. rw (pair_on, passed_80, bad.none_bad l) (u.refuses _);
              near = λ n. u.near;
            }

        pub carried_taken : Carriers first second b → Judges first second firsts b turns (Ok tt)
        unfolding pair_on fault32 fault60
        carried_taken c =
            let none_32 : fault32 (joint first second) ≡ none = rw (fault32, le-leb (total_words (joint first second)) most_words c.few) in
            let none_60 : fault60 (joint first second) b ≡ none = rw (fault60, eq-eqb (length b) (8 * total_words (joint first second)) c.long) in
            begins record {
              carriers = c;
              firsts_at = j.cells;
              sides = bad.none_bad l;
              pairs = λ budget. rw (pair_on, passed_80, bad.none_bad l, none_32, none_60, c.fit);
            }

-- by the answer of the carriers
pub uncarried_by : {first second : Table} {b : List ℕ} {s : OrRefused ⊤} {r : Refusal} → Carries first second b s → s ≡ Err r
    → Uncarried first second b r.number r.place
uncarried_by (carried h) e = let z : ◌≡◌ {A = ℕ} 0 1 = cc in absurd (omega arith)
uncarried_by {first} {second} {b} {r = r} (uncarried {r = q} h) e =
    let x : q ≡ r = cc in subst (λ (z : Refusal). Uncarried first second b z.number z.place) x h

pub carried_by : {first second : Table} {b : List ℕ} {s : OrRefused ⊤} → Carries first second b s → s ≡ Ok tt → Carriers first second b
carried_by (carried h) e = h
carried_by (uncarried h) e = let z : ◌≡◌ {A = ℕ} 0 1 = cc in absurd (omega arith)

-- by the answer of all
pub declines_by : {first second : Table} {firsts b turns : List ℕ} {s : Result ⊤ PairRefusal} {r : PairRefusal} → Judges first second firsts b turns s
    → s ≡ Err r → Declines first second b turns r.side r.refusal.number r.refusal.place
declines_by (begins h) e = let z : ◌≡◌ {A = ℕ} 0 1 = cc in absurd (omega arith)
declines_by {first} {second} {b = b} {turns} {r = r} (declines {r = q} h) e =
    let x : q ≡ r = cc in subst (λ (z : PairRefusal). Declines first second b turns z.side z.refusal.number z.refusal.place) x h

pub begins_by : {first second : Table} {firsts b turns : List ℕ} {s : Result ⊤ PairRefusal} → Judges first second firsts b turns s → s ≡ Ok tt
    → Begins first second firsts b turns
begins_by (begins h) e = h
begins_by (declines h) e = let z : ◌≡◌ {A = ℕ} 0 1 = cc in absurd (omega arith)
