-- A description that is judged accepted has no fault of the 30s, 40s and 50s; and what it is for a list of faults to be empty.
use Rattle.std.specs.Prelude.{ℕ, zero, suc, ◌≡◌, refl, Bool, true, false, List, [], ◌∷◌, ◌++◌, length}
use Rattle.std.proofs.Math.Option.{Option, none, some}
use Rattle.std.proofs.Math.ListN.{get_elem?}
use Rattle.rules.specs.Grammar.Trees.{Description}
use Rattle.rules.specs.Declarations.{Declared, Table, declarations, outer_name, total_words}
use Rattle.rules.specs.Faults.Fault.{Fault, when, by_place_of, by_number_of, least}
use Rattle.rules.specs.Faults.Declared.{faults30}
use Rattle.rules.specs.Faults.Bodies.{faults40}
use Rattle.rules.specs.Faults.Whole.{faults50}
use Rattle.rules.specs.Answers.{Verdict, accepted, or_else, judgement}
use Rattle.laws_orders.proofs.Orders.Tests.{impossible}

pub both_empty : (xs ys : List Fault) → xs ++ ys ≡ [] → (xs ≡ []) × (ys ≡ [])
both_empty [] ys e = (refl, e)
both_empty (x ∷ xs) ys e = impossible (cc)

-- a test that gives no fault does not hold
pub when_empty : (b : Bool) (n p : ℕ) → when b n p ≡ [] → b ≡ false
when_empty true n p e = impossible (cc)
when_empty false n p e = refl

-- faults gathered from each declaration in turn: where there are none, none has any
pub each_empty :
    (at : Declared → List Fault) (all : Table → List Fault) → ((d : Declared) (ds : Table) → all (d ∷ ds) ≡ at d ++ all ds)
    → (ds : Table) (i : ℕ) (d : Declared) → all ds ≡ [] → get_elem? ds i ≡ some d → at d ≡ []
each_empty at all step [] i d e h = impossible (cc)
each_empty at all step (x ∷ ds) zero d e h = let q : x ≡ d = cc in rw q at (both_empty (at x) (all ds) (rw step at e)).0
each_empty at all step (x ∷ ds) (suc i) d e h = each_empty at all step ds i d (both_empty (at x) (all ds) (rw step at e)).1 h

least_none : (before : Fault → Fault → Bool) (fs : List Fault) → least before fs ≡ none → fs ≡ []
unfolding least
least_none before [] e = refl
least_none before (f ∷ fs) e = impossible (cc)

-- a verdict that is accepted has passed the fault in front of it
passed : (o : Option Fault) (v : Verdict) (n w : ℕ) → or_else o v ≡ accepted n w → (o ≡ none) × (v ≡ accepted n w)
passed none v n w e = (refl, e)
passed (some f) v n w e = impossible (cc)

-- no faults in a description of n declarations and w words
pub record Faultless (d : Description) (n w : ℕ) : Type 0 where
  pub of30 : faults30 (outer_name d).word (declarations d) ≡ []
  pub of40 : faults40 (outer_name d).word (declarations d) (declarations d) ≡ []
  pub of50 : faults50 (declarations d) ≡ []
  pub count : length (declarations d) ≡ n
  pub words : total_words (declarations d) ≡ w

pub no_faults : (d : Description) (n w : ℕ) → judgement d ≡ accepted n w → Faultless d n w
unfolding judgement
no_faults d n w e =
    let ds = declarations d in
    let outer = (outer_name d).word in
    let whole : Verdict = accepted (length ds) (total_words ds) in
    let z = least by_number_of (faults50 ds) in
    let y = least by_place_of (faults40 outer ds ds) in
    let x = least by_place_of (faults30 outer ds) in
    let p = passed x (or_else y (or_else z whole)) n w e in
    let q = passed y (or_else z whole) n w p.1 in
    let r = passed z whole n w q.1 in
    record {
      of30 = least_none by_place_of (faults30 outer ds) p.0;
      of40 = least_none by_place_of (faults40 outer ds ds) q.0;
      of50 = least_none by_number_of (faults50 ds) r.0;
      count = cc;
      words = cc;
    }
