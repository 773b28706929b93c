-- The faults of the whole: 50 and 51 hide 52 and 53. Where no chain is too long, what the bodies touch can be gathered.
use Rattle.std.specs.Prelude.{ℕ, ◌+◌, ◌*◌, ◌<◌, ◌≤◌, min, ◌≡◌, refl, List, [], ◌++◌, length, take, drop}
use Rattle.std.proofs.Common.{sym, ◌∙◌, subst, arith, take_at, length-take-le}
use Rattle.std.proofs.Math.Bool.{false}
use Rattle.std.proofs.Math.Option.{Option, none, some}
use Rattle.std.proofs.Math.Decide.{dec_lt}
use Rattle.std.proofs.Math.Seq.{length_front}
use Rattle.room.specs.Whole.{labels_from, room_size}
use Rattle.rules.specs.Grammar.Trees.{Action}
use Rattle.rules.specs.Declarations.{Word, Table, body_of}
use Rattle.rules.specs.Steps.Runs.{body_act}
use Rattle.rules.specs.Whole.Sets.{any_name, calls_in, chain_over}
use Rattle.rules.specs.Limits.{longest_chain}
use Rattle.rules.specs.Faults.Fault.{when}
use Rattle.rules.specs.Faults.Whole.{mains, begins_chain, chains, groups_faults, faults50}
use Rattle.keys.specs.Keys.{no_key, number_key, least_number_key}
use Rattle.keys.specs.Laws.Keys.{least_append, least_bounded, by_number, no_fault}
use Rattle.laws_accepted.proofs.Accepted.Faultless.{when_empty, each_empty}
use Rattle.laws_accepted.proofs.Accepted.Named.{found_body}
use Rattle.reading.specs.Reading.{Reading, table_of}
use Rattle.gathering.specs.Filling.{Complete}
use Rattle.whole.specs.Written.{Written, whole}
use Rattle.whole.specs.Laws.Written.{reading}
use Rattle.whole.specs.WalkKeys.{Roomy}
use Rattle.whole.specs.Laws.Between.{smalls, above, below, mains_are, chains_are, groups_are}

-- no body begins a chain, so no name does
no_chains : (ds : Table) → chains ds ds ≡ [] → (n : Word) → chain_over ds longest_chain n ≡ false
unfolding chains body_act chain_over any_name calls_in
no_chains ds e n = by (body_of ds n) refl
  where
    by : (o : Option Action) → body_of ds n ≡ o → chain_over ds longest_chain n ≡ false
    by none h = rw h refl
    by (some a) h =
        let f = found_body ds n a h in
        let d = f.declared in
        let empty = each_empty (λ d. when (begins_chain ds d.name.word d.body) 51 d.name.place) (chains ds) (λ d ds. refl) ds f.number d e f.there in
        rw (f.its, f.named) at (when_empty (begins_chain ds d.name.word d.body) 51 d.name.place empty)

-- the keys of 50 and of 51, and the lesser of them
module _ {records decls : List ℕ} {m n a b first : ℕ} (of50 : (v : Reading records decls m n) → a ≡ least_number_key (mains false (table_of v)))
    (of51 : (v : Reading records decls m n) → b ≡ least_number_key (chains (table_of v) (table_of v))) (least : first ≡ min a b) where
  pub short_chains : first ≡ no_key → (v : Reading records decls m n) (w : Word) → chain_over (table_of v) longest_chain w ≡ false
  short_chains e v w =
      let ds = table_of v in
      let z : least_number_key (chains ds ds) ≡ no_key = omega (arith, of50 v, of51 v, least_bounded number_key (mains false ds), least_bounded number_key (chains ds ds)) in
      no_chains ds (no_fault by_number (chains ds ds) (smalls {low = 51} {high = 51} (omega arith) (chains_are v)) z) w

  module _ {text : List ℕ} where
    all_three : (v : Written text records decls m n) → least_number_key (faults50 (whole v)) ≡ min first (least_number_key (groups_faults (whole v) (whole v)))
    unfolding faults50
    all_three v =
        let ds = whole v in
        let one = least_append number_key (mains false ds) (chains ds ds ++ groups_faults ds ds) in
        let two = least_append number_key (chains ds ds) (groups_faults ds ds) in
        omega (arith, of50 (reading v), of51 (reading v))

    pub told_first : (first ≡ no_key → ⊥) → (v : Written text records decls m n) → first ≡ least_number_key (faults50 (whole v))
    told_first ne v = sym (all_three v ∙ by (dec_lt a no_key))
      where
        ds : Table
        ds = whole v

        late : 52 * 65536 ≤ least_number_key (groups_faults (whole v) (whole v))
        late = above {low = 52} {high = 53} (omega arith) (groups_are (reading v))

        by : Dec (a < no_key) → min first (least_number_key (groups_faults (whole v) (whole v))) ≡ first
        by (yes l) =
            let e = of50 (reading v) in
            let s : a < 50 * 65536 + 65536 = rw e (below {low = 50} {high = 50} (λ z. omega (arith, e)) (mains_are (reading v))) in
            omega (arith, late)
        by (no l) =
            let e = of51 (reading v) in
            let z : a ≡ no_key = omega (arith, of50 (reading v), least_bounded number_key (mains false (whole v))) in
            let s : b < 51 * 65536 + 65536 = rw e (below {low = 51} {high = 51} (λ y. ne (omega (arith, e))) (chains_are (reading v))) in
            omega (arith, late)

    pub told_last : {r : ℕ} → first ≡ no_key → ((v : Written text records decls m n) → r ≡ least_number_key (groups_faults (whole v) (whole v)))
        → (v : Written text records decls m n) → r ≡ least_number_key (faults50 (whole v))
    told_last e h v = h v ∙ sym (all_three v ∙ omega (arith, least_bounded number_key (groups_faults (whole v) (whole v))))

-- the front of the room takes what is gathered
pub gathered_in : {records decls : List ℕ} {m n : ℕ} (old new : List ℕ) → room_size ≤ length old → length new ≡ length (take labels_from old)
    → Complete records decls new m n
    → Roomy records decls (new ++ drop labels_from old) m n
gathered_in {records} {decls} {m} {n} old new h e c = record {
  complete = subst (λ (l : List ℕ). Complete records decls l m n) (sym (take_at new (drop labels_from old) labels_from (e ∙ length-take-le labels_from old (omega arith)))) c;
  size = omega (arith, length_front old new labels_from e);
}
