-- The bodies of an accepted description are orderly.
use Rattle.std.specs.Prelude.{ℕ, ◌≡◌}
use Rattle.std.proofs.Math.Path.{refl}
use Rattle.std.proofs.Math.Bool.{false}
use mathlib.Core.List.{[], ◌∷◌}
use Rattle.std.proofs.Math.Option.{Option, none, some}
use Rattle.rules.specs.Grammar.Trees.{Action, Description}
use Rattle.rules.specs.Declarations.{Word, Table, body_of, declarations, outer_name}
use Rattle.rules.specs.Steps.Actions.{act_of}
use Rattle.rules.specs.Steps.Runs.{act_or, body_act}
use Rattle.rules.specs.Whole.Sets.{any_name, calls_in, calls_i, chain_over}
use Rattle.rules.specs.Limits.{longest_chain}
use Rattle.laws_orders.proofs.Orders.Orderly.{AllApart, Orderly, without, jumps_out, jumps_i}
use Rattle.rules.specs.Faults.Fault.{when}
use Rattle.rules.specs.Faults.Bodies.{labels, label_faults, action_faults, declared_names, body_faults, faults40}
use Rattle.rules.specs.Faults.Whole.{mains, begins_chain, chains, body_groups, groups_faults, faults50}
use Rattle.rules.specs.Answers.{accepted, judgement}
use Rattle.laws_accepted.proofs.Accepted.Faultless.{both_empty, when_empty, each_empty, no_faults}
use Rattle.laws_accepted.proofs.Accepted.Named.{none_known, FoundBody, found_body}
use Rattle.laws_accepted.proofs.Accepted.Jumps.{all_known_without}
use Rattle.laws_accepted.proofs.Accepted.Aiming.{jumps_aim}
use Rattle.laws_accepted.proofs.Accepted.Groups.{body_groups_lem}

module _ (outer : Word) (ds : Table) (of40 : faults40 outer ds ds ≡ []) (of50 : faults50 ds ≡ []) where
  no_chains_groups : (chains ds ds ≡ []) × (groups_faults ds ds ≡ [])
  unfolding faults50
  no_chains_groups = both_empty (chains ds ds) (groups_faults ds ds) (both_empty (mains false ds) _ of50).1

  -- what the three rows leave of a body under its name
  module _ (n : Word) (a : Action) (f : FoundBody ds n a) where
    body_chains : chain_over ds longest_chain n ≡ false
    unfolding chains
    body_chains =
        let d = f.declared in
        let e =
        each_empty (λ d. when (begins_chain ds d.name.word d.body) 51 d.name.place) (chains ds) (λ d ds. refl) ds f.number d
        no_chains_groups.0 f.there in
        let q = when_empty (begins_chain ds d.name.word d.body) 51 d.name.place e in
        rw (f.its, f.named) at q

    body_jumps : without n (jumps_out (act_of a)) ≡ []
    unfolding faults40
    body_jumps =
        let d = f.declared in
        let e = each_empty (λ d. body_faults outer ds d.name.word d.body) (faults40 outer ds) (λ d ds. refl) ds f.number d of40 f.there in
        let q : body_faults outer ds n (some a) ≡ [] = rw (f.its, f.named) at e in
        let h = both_empty (action_faults outer ds (n ∷ []) a) (label_faults (declared_names outer ds ds) (labels a [])) q in
        none_known (without n (jumps_out (act_of a))) (all_known_without n [] (jumps_out (act_of a)) (jumps_aim outer ds a (n ∷ []) h.0))

    body_grouped : AllApart ds (act_of a)
    unfolding groups_faults
    body_grouped =
        let e = each_empty (λ d. body_groups ds d.body) (groups_faults ds) (λ d ds. refl) ds f.number f.declared no_chains_groups.1 f.there in
        body_groups_lem ds a (rw f.its at e)

  -- a name without a body activates nothing, jumps nowhere and has no groups
  pub orderly : Orderly ds
  unfolding body_act chain_over any_name calls_in calls_i jumps_out jumps_i without
  orderly =
      record {
        chains = λ n. chained n (body_of ds n) refl;
        jumps = λ n. jumping n (body_of ds n) refl;
        groups = λ n. grouped n (body_of ds n) refl;
      }
    where
      chained : (n : Word) (o : Option Action) → body_of ds n ≡ o → chain_over ds longest_chain n ≡ false
      chained n none e = rw e refl
      chained n (some a) e = body_chains n a (found_body ds n a e)

      jumping : (n : Word) (o : Option Action) → body_of ds n ≡ o → without n (jumps_out (act_or o)) ≡ []
      jumping n none e = refl
      jumping n (some a) e = body_jumps n a (found_body ds n a e)

      grouped : (n : Word) (o : Option Action) → body_of ds n ≡ o → AllApart ds (act_or o)
      grouped n none e = tt
      grouped n (some a) e = body_grouped n a (found_body ds n a e)

pub accepted_orderly : (d : Description) (n w : ℕ) → judgement d ≡ accepted n w → Orderly (declarations d)
accepted_orderly d n w e = let f = no_faults d n w e in orderly (outer_name d).word (declarations d) f.of40 f.of50
