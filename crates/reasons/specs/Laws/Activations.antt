-- Where a description has no fault of the 40s, each activation names a declaration.
use Rattle.std.specs.Prelude.{ℕ, suc, ◌≡◌, Bool, true, false, not}
use Rattle.std.proofs.Math.Path.{refl}
use mathlib.Core.List.{List, [], ◌∷◌, ◌++◌, append_assoc}
use Rattle.std.proofs.Math.Option.{Option, none, some}
use Rattle.std.proofs.Math.ListN.{get_elem?}
use Rattle.rules.specs.Text.Tokens.{Info}
use Rattle.rules.specs.Text.Scan.{same_bytes}
use Rattle.rules.specs.Grammar.Trees.{Action, block, labelled, if_then, decode, repeat, leave, restart, activate, stop, no_op, transfer, Members, end, also, next}
use Rattle.rules.specs.Grammar.Trees.{Alternatives, counted, selected, Counted, counted_end, counted_more, Selected, select, otherwise, SelectedMore, selected_end, selected_more}
use Rattle.rules.specs.Grammar.Precedence.{expr_of}
use Rattle.rules.specs.Declarations.{Word, Declared, Table, number_of, body_number}
use Rattle.rules.specs.Steps.Actions.{Act, par, in_turn, whole, act_of, groups, alts_of, counted_alts, selected_alts, more_alts}
use Rattle.rules.specs.Steps.Runs.{act_or}
use Rattle.rules.specs.Whole.Sets.{calls_in, calls_i, calls_alts}
use Rattle.rules.specs.Faults.Fault.{when}
use Rattle.rules.specs.Faults.Declared.{declared_at}
use Rattle.rules.specs.Faults.Bodies.{activated, judge, faults_in, alternatives_faults, action_faults, members_faults, inside_faults, inside_counted, inside_selected, inside_more, labels, label_faults, declared_names, body_faults, faults40}
use Rattle.laws_orders.proofs.Orders.Tests.{impossible}
use Rattle.laws_accepted.proofs.Accepted.Faultless.{both_empty, each_empty}
use Rattle.rules.specs.Reasons.{body_of_number}

module _ (ds : Table) where
  pub record Known (n : Word) : Type 0 where
    pub number : ℕ
    pub is : number_of ds n ≡ some number

  abbrev pub AllKnown : List Word → Type 0
  AllKnown [] = Unit {0}
  AllKnown (n ∷ ns) = Known n × AllKnown ns

  join : (xs ys : List Word) → AllKnown xs → AllKnown ys → AllKnown (xs ++ ys)
  join [] ys p q = q
  join (x ∷ xs) ys p q = (p.0, join xs ys p.1 q)

  -- a member in front of the members and groups behind it
  in_front : (x y : Act) (o : Option Act) → AllKnown (calls_in x) → AllKnown (calls_in (in_turn y o)) → AllKnown (calls_in (in_turn (par x y) o))
  unfolding calls_in
  in_front x y none p q = join (calls_in x) (calls_in y) p q
  in_front x y (some z) p q = rw append_assoc (join (calls_in x) (calls_in y ++ calls_in z) p q)

  module _ (outer : Word) where
    something : (b : Bool) (m k p : ℕ) → when (not b) m p ++ when b k p ≡ [] → ⊥
    something true m k p e = impossible (cc)
    something false m k p e = impossible (cc)

    known_by : (n : Info) (o : Option ℕ) → number_of ds n.word ≡ o → activated outer ds n (declared_at ds o) ≡ [] → Known n.word
    known_by n none q e = absurd (something (same_bytes outer n.word) 40 41 n.place e)
    known_by n (some i) q e = record { number = i; is = q }

    mutual
      unfolding act_of groups alts_of counted_alts selected_alts more_alts calls_in calls_i calls_alts action_faults members_faults inside_faults inside_counted inside_selected inside_more

      action_known : (a : Action) (ls : List Word) → action_faults outer ds ls a ≡ [] → AllKnown (calls_in (act_of a))
      action_known (block b a m) ls e =
          let h = both_empty (action_faults outer ds ls a) (members_faults outer ds ls m) e in members_known m ls (act_of a) (action_known a ls h.0) h.1
      action_known (labelled n b a) ls e = action_known a (n.word ∷ ls) e
      action_known (if_then i o t w a) ls e = action_known a ls (both_empty (faults_in outer ds o t) (action_faults outer ds ls a) e).1
      action_known (decode i o t w b v) ls e =
          let f = alternatives_faults (judge outer ds (expr_of o t)).bits v in
          let h = both_empty (faults_in outer ds o t) (f ++ inside_faults outer ds ls v) e in
          alternatives_known v ls (both_empty f (inside_faults outer ds ls v) h.1).1
      action_known (repeat i a) ls e = action_known a ls e
      action_known (leave i n) ls e = tt
      action_known (restart i n) ls e = tt
      action_known (activate n l r) ls e = (known_by n (number_of ds n.word) refl e, tt)
      action_known (stop i l r) ls e = tt
      action_known (no_op i l r) ls e = tt
      action_known (transfer n s b j x o t) ls e = tt

      members_known : (m : Members) (ls : List Word) (x : Act) → AllKnown (calls_in x) → members_faults outer ds ls m ≡ [] → AllKnown (calls_in (whole (groups x m)))
      members_known (end i) ls x p e = p
      members_known (also i a m) ls x p e =
          let h = both_empty (action_faults outer ds ls a) (members_faults outer ds ls m) e in
          let g = groups (act_of a) m in
          in_front x g.group g.behind p (members_known m ls (act_of a) (action_known a ls h.0) h.1)
      members_known (next i a m) ls x p e =
          let h = both_empty (action_faults outer ds ls a) (members_faults outer ds ls m) e in
          join (calls_in x) (calls_in (whole (groups (act_of a) m))) p (members_known m ls (act_of a) (action_known a ls h.0) h.1)

      alternatives_known : (v : Alternatives) (ls : List Word) → inside_faults outer ds ls v ≡ [] → AllKnown (calls_alts (alts_of v))
      alternatives_known (counted a c) ls e =
          let h = both_empty (action_faults outer ds ls a) (inside_counted outer ds ls c) e in
          join (calls_in (act_of a)) (calls_alts (counted_alts 1 c)) (action_known a ls h.0) (counted_known c ls 1 h.1)
      alternatives_known (selected s) ls e = selected_known s ls e

      counted_known : (c : Counted) (ls : List Word) (n : ℕ) → inside_counted outer ds ls c ≡ [] → AllKnown (calls_alts (counted_alts n c))
      counted_known (counted_end i) ls n e = tt
      counted_known (counted_more i a c) ls n e =
          let h = both_empty (action_faults outer ds ls a) (inside_counted outer ds ls c) e in
          join (calls_in (act_of a)) (calls_alts (counted_alts (suc n) c)) (action_known a ls h.0) (counted_known c ls (suc n) h.1)

      selected_known : (s : Selected) (ls : List Word) → inside_selected outer ds ls s ≡ [] → AllKnown (calls_alts (selected_alts s))
      selected_known (select s b a m) ls e =
          let h = both_empty (action_faults outer ds ls a) (inside_more outer ds ls m) e in
          join (calls_in (act_of a)) (calls_alts (more_alts m)) (action_known a ls h.0) (more_known m ls h.1)
      selected_known (otherwise i b a f) ls e = join (calls_in (act_of a)) [] (action_known a ls e) tt

      more_known : (m : SelectedMore) (ls : List Word) → inside_more outer ds ls m ≡ [] → AllKnown (calls_alts (more_alts m))
      more_known (selected_end i) ls e = tt
      more_known (selected_more i s) ls e = selected_known s ls e

    -- of a body by its number
    pub body_known : (b : ℕ) → faults40 outer ds ds ≡ [] → AllKnown (calls_in (body_of_number ds b))
    unfolding body_number faults40 calls_in calls_i
    body_known b e = by (get_elem? ds b) refl
      where
        with_body : (d : Declared) (o : Option Action) → d.body ≡ o → body_faults outer ds d.name.word d.body ≡ [] → AllKnown (calls_in (act_or o))
        with_body d none q h = tt
        with_body d (some a) q h =
            let f : body_faults outer ds d.name.word (some a) ≡ [] = rw q at h in
            action_known a (d.name.word ∷ []) (both_empty (action_faults outer ds (d.name.word ∷ []) a) (label_faults (declared_names outer ds ds) (labels a [])) f).0

        by : (o : Option Declared) → get_elem? ds b ≡ o → AllKnown (calls_in (act_or (elim o [ none ↦ none | some d ↦ d.body ])))
        by none q = tt
        by (some d) q =
            with_body d d.body refl (each_empty (λ d. body_faults outer ds d.name.word d.body) (faults40 outer ds) (λ d ds. refl) ds b d e q)
