-- Row 44: where an action has no fault of the 40s, each LEAVE and RESTART that aims outside it aims at one of the labels around it.
use Rattle.std.specs.Prelude.{◌≡◌, refl, Bool, true, false, not, ◌||◌, List, [], ◌∷◌, ◌++◌, ℕ, suc}
use Rattle.std.proofs.Common.{sym, ◌∙◌, ap, append_assoc}
use Rattle.std.proofs.lemmas.Bool.{false≢true, not-false}
use Rattle.std.proofs.Math.Option.{Option, none, some}
use Rattle.rules.specs.Text.Scan.{same_bytes}
use Rattle.rules.specs.Grammar.Trees.{Action, block, labelled, if_then, decode, repeat, leave, restart, activate, stop, no_op, transfer, Members, end, also, next}
use Rattle.rules.specs.Grammar.Trees.{Alternatives, counted, selected, Counted, counted_end, counted_more, Selected, select, otherwise, SelectedMore, selected_end, selected_more}
use Rattle.rules.specs.Grammar.Precedence.{expr_of}
use Rattle.rules.specs.Declarations.{Word, Table}
use Rattle.rules.specs.Steps.Actions.{Act, par, in_turn, whole, act_of, groups, alts_of, counted_alts, selected_alts, more_alts}
use Rattle.laws_orders.proofs.Orders.Orderly.{without, jumps_out, jumps_i, jumps_alts}
use Rattle.rules.specs.Faults.Fault.{when}
use Rattle.rules.specs.Faults.Declared.{is_known}
use Rattle.rules.specs.Faults.Bodies.{judge, faults_in, alternatives_faults, action_faults, members_faults, inside_faults, inside_counted, inside_selected, inside_more}
use Rattle.laws_accepted.proofs.Accepted.Faultless.{both_empty, when_empty}
use Rattle.laws_accepted.proofs.Accepted.Named.{same_equal, same_itself, AllKnown}
use Rattle.laws_accepted.proofs.Accepted.Jumps.{all_known_join, all_known_without, aimed, in_front}

module _ (outer : Word) (ds : Table) where
  mutual
    unfolding act_of groups alts_of counted_alts selected_alts more_alts jumps_out jumps_i jumps_alts action_faults members_faults inside_faults inside_counted inside_selected inside_more

    pub jumps_aim : (a : Action) (ls : List Word) → action_faults outer ds ls a ≡ [] → AllKnown ls (jumps_out (act_of a))
    jumps_aim (block b a m) ls e =
        let h = both_empty (action_faults outer ds ls a) (members_faults outer ds ls m) e in members_aim m ls (act_of a) (jumps_aim a ls h.0) h.1
    jumps_aim (labelled n b a) ls e = all_known_without n.word ls (jumps_out (act_of a)) (jumps_aim a (n.word ∷ ls) e)
    jumps_aim (if_then i o t w a) ls e = jumps_aim a ls (both_empty (faults_in outer ds o t) (action_faults outer ds ls a) e).1
    jumps_aim (decode i o t w b v) ls e =
        let f = alternatives_faults (judge outer ds (expr_of o t)).bits v in
        let h = both_empty (faults_in outer ds o t) (f ++ inside_faults outer ds ls v) e in
        alternatives_aim v ls (both_empty f (inside_faults outer ds ls v) h.1).1
    jumps_aim (repeat i a) ls e = jumps_aim a ls e
    jumps_aim (leave i n) ls e = aimed n.word ls 44 i.place e
    jumps_aim (restart i n) ls e = aimed n.word ls 44 i.place e
    jumps_aim (activate n l r) ls e = tt
    jumps_aim (stop i l r) ls e = tt
    jumps_aim (no_op i l r) ls e = tt
    jumps_aim (transfer n s b j x o t) ls e = tt

    -- a member x, and what follows it
    members_aim :
        (m : Members) (ls : List Word) (x : Act) → AllKnown ls (jumps_out x) → members_faults outer ds ls m ≡ []
        → AllKnown ls (jumps_out (whole (groups x m)))
    members_aim (end i) ls x p e = p
    members_aim (also i a m) ls x p e =
        let h = both_empty (action_faults outer ds ls a) (members_faults outer ds ls m) e in
        let g = groups (act_of a) m in
        in_front ls x g.group g.behind p (members_aim m ls (act_of a) (jumps_aim a ls h.0) h.1)
    members_aim (next i a m) ls x p e =
        let h = both_empty (action_faults outer ds ls a) (members_faults outer ds ls m) e in
        all_known_join ls (jumps_out x) (jumps_out (whole (groups (act_of a) m))) p (members_aim m ls (act_of a) (jumps_aim a ls h.0) h.1)

    alternatives_aim : (v : Alternatives) (ls : List Word) → inside_faults outer ds ls v ≡ [] → AllKnown ls (jumps_alts (alts_of v))
    alternatives_aim (counted a c) ls e =
        let h = both_empty (action_faults outer ds ls a) (inside_counted outer ds ls c) e in
        all_known_join ls (jumps_out (act_of a)) (jumps_alts (counted_alts 1 c)) (jumps_aim a ls h.0) (counted_aim c ls 1 h.1)
    alternatives_aim (selected s) ls e = selected_aim s ls e

    counted_aim : (c : Counted) (ls : List Word) (n : ℕ) → inside_counted outer ds ls c ≡ [] → AllKnown ls (jumps_alts (counted_alts n c))
    counted_aim (counted_end i) ls n e = tt
    counted_aim (counted_more i a c) ls n e =
        let h = both_empty (action_faults outer ds ls a) (inside_counted outer ds ls c) e in
        all_known_join ls (jumps_out (act_of a)) (jumps_alts (counted_alts (suc n) c)) (jumps_aim a ls h.0) (counted_aim c ls (suc n) h.1)

    selected_aim : (s : Selected) (ls : List Word) → inside_selected outer ds ls s ≡ [] → AllKnown ls (jumps_alts (selected_alts s))
    selected_aim (select s b a m) ls e =
        let h = both_empty (action_faults outer ds ls a) (inside_more outer ds ls m) e in
        all_known_join ls (jumps_out (act_of a)) (jumps_alts (more_alts m)) (jumps_aim a ls h.0) (more_aim m ls h.1)
    selected_aim (otherwise i b a f) ls e = all_known_join ls (jumps_out (act_of a)) [] (jumps_aim a ls e) tt

    more_aim : (m : SelectedMore) (ls : List Word) → inside_more outer ds ls m ≡ [] → AllKnown ls (jumps_alts (more_alts m))
    more_aim (selected_end i) ls e = tt
    more_aim (selected_more i s) ls e = selected_aim s ls e
