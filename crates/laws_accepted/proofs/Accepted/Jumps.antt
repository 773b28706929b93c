-- Row 44: where an action has no fault of the 40s, each LEAVE and RESTART that aims outside it aims at one of the labels around it.
use Rattle.std.specs.Prelude.{◌≡◌, refl, Bool, true, false, not, ◌||◌, List, [], ◌∷◌, ◌++◌, ℕ, suc}
use Rattle.std.proofs.Common.{sym, ◌∙◌, ap, append_assoc}
use Rattle.std.proofs.lemmas.Bool.{false≢true, not-false}
use Rattle.std.proofs.Math.Option.{Option, none, some}
use Rattle.rules.specs.Text.Scan.{same_bytes}
use Rattle.rules.specs.Grammar.Trees.{Action, block, labelled, if_then, decode, repeat, leave, restart, activate, stop, no_op, transfer, Members, end, also, next}
use Rattle.rules.specs.Grammar.Trees.{Alternatives, counted, selected, Counted, counted_end, counted_more, Selected, select, otherwise, SelectedMore, selected_end, selected_more}
use Rattle.rules.specs.Grammar.Precedence.{expr_of}
use Rattle.rules.specs.Declarations.{Word, Table}
use Rattle.rules.specs.Steps.Actions.{Act, par, in_turn, whole, act_of, groups, alts_of, counted_alts, selected_alts, more_alts}
use Rattle.laws_orders.proofs.Orders.Orderly.{without, jumps_out, jumps_i, jumps_alts}
use Rattle.rules.specs.Faults.Fault.{when}
use Rattle.rules.specs.Faults.Declared.{is_known}
use Rattle.rules.specs.Faults.Bodies.{judge, faults_in, alternatives_faults, action_faults, members_faults, inside_faults, inside_counted, inside_selected, inside_more}
use Rattle.laws_accepted.proofs.Accepted.Faultless.{both_empty, when_empty}
use Rattle.laws_accepted.proofs.Accepted.Named.{same_equal, same_itself, AllKnown}

pub all_known_join : (ls xs ys : List Word) → AllKnown ls xs → AllKnown ls ys → AllKnown ls (xs ++ ys)
all_known_join ls [] ys p q = q
all_known_join ls (x ∷ xs) ys p q = (p.0, all_known_join ls xs ys p.1 q)

-- outside a label, the jumps to it are no jumps
pub all_known_without : (l : Word) (ls ks : List Word) → AllKnown (l ∷ ls) ks → AllKnown ls (without l ks)
unfolding without is_known
all_known_without l ls [] h = tt
all_known_without l ls (k ∷ ks) h = by (same_bytes l k) (same_bytes k l) refl refl (all_known_without l ls ks h.1) h.0
  where
    by :
        (a b : Bool) → same_bytes l k ≡ a → same_bytes k l ≡ b → AllKnown ls (without l ks) → (a || is_known k ls) ≡ true
        → AllKnown ls (elim b [ true ↦ without l ks | false ↦ k ∷ without l ks ])
    by a true p q ih z = ih
    by true false p q ih z = absurd (false≢true (sym q ∙ (ap (same_bytes k) (same_equal l k p) ∙ same_itself k)))
    by false false p q ih z = (z, ih)

-- a target that gives no fault is known
pub aimed : (n : Word) (ls : List Word) (m p : ℕ) → when (not (is_known n ls)) m p ≡ [] → AllKnown ls (n ∷ [])
aimed n ls m p e = (not-false (is_known n ls) (when_empty (not (is_known n ls)) m p e), tt)

-- a member in front of the members and groups behind it
pub in_front :
    (ls : List Word) (x y : Act) (o : Option Act) → AllKnown ls (jumps_out x) → AllKnown ls (jumps_out (in_turn y o))
    → AllKnown ls (jumps_out (in_turn (par x y) o))
unfolding jumps_out
in_front ls x y none p q = all_known_join ls (jumps_out x) (jumps_out y) p q
in_front ls x y (some z) p q = rw append_assoc (all_known_join ls (jumps_out x) (jumps_out y ++ jumps_out z) p q)
