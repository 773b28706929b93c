-- Laws of transfers that are told: each step from the right side to the stores. A fault tells nothing.
-- Assumes nothing.
use Rattle.std.specs.Prelude.{ℕ, ◌+◌, ◌*◌, ◌≤◌, ◌≡◌, refl, List, [], ◌∷◌, length, ⊤, Result, Ok, Err}
use Rattle.std.proofs.Common.{sym, ◌∙◌, arith}
use Rattle.std.proofs.Math.Path.{ap, subst}
use Rattle.rules.specs.Text.Tokens.{Token}
use Rattle.rules.specs.Grammar.Precedence.{Expr}
use Rattle.rules.specs.Values.{Value, cut}
use Rattle.rules.specs.Limits.{deepest}
use Rattle.rules.specs.Declarations.{Table}
use Rattle.rules.specs.Stores.{Entry, entries_of, stored, if_given, made}
use Rattle.rules.specs.Steps.Actions.{Access, access, transfer_place, joined_accesses}
use Rattle.rules.specs.Steps.Control.{moves}
use Rattle.rules.specs.Steps.Evaluation.{Carriers, Outcome, gives, faulty, then, Field, evaluate, evaluate_accesses, transferred}
use Rattle.records.specs.Holds.{place_cell, inside_cell}
use Rattle.table.specs.Laws.Positions.{here, record_within}
use Rattle.operands.specs.declared.accesses.Field.{Field as Located}
use Rattle.operands.specs.declared.accesses.Outside.{Outside}
use Rattle.operands.specs.declared.expressions.Value.{Value as Worked}
use Rattle.operands.specs.Scene.{words_of}
use Rattle.operands.specs.Laws.Scene.{ExpressionTold, AccessTold}
use Rattle.evaluation.specs.declared.transfers.Fields.{Fields}
use Rattle.evaluation.specs.Stores.{sizes, StoresAt}
use Rattle.evaluation.specs.Gathering.{GatherAt, GatherAnswer}
use Rattle.evaluation.specs.Transfers.{assigned, AssignAt, TransferAt}
use Rattle.evaluation.specs.Laws.Transfers.{joined_faults, gathers, stores_at, joined_stored, assign_faults, gather_at, assign_joined}
use Rattle.evaluation.specs.Laws.Transfers.{right_gives, transfer_faults, assign_at, assign_to, transfer_assigned}
use Rattle.matching.specs.Matching.{told_all}
use Rattle.matching.specs.Room.{Sound}
use Rattle.storing.specs.Parts.{Tells, StoresTold}
use Rattle.storing.specs.Transfers.{entered, FieldsTold, AssignTold, TransferTold}

tells_nothing : {l : List Entry} {room : List ℕ} {es : List Entry} → es ≡ [] → Sound l room → Tells l room room es
unfolding told_all
tells_nothing {l} {room} e s = subst (Tells l room room) (sym e) (record { sound = s; is = refl })

-- where the stores meet a fault, there are no entries
none_entered : (o : Outcome (List Field)) (f : List Field → Carriers) (g : List Field → List Entry) {m p : ℕ} → then o (λ fs. gives (f fs)) ≡ faulty m p
    → if_given (then o (λ fs. gives (g fs))) ≡ []
unfolding then
none_entered (gives fs) f g e = let z : ◌≡◌ {A = ℕ} 0 1 = cc in absurd (omega arith)
none_entered (faulty m p) f g e = refl

-- A transfer that faults makes no stores.
pub fault_makes_nothing : (ds : Table) (s : Carriers) (to : List Access) (e : Expr) {m p : ℕ} → transferred ds s to e ≡ faulty m p → made ds (moves to e) s ≡ []
unfolding transferred stored then
fault_makes_nothing ds s to e {m} {p} = by (evaluate ds s e)
  where
    by : (o : Outcome Value) → then o (λ v. assigned ds s to v.number) ≡ faulty m p
        → if_given (then o (λ v. entered (transfer_place to) ds s to v.number)) ≡ []
    by (gives v) q = none_entered (evaluate_accesses ds s to) _ (λ fs. entries_of (transfer_place to) s fs (cut (sizes fs) v.number)) q
    by (faulty n r) q = refl

module _ {records values carriers : List ℕ} {word low size p end : ℕ} (g : GatherAt records values carriers word low size p end) (x place : ℕ) where
  abbrev entries_by : List Field → List Entry
  entries_by fs = entries_of place (words_of g.scene) fs (cut (sizes fs) x)

  module _ (l : List Entry) (room scratch : List ℕ) {r : Result Fields Outside} (f : (v : GatherAt records values carriers word low size p end) → GatherAnswer v scratch r) where
    pub fields_fault : {o : Outside} → r ≡ Err o → Sound l room → FieldsTold g x place carriers l room room (Err o)
    fields_fault e s = let h = joined_faults g x scratch f e in (h, tells_nothing (none_entered _ _ entries_by h.0) s)

    pub fields_stored : {all : Fields} → r ≡ Ok all → (after room' : List ℕ)
        → ((s : StoresAt carriers scratch all.count all.bits) → StoresTold s x place after l room room') → FieldsTold g x place after l room room' (Ok tt)
    unfolding then stores_at
    fields_stored e after room' h = (
      joined_stored g scratch f e x after (λ s. (h s).0),
      subst (Tells l room room') (sym (ap (λ o. if_given (then o (λ fs. gives (entries_by fs)))) (gathers g scratch f e).comes)) (h (stores_at g scratch f e)).1,
    )

module _ {records values carriers : List ℕ} {n end : ℕ} (d : AssignAt records values carriers n end) where
  abbrev to : List Access
  to = access d.name d.subscript d.bits ∷ joined_accesses d.more

  pub assign_room : 8 * n + 8 ≤ length records
  assign_room = record_within d.scene.holds n (here d.scene.tokens n _ _ d.reads).within

  assign_place : place_cell records n ≡ transfer_place to
  unfolding access
  assign_place =
      let h = here d.scene.tokens n _ _ d.reads in
      (d.scene.holds.entry n h.within).place ∙ ap (λ (t : Token). t.info.place) h.token

  module _ (x : ℕ) (l : List Entry) (room : List ℕ) {r : Result Located Outside} (f : AccessTold records values carriers n deepest r) where
    pub assign_fault : {o : Outside} → r ≡ Err o → Sound l room → AssignTold d x carriers l room room (Err o)
    assign_fault e s =
        let h = assign_faults d x f e in
        (h, tells_nothing (none_entered _ _ (λ fs. entries_of (transfer_place to) (words_of d.scene) fs (cut (sizes fs) x)) h.0) s)

    pub assign_told : {at : Located} {place : ℕ} → r ≡ Ok at → place ≡ place_cell records n → (after room' : List ℕ) (q : Result ⊤ Outside)
        → ((g : GatherAt records values carriers at.word at.low at.size at.next end) → FieldsTold g x place after l room room' q) → AssignTold d x after l room room' q
    unfolding gather_at
    assign_told e is after room' q h = (
      assign_joined d f e x after q (λ g. (h g).0),
      subst (λ i. Tells l room room' (if_given (entered i d.scene.table (words_of d.scene) to x))) (is ∙ assign_place) (h (gather_at d f e)).1,
    )

module _ {records values carriers : List ℕ} {n : ℕ} (t : TransferAt records values carriers n) where
  -- what follows the right side
  abbrev stored_by : Outcome Value → List Entry
  stored_by o = if_given (then o (λ v. entered (transfer_place t.to) t.scene.table (words_of t.scene) t.to v.number))

  module _ {k : ℕ} (equals : k ≡ inside_cell records n) (l : List Entry) (room : List ℕ) {r : Result Worked Outside}
      (f : ExpressionTold records values carriers (k + 1) deepest r) where
    pub transfer_fault : {o : Outside} → r ≡ Err o → Sound l room → TransferTold t carriers l room room (Err o)
    transfer_fault e s =
        let h = transfer_faults t equals f e in
        (h, tells_nothing (fault_makes_nothing t.scene.table (words_of t.scene) t.to t.right h.0) s)

    pub transfer_told : {w : Worked} → r ≡ Ok w → (after room' : List ℕ) (q : Result ⊤ Outside)
        → ((d : AssignAt records values carriers n k) → AssignTold d w.number after l room room' q) → TransferTold t after l room room' q
    unfolding stored then assign_at
    transfer_told {w} e after room' q h = (
      transfer_assigned t equals f e after q (λ d. (h d).0),
      subst (Tells l room room')
          (sym (ap stored_by (right_gives t equals f e)
          ∙ ap (λ to. if_given (entered (transfer_place to) t.scene.table (words_of t.scene) to w.number)) (assign_to t equals))) (h (assign_at t equals)).1,
    )
