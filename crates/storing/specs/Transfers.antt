-- Transfers that are made and told.
use Rattle.std.specs.Prelude.{ℕ, List, ◌∷◌, ⊤, Result}
use Rattle.rules.specs.Values.{cut}
use Rattle.rules.specs.Declarations.{Table}
use Rattle.rules.specs.Stores.{Entry, entries_of, if_given, made}
use Rattle.rules.specs.Steps.Actions.{Access, access, transfer_place, joined_accesses}
use Rattle.rules.specs.Steps.Control.{moves}
use Rattle.rules.specs.Steps.Evaluation.{Carriers, Outcome, gives, then, evaluate_accesses}
use Rattle.operands.specs.Scene.{words_of}
use Rattle.operands.specs.declared.accesses.Outside.{Outside}
use Rattle.evaluation.specs.Stores.{sizes}
use Rattle.evaluation.specs.Gathering.{GatherAt}
use Rattle.evaluation.specs.Transfers.{JoinedAnswer, AssignAt, AssignAnswer, TransferAt, TransferAnswer}
use Rattle.storing.specs.Parts.{Tells}

-- beside `assigned`, the entries of the stores of x to a destination
abbrev pub entered : ℕ → Table → Carriers → List Access → ℕ → Outcome (List Entry)
entered p ds s to x = then (evaluate_accesses ds s to) (λ fs. gives (entries_of p s fs (cut (sizes fs) x)))

-- a destination whose first field is known
abbrev pub FieldsTold : {records values carriers : List ℕ} {word low size p end : ℕ} → GatherAt records values carriers word low size p end → ℕ → ℕ → List ℕ
    → List Entry → List ℕ → List ℕ → Result ⊤ Outside → Type 0
FieldsTold g x place after l room room' r =
    JoinedAnswer g x after r
    × Tells l room room' (if_given (entered place g.scene.table (words_of g.scene) (g.first ∷ joined_accesses g.more) x))

-- a destination from the name n up to the `=`
abbrev pub AssignTold : {records values carriers : List ℕ} {n end : ℕ} → AssignAt records values carriers n end → ℕ → List ℕ
    → List Entry → List ℕ → List ℕ → Result ⊤ Outside → Type 0
AssignTold d x after l room room' r =
    let to = access d.name d.subscript d.bits ∷ joined_accesses d.more in
    AssignAnswer d x after r × Tells l room room' (if_given (entered (transfer_place to) d.scene.table (words_of d.scene) to x))

-- the transfer at the instruction n
abbrev pub TransferTold : {records values carriers : List ℕ} {n : ℕ} → TransferAt records values carriers n → List ℕ
    → List Entry → List ℕ → List ℕ → Result ⊤ Outside → Type 0
TransferTold t after l room room' r =
    TransferAnswer t after r × Tells l room room' (made t.scene.table (moves t.to t.right) (words_of t.scene))
