-- Laws of one instruction: only a transfer stores, and what it stores is told.
-- Assumes nothing.
use Rattle.std.specs.Prelude.{ℕ, ◌+◌, ◌≡◌, List, [], ⊤, Result, Ok, Err}
use Rattle.std.proofs.Math.Path.{refl, subst}
use Rattle.std.proofs.Common.{sym}
use Rattle.rules.specs.Text.Tokens.{kind_no, Name, LPar}
use Rattle.rules.specs.Stores.{Entry, made}
use Rattle.rules.specs.Declarations.{Table}
use Rattle.rules.specs.Steps.Evaluation.{Carriers}
use Rattle.laws_orders.specs.Cited.Flat.{Instr, if_i, decode_i, go_i, call_i, stop_i, move_i, work_m}
use Rattle.records.specs.Holds.{kind_byte}
use Rattle.operands.specs.declared.accesses.Outside.{Outside}
use Rattle.evaluation.specs.Transfers.{TransferAt}
use Rattle.stepping.specs.declared.steps.Moved.{Moved}
use Rattle.stepping.specs.declared.steps.Moved.TheVariants.{Go}
use Rattle.stepping.specs.declared.steps.Fault.{Fault}
use Rattle.stepping.specs.Steps.{StepAt, StepAnswer, fault}
use Rattle.stepping.specs.Laws.Steps.{no_move, move_at, move_made, move_faults, move_goes}
use Rattle.records.specs.Holds.{link_cell}
use Rattle.matching.specs.Matching.{told_all}
use Rattle.matching.specs.Room.{Sound}
use Rattle.storing.specs.Parts.{Tells}
use Rattle.storing.specs.Transfers.{TransferTold}
use Rattle.tracing.specs.Acts.{ActTold}

module _ {records values decls carriers : List ℕ} {n : ℕ} (v : StepAt records values decls carriers n) where
  -- what is no transfer stores nothing
  quiet : (kind_byte records n ≡ kind_no Name → kind_byte records (n + 1) ≡ kind_no LPar) → (ds : Table) (s : Carriers) → made ds (work_m (v.code.instr n)) s ≡ []
  quiet o ds s = by (v.code.instr n) refl
    where
      by : (i : Instr) → v.code.instr n ≡ i → made ds (work_m i) s ≡ []
      by (if_i e g k) q = refl
      by (decode_i p e t) q = refl
      by (go_i k) q = refl
      by (call_i p k) q = refl
      by stop_i q = refl
      by (move_i d e k) q = absurd (no_move v o d e k q)

  pub quiet_told : (kind_byte records n ≡ kind_no Name → kind_byte records (n + 1) ≡ kind_no LPar) → {l : List Entry} {room : List ℕ} → Sound l room → {after : List ℕ} {r : Result Moved Fault}
      → ((w : StepAt records values decls carriers n) → StepAnswer w after r) → ActTold v after l room room r
  unfolding told_all
  quiet_told o {l} {room} s a = record { answer = a v; tells = subst (Tells l room room) (sym (quiet o _ _)) (record { sound = s; is = refl }) }

  module _ (k : kind_byte records n ≡ kind_no Name) (o : kind_byte records (n + 1) ≡ kind_no LPar → ⊥) {l : List Entry} {after room room' : List ℕ} where
    transfer_told : (r : Result ⊤ Outside) {m : Result Moved Fault} → ((t : TransferAt records values carriers n) → TransferTold t after l room room' r) → StepAnswer v after m → ActTold v after l room room' m
    transfer_told r h a = record { answer = a; tells = subst (Tells l room room') (move_made v k o) (h (move_at v k o)).1 }

    pub fault_told : {r : Result ⊤ Outside} {out : Outside} → r ≡ Err out → ((t : TransferAt records values carriers n) → TransferTold t after l room room' r) → ActTold v after l room room' (Err (fault 70 out.place))
    fault_told {r} e h = transfer_told r h (move_faults v k o (λ t. (h t).0) e)

    pub stored_told : {r : Result ⊤ Outside} {u : ⊤} {next : ℕ} → r ≡ Ok u → next ≡ link_cell records n → ((t : TransferAt records values carriers n) → TransferTold t after l room room' r)
        → ActTold v after l room room' (Ok (Go next))
    stored_told {r} e w h = transfer_told r h (move_goes v k o (λ t. (h t).0) e w)
