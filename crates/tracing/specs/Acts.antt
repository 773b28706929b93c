-- One instruction: what its step comes to, and that its stores are told.
use Rattle.std.specs.Prelude.{ℕ, List, Result}
use Rattle.rules.specs.Stores.{Entry, made}
use Rattle.laws_orders.specs.Cited.Flat.{work_m}
use Rattle.operands.specs.Scene.{words_of}
use Rattle.stepping.specs.declared.steps.Moved.{Moved}
use Rattle.stepping.specs.declared.steps.Fault.{Fault}
use Rattle.stepping.specs.Steps.{StepAt, StepAnswer}
use Rattle.storing.specs.Parts.{Tells}

pub record ActTold {records values decls carriers : List ℕ} {n : ℕ} (v : StepAt records values decls carriers n) (after : List ℕ)
    (l : List Entry) (room room' : List ℕ) (r : Result Moved Fault) : Type 0 where
  pub answer : StepAnswer v after r
  pub tells : Tells l room room' (made v.scene.table (work_m (v.code.instr n)) (words_of v.scene))
