-- One instruction in the table: what its step comes to, whatever the stack of return addresses is.
use Rattle.std.specs.Prelude.{ℕ, zero, suc, ◌*◌, ◌<◌, ◌≤◌, ◌≡◌, List, ◌∷◌, length, Result, Ok, Err}
use Rattle.rules.specs.Text.Tokens.{Const}
use Rattle.rules.specs.Declarations.{total_words}
use Rattle.rules.specs.Limits.{most_declarations}
use Rattle.laws_orders.specs.Cited.Flat.{Instr, if_i, decode_i, go_i, call_i, stop_i, move_i, Code, pc, halt, broken, return, put, step_m}
use Rattle.laws_orders.specs.Cited.Flat as flat
use Rattle.records.specs.Holds.{token_at}
use Rattle.promise.specs.Instructions.{InstructionHolds}
use Rattle.promise.specs.Reached.{Leads}
use Rattle.operands.specs.Scene.{Scene, carrier_words, words_of}
use Rattle.stepping.specs.declared.steps.Moved.{Moved}
use Rattle.stepping.specs.declared.steps.Moved.TheVariants.{Go, Call, Stop}
use Rattle.stepping.specs.declared.steps.Fault.{Fault}

-- where control goes by the number of a link; 0 leads out of the body
abbrev pub onward : ℕ → List ℕ → flat.At
onward zero σ = return σ
onward (suc n) σ = pc (suc n) σ

abbrev pub returning : ℕ → List ℕ → List ℕ
returning zero σ = σ
returning (suc n) σ = suc n ∷ σ

abbrev pub control : Result Moved Fault → List ℕ → flat.At
control (Ok (Go k)) σ = onward k σ
control (Ok (Call f k)) σ = pc f (returning k σ)
control (Ok Stop) σ = halt
control (Err f) σ = broken f.number f.place

-- a fault by its number and its place
abbrev pub fault : ℕ → ℕ → Fault
fault m p = record { number = m; place = p }

-- an instruction of an accepted text, which leads to no instruction 0
pub record StepAt (records values decls carriers : List ℕ) (n : ℕ) : Type 0 where
  pub scene : Scene records values carriers
  pub fixed : (i : ℕ) → i < length scene.tokens → (token_at scene.tokens i).kind ≡ Const → (token_at scene.tokens i).info.free ≡ 0
  pub room : 2 * most_declarations ≤ length decls
  pub code : Code
  pub within : n < length scene.tokens
  pub holds : InstructionHolds records decls scene.tokens scene.outer scene.table code n (code.instr n)
  pub leads : (g : ℕ) → Leads code (code.instr n) g → 0 < g

-- "A faulting step .. changes nothing."
abbrev pub Keeps : Result Moved Fault → List ℕ → List ℕ → Type 0
Keeps (Ok m) before after = Unit {0}
Keeps (Err f) before after = after ≡ before

abbrev pub Activates : Instr → Type 0
Activates (if_i e g k) = ⊥
Activates (decode_i p e t) = ⊥
Activates (go_i k) = ⊥
Activates (call_i p k) = Unit {0}
Activates stop_i = ⊥
Activates (move_i d e k) = ⊥

-- just an activation leads into a body
abbrev pub Into : Result Moved Fault → Instr → Type 0
Into (Ok (Go k)) i = Activates i → ⊥
Into (Ok (Call f k)) i = Activates i
Into (Ok Stop) i = Activates i → ⊥
Into (Err f) i = Activates i → ⊥

pub record StepAnswer {records values decls carriers : List ℕ} {n : ℕ} (v : StepAt records values decls carriers n) (after : List ℕ) (r : Result Moved Fault) : Type 0 where
  pub comes : (σ : List ℕ)
      → step_m v.scene.table v.code n σ (words_of v.scene)
      ≡ put (words_of v.scene) (carrier_words (total_words v.scene.table) after) (control r σ)
  pub kept : Keeps r carriers after
  pub into : Into r (v.code.instr n)
