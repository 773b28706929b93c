-- A flat machine: numbered instructions with links to where control goes, and a stack of return addresses. What it is for a code to hold an action.
use Rattle.std.specs.Prelude.{ℕ, zero, suc, ◌≡◌, cond, List, [], ◌∷◌}
use Rattle.std.proofs.Math.Option.{Option, none, some}
use Rattle.rules.specs.Text.Scan.{same_bytes}
use Rattle.rules.specs.Grammar.Precedence.{Expr}
use Rattle.rules.specs.Selectors.{Case, takes}
use Rattle.rules.specs.Declarations.{Word, Table}
use Rattle.rules.specs.Steps.Actions.{Access, Act, seq, par, label, ins, Ins, iff, decode, repeat, leave, restart, call, stop, noop, transfer, Alts, no_alts, alt}
use Rattle.rules.specs.Steps.Control.{Work, moves, tests, nothing}
use Rattle.rules.specs.Steps.Evaluation.{Carriers, Outcome, gives, faulty}
use Rattle.rules.specs.Steps.Runs.{Worked, perform}

-- where control goes when an action has ended: to an instruction, or out of the body
pub data Link : Type 0 where
  at : ℕ → Link
  exit : Link

-- the alternatives of a DECODE: where each begins
pub data Entries : Type 0 where
  no_entry : Entries
  entry : Case → ℕ → Entries → Entries

pub data Instr : Type 0 where
  if_i : Expr → ℕ → Link → Instr
  decode_i : ℕ → Expr → Entries → Instr
  go_i : Link → Instr
  call_i : Word → Link → Instr
  stop_i : Instr
  move_i : List Access → Expr → Link → Instr

-- the instructions by number, and where each body begins
pub record Code : Type 0 where
  pub instr : ℕ → Instr
  pub first : Word → ℕ

-- the control of the machine: at an instruction with a stack, or behind its last step
pub data At : Type 0 where
  pc : ℕ → List ℕ → At
  over : At
  halt : At
  broken : ℕ → ℕ → At

abbrev pub return : List ℕ → At
return [] = over
return (n ∷ σ) = pc n σ

abbrev pub go : Link → List ℕ → At
go (at n) σ = pc n σ
go exit σ = return σ

-- an activation that is the last thing in its body leaves no return address
abbrev pub push : Link → List ℕ → List ℕ
push (at n) σ = n ∷ σ
push exit σ = σ

unfoldable pub find : Entries → ℕ → Option ℕ
find no_entry v = none
find (entry c g t) v = cond (takes c v) (some g) (find t v)

abbrev pub picked : ℕ → List ℕ → Option ℕ → At
picked p σ none = broken 71 p
picked p σ (some g) = pc g σ

abbrev pub work_m : Instr → Work
work_m (if_i e g k) = tests e
work_m (decode_i p e t) = tests e
work_m (go_i k) = nothing
work_m (call_i p k) = nothing
work_m stop_i = nothing
work_m (move_i d e k) = moves d e

abbrev pub next_m : Code → Instr → List ℕ → ℕ → At
next_m C (if_i e g k) σ zero = go k σ
next_m C (if_i e g k) σ (suc v) = pc g σ
next_m C (decode_i p e t) σ v = picked p σ (find t v)
next_m C (go_i k) σ v = go k σ
next_m C (call_i p k) σ v = pc (C.first p) (push k σ)
next_m C stop_i σ v = halt
next_m C (move_i d e k) σ v = go k σ

-- what a step comes to, with the carriers from before and those behind its work
pub data Machine : Type 0 where
  runs : ℕ → List ℕ → Carriers → Machine
  ended : Carriers → Machine
  stood : Carriers → Machine
  broke : ℕ → ℕ → Carriers → Machine

abbrev pub put : Carriers → Carriers → At → Machine
put s u (pc n σ) = runs n σ u
put s u over = ended u
put s u halt = stood u
put s u (broken m p) = broke m p s

abbrev pub put_after : Carriers → (ℕ → At) → Outcome Worked → Machine
put_after s f (gives w) = put s w.carriers (f w.number)
put_after s f (faulty m p) = broke m p s

module _ (ds : Table) (C : Code) where
  abbrev pub step_m : ℕ → List ℕ → Carriers → Machine
  step_m n σ s = put_after s (next_m C (C.instr n) σ) (perform ds (work_m (C.instr n)) s)

-- the labels around an action: of each, where it begins and where control goes when it has ended
pub data Labels : Type 0 where
  outer : Labels
  bind : Word → ℕ → Link → Labels → Labels

unfoldable pub leave_to : Labels → Word → Option Link
leave_to outer j = none
leave_to (bind l f k ρ) j = cond (same_bytes j l) (some k) (leave_to ρ j)

unfoldable pub restart_to : Labels → Word → Option Link
restart_to outer j = none
restart_to (bind l f k ρ) j = cond (same_bytes j l) (some (at f)) (restart_to ρ j)

-- a jump has code if it has a target
abbrev pub Jumps : Option Link → Instr → Type 0
Jumps none i = ⊥
Jumps (some k) i = i ≡ go_i k

module _ (C : Code) where
  -- the code has, from f on, the action, with the link k behind it
  abbrev mutual
    pub Holds : Labels → ℕ → Link → Act → Type 0
    Holds ρ f k (seq a b) = (g : ℕ) × Holds ρ f (at g) a × Holds ρ g k b
    Holds ρ f k (par a b) = (g : ℕ) × Holds ρ f (at g) a × Holds ρ g k b
    Holds ρ f k (label l a) = Holds (bind l f k ρ) f k a
    Holds ρ f k (ins i) = HoldsI ρ f k i

    pub HoldsI : Labels → ℕ → Link → Ins → Type 0
    HoldsI ρ f k (iff e a) = (g : ℕ) × (C.instr f ≡ if_i e g k) × Holds ρ g k a
    HoldsI ρ f k (decode p e bs) = (t : Entries) × (C.instr f ≡ decode_i p e t) × HoldsAlts ρ t k bs
    HoldsI ρ f k (repeat a) = (g : ℕ) × (C.instr f ≡ go_i (at g)) × Holds ρ g (at f) a
    HoldsI ρ f k (leave l) = Jumps (leave_to ρ l) (C.instr f)
    HoldsI ρ f k (restart l) = Jumps (restart_to ρ l) (C.instr f)
    HoldsI ρ f k (call p) = C.instr f ≡ call_i p k
    HoldsI ρ f k stop = C.instr f ≡ stop_i
    HoldsI ρ f k noop = C.instr f ≡ go_i k
    HoldsI ρ f k (transfer d e) = C.instr f ≡ move_i d e k

    pub HoldsAlts : Labels → Entries → Link → Alts → Type 0
    HoldsAlts ρ t k no_alts = t ≡ no_entry
    HoldsAlts ρ t k (alt c a bs) = (g : ℕ) × (t' : Entries) × (t ≡ entry c g t') × Holds ρ g k a × HoldsAlts ρ t' k bs

  -- a body's own name is its outermost label
  abbrev pub own_label : Word → Labels
  own_label p = bind p (C.first p) exit outer

  abbrev pub HoldsBodies : (Word → Act) → Type 0
  HoldsBodies body = (p : Word) → Holds (own_label p) (C.first p) exit (body p)
