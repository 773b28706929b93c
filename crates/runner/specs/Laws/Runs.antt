-- Laws of the run with a budget: what a turn of its loop keeps.
-- Assumes nothing.
use Rattle.std.specs.Prelude.{ℕ, zero, suc, ◌+◌, ◌-◌, ◌<◌, ◌≤◌, ◌≡◌, refl, List, [], ◌∷◌, length, get_or, set, Result, Ok, Err}
use Rattle.std.proofs.Math.Path.{sym, ap}
use Rattle.std.proofs.Common.{◌∙◌, subst, add-one, get_or-set_same, get_or-set_other}
use native.Mathlib.Omega.{arith}
use Rattle.rules.specs.Declarations.{Table, total_words}
use Rattle.rules.specs.Steps.Evaluation.{Carriers, Outcome, gives, faulty}
use Rattle.rules.specs.Steps.Runs.{Worked, perform, Run, run_with, done, halted, faulted, run}
use Rattle.laws_orders.specs.Cited.Flat.{Code, At as Control, pc, over, halt, broken, return, next_m, work_m, Machine, runs, ended, stood, broke, put, put_after, step_m}
use Rattle.laws_orders.proofs.Orders.Flat.{run_m}
use Rattle.laws_orders.proofs.Orders.Simulate.{machine_agrees}
use Rattle.laws_orders.proofs.Orders.Places.{Place, place_first, place_next, place_stack}
use Rattle.promise.specs.Reached.{Reached, first, onward}
use Rattle.promise.specs.Laws.Reached.{AllReached, reached_next}
use Rattle.operands.specs.Scene.{carrier_words}
use Rattle.runner.specs.declared.runs.Ended.TheVariants.{Done, Stopped, Paused, Fault as Broken}
use Rattle.stepping.specs.declared.steps.Moved.{Moved}
use Rattle.stepping.specs.declared.steps.Moved.TheVariants.{Go, Call, Stop}
use Rattle.stepping.specs.declared.steps.Fault.{Fault}
use Rattle.stepping.specs.Steps.{returning, control, Keeps, StepAt, StepAnswer}
use Rattle.runner.specs.declared.turns.Turned.{Turned}
use Rattle.runner.specs.declared.turns.Turned.TheVariants.{At, Over, Stop as Standing}
use Rattle.runner.specs.Runs.{stack_of, RunAt, RunAnswer}
use Rattle.runner.specs.Turns.{turned_to, Room, Turns}

-- THE STACK
pub stack_length : (links : List ℕ) (d : ℕ) → length (stack_of links d) ≡ d
unfolding stack_of
stack_length links zero = refl
stack_length links (suc d) = ap suc (stack_length links d)

stack_kept : (links : List ℕ) (x k d : ℕ) → d ≤ k → stack_of (set links k x) d ≡ stack_of links d
unfolding stack_of
stack_kept links x k zero l = refl
stack_kept links x k (suc d) l =
    rw (get_or-set_other links k d x 0 (λ e. omega arith)) (ap (λ σ. get_or links d 0 ∷ σ) (stack_kept links x k d (omega arith)))

pub stack_pushed : (links : List ℕ) (x d : ℕ) → d < length links → stack_of (set links d x) (d + 1) ≡ x ∷ stack_of links d
unfolding stack_of
stack_pushed links x d l = rw add-one (rw (get_or-set_same links d x 0 l) (ap (λ σ. x ∷ σ) (stack_kept links x d d (omega arith))))

pub bottom : (links : List ℕ) (d : ℕ) → d ≡ 0 → stack_of links d ≡ []
unfolding stack_of
bottom links zero e = refl
bottom links (suc d) e = absurd (omega arith)

pub popped : (links : List ℕ) (d : ℕ) → (d ≡ 0 → ⊥) → return (stack_of links d) ≡ pc (get_or links (d - 1) 0) (stack_of links (d - 1))
unfolding stack_of
popped links zero n = absurd (n refl)
popped links (suc d) n = let less : suc d - 1 ≡ d = omega arith in ap (λ k. pc (get_or links k 0) (stack_of links k)) (sym less)

pub pushes : (b : ℕ) (σ : List ℕ) → (b ≡ 0 → ⊥) → returning b σ ≡ b ∷ σ
pushes zero σ z = absurd (z refl)
pushes (suc b) σ z = refl

-- A STEP of the machine's run
abbrev onward_m : Table → Code → ℕ → ℕ → Machine → Run
onward_m ds C b k m =
    elim m [
      | runs n σ u ↦ run_m ds C b (suc k) n σ u
      | ended u ↦ run_with done (suc k) u
      | stood u ↦ run_with halted (suc k) u
      | broke x p u ↦ run_with (faulted x p) k u
    ]

step_onward : (ds : Table) (C : Code) (b k n : ℕ) (σ : List ℕ) (s : Carriers) (m : Machine) → step_m ds C n σ s ≡ m → run_m ds C (suc b) k n σ s ≡ onward_m ds C b k m
unfolding run_m
step_onward ds C b k n σ s m e = ap (onward_m ds C b k) e

from_put : (s u t : Carriers) (x : Control) (n : ℕ) (σ : List ℕ) → put s u x ≡ runs n σ t → x ≡ pc n σ
from_put s u t (pc m τ) n σ e = cc
from_put s u t over n σ e = absurd (let z : ◌≡◌ {A = ℕ} 0 1 = cc in omega arith)
from_put s u t halt n σ e = absurd (let z : ◌≡◌ {A = ℕ} 0 1 = cc in omega arith)
from_put s u t (broken m p) n σ e = absurd (let z : ◌≡◌ {A = ℕ} 0 1 = cc in omega arith)

from_after : (s t : Carriers) (f : ℕ → Control) (o : Outcome Worked) (n : ℕ) (σ : List ℕ) → put_after s f o ≡ runs n σ t → (v : ℕ) × (f v ≡ pc n σ)
from_after s t f (gives w) n σ e = (w.number, from_put s w.carriers t (f w.number) n σ e)
from_after s t f (faulty m p) n σ e = absurd (let z : ◌≡◌ {A = ℕ} 0 1 = cc in omega arith)

-- just a fault leads to a fault, and there the carriers are kept
faulted_kept : {before after : List ℕ} (r : Result Moved Fault) (σ : List ℕ) {m p : ℕ} → Keeps r before after → control r σ ≡ broken m p → after ≡ before
faulted_kept (Ok (Go zero)) [] k e = absurd (let z : ◌≡◌ {A = ℕ} 0 1 = cc in omega arith)
faulted_kept (Ok (Go zero)) (n ∷ σ) k e = absurd (let z : ◌≡◌ {A = ℕ} 0 1 = cc in omega arith)
faulted_kept (Ok (Go (suc n))) σ k e = absurd (let z : ◌≡◌ {A = ℕ} 0 1 = cc in omega arith)
faulted_kept (Ok (Call f b)) σ k e = absurd (let z : ◌≡◌ {A = ℕ} 0 1 = cc in omega arith)
faulted_kept (Ok Stop) σ k e = absurd (let z : ◌≡◌ {A = ℕ} 0 1 = cc in omega arith)
faulted_kept (Err f) σ k e = k

-- THE LOOP: at an instruction, with a stack, the machine has the rest of the run to do
pub record Running {records values decls before : List ℕ} {start : ℕ} (v : RunAt records values decls before start) (budget : ℕ) (carriers σ : List ℕ) (at steps : ℕ) : Type 0 where
  pub place : Place v.table v.code at σ
  pub reached : Reached v.table v.code at
  pub returns : AllReached v.table v.code σ
  pub same : run_m v.table v.code (budget - steps) steps at σ (carrier_words (total_words v.table) carriers)
      ≡ run v.table v.main budget (carrier_words (total_words v.table) before)

module _ {records values decls before : List ℕ} {start : ℕ} (v : RunAt records values decls before start) (budget : ℕ) where
  abbrev words₀ : Carriers
  words₀ = carrier_words (total_words v.table) before

  pub run_starts : Running v budget before [] start 0
  run_starts =
      let e = sym v.begins in
      let whole : budget - 0 ≡ budget = omega arith in
      record {
        place = subst (λ n. Place v.table v.code n []) e (place_first v.table v.code v.promise.bodies v.main (v.promise.chains v.main));
        reached = subst (Reached v.table v.code) e (first v.main v.body v.declared);
        returns = tt;
        same = ap (λ b. run_m v.table v.code b 0 start [] words₀) whole ∙ subst (λ n. run_m v.table v.code budget 0 n [] words₀ ≡ run v.table v.main budget words₀) e
            (machine_agrees v.code v.table v.promise.bodies v.main budget words₀);
      }

  module _ {carriers σ : List ℕ} {at steps : ℕ} (g : Running v budget carriers σ at steps) (long : length carriers ≡ length before) where
    pub short : length σ ≤ 16
    short = place_stack v.table v.code g.place

    pub step_at : StepAt records values decls carriers at
    step_at =
        let p = v.promise in
        let i = p.instructions at g.reached in
        record {
          scene = record {
            text = v.text;
            tokens = v.tokens;
            outer = v.outer;
            table = v.table;
            holds = p.holds;
            fits = p.fits;
            declares = p.declares;
            accesses = p.accesses;
            words = long ∙ v.words;
          };
          fixed = p.fixed;
          room = p.decls_room;
          code = v.code;
          within = i.1.0;
          holds = i.1.1;
          leads = λ h l. (p.instructions h (onward at h g.reached l)).0;
        }

    -- the steps, by what each comes to
    module _ (more : steps < budget) {after : List ℕ} {r : Result Moved Fault} (told : (u : StepAt records values decls carriers at) → StepAnswer u after r) where
      abbrev now_words : Carriers
      now_words = carrier_words (total_words v.table) carriers

      abbrev after_words : Carriers
      after_words = carrier_words (total_words v.table) after

      comes : step_m v.table v.code at σ now_words ≡ put now_words after_words (control r σ)
      unfolding step_at
      comes = (told step_at).comes σ

      one_left : budget - steps ≡ suc (budget - (steps + 1))
      one_left = omega arith

      goes_on : run v.table v.main budget words₀ ≡ onward_m v.table v.code (budget - (steps + 1)) steps (put now_words after_words (control r σ))
      goes_on = sym g.same ∙ ap (λ b. run_m v.table v.code b steps at σ now_words) one_left
          ∙ step_onward v.table v.code (budget - (steps + 1)) steps at σ now_words _ comes

      -- control is at another instruction
      runs_on : {n : ℕ} {τ : List ℕ} → control r σ ≡ pc n τ → Running v budget after τ n (steps + 1)
      runs_on {n} {τ} e =
          let w = from_after now_words after_words (next_m v.code (v.code.instr at) σ) (perform v.table (work_m (v.code.instr at)) now_words) n τ
          (comes ∙ ap (put now_words after_words) e) in
          let q = reached_next v.table v.code at σ w.0 n τ g.reached g.returns w.1 in
          record {
            place = place_next v.table v.code v.promise.bodies g.place w.0 n τ w.1;
            reached = q.0;
            returns = q.1;
            same = ap (λ k. run_m v.table v.code (budget - (steps + 1)) k n τ after_words) (add-one steps)
                ∙ sym (goes_on ∙ ap (λ x. onward_m v.table v.code (budget - (steps + 1)) steps (put now_words after_words x)) e);
          }

      -- an activation that leaves a return address
      calls_on : (f b : ℕ) → r ≡ Ok (Call f b) → (b ≡ 0 → ⊥) → Running v budget after (b ∷ σ) f (steps + 1)
      calls_on f b e z = runs_on (ap (λ r. control r σ) e ∙ ap (pc f) (pushes b σ z))

    pub pauses : budget ≤ steps → steps ≤ budget → RunAnswer v budget carriers (Paused steps)
    unfolding run_m
    pauses l m = let over : budget - steps ≡ 0 = omega arith in record { same = sym g.same ∙ ap (λ b. run_m v.table v.code b steps at σ (carrier_words (total_words v.table) carriers)) over }

  pub run_begins : (links : List ℕ) → Running v budget before (stack_of links 0) start 0
  unfolding stack_of
  run_begins links = run_starts

  -- the return address of a step finds room
  pub turn_room : {carriers : List ℕ} {at steps : ℕ} (links : List ℕ) (depth : ℕ) → Running v budget carriers (stack_of links depth) at steps → length carriers ≡ length before
      → steps < budget → {after : List ℕ} {r : Result Moved Fault} → ((u : StepAt records values decls carriers at) → StepAnswer u after r) → length after ≡ length carriers → length links ≡ 16
      → Room links r depth
  turn_room links depth g long more told same size = record {
    long = size;
    high = omega (arith, short g long, stack_length links depth);
    more = λ f k e z. omega (arith, short (calls_on g long more told f k e z) (same ∙ long), stack_length links depth);
  }

  -- a turn, by where control is then
  module _ {links : List ℕ} {depth : ℕ} {carriers : List ℕ} {at steps : ℕ} (g : Running v budget carriers (stack_of links depth) at steps) (long : length carriers ≡ length before)
      (more : steps < budget) {after : List ℕ} {r : Result Moved Fault} (told : (u : StepAt records values decls carriers at) → StepAnswer u after r) {stack : List ℕ} {t : Result Turned Fault}
      (turns : Turns links r depth stack t) where
    control_is : {u : Result Turned Fault} → t ≡ u → control r (stack_of links depth) ≡ turned_to u stack
    control_is e = sym turns.to ∙ ap (λ t. turned_to t stack) e

    comes_to : (u : Result Turned Fault) → t ≡ u → run v.table v.main budget words₀ ≡ onward_m v.table v.code (budget - (steps + 1)) steps
        (put (carrier_words (total_words v.table) carriers) (carrier_words (total_words v.table) after) (turned_to u stack))
    comes_to u e = goes_on g long more told ∙ ap (λ x. onward_m v.table v.code (budget - (steps + 1)) steps (put (carrier_words (total_words v.table) carriers)
        (carrier_words (total_words v.table) after) x)) (control_is e)

    pub faults_there : {f : Fault} → t ≡ Err f → RunAnswer v budget after (Broken f.number f.place steps)
    unfolding step_at
    faults_there {f} e =
        let k : after ≡ carriers = faulted_kept r (stack_of links depth) (told (step_at g long)).kept (control_is e) in
        record { same = comes_to (Err f) e ∙ ap (λ c. run_with (faulted f.number f.place) steps (carrier_words (total_words v.table) c)) (sym k) }

    pub stops_there : t ≡ Ok Standing → RunAnswer v budget after (Stopped (steps + 1))
    stops_there e = record { same = comes_to (Ok Standing) e ∙ ap (λ k. run_with halted k (carrier_words (total_words v.table) after)) (sym (add-one steps)) }

    pub ends_there : t ≡ Ok Over → RunAnswer v budget after (Done (steps + 1))
    ends_there e = record { same = comes_to (Ok Over) e ∙ ap (λ k. run_with done k (carrier_words (total_words v.table) after)) (sym (add-one steps)) }

    pub goes_there : {n d : ℕ} → t ≡ Ok (At n d) → Running v budget after (stack_of stack d) n (steps + 1)
    goes_there e = runs_on g long more told (control_is e)
