-- The tracing machine: the flat machine with a stack of the activations that go on, each by its instruction. Each step tells what it passes.
use Rattle.std.specs.Prelude.{ℕ, zero, suc, List, [], ◌∷◌, ◌++◌, map}
use Rattle.std.proofs.Math.Option.{Option, none, some}
use Rattle.rules.specs.Declarations.{Word, Table}
use Rattle.rules.specs.Stores.{Entry, made}
use Rattle.rules.specs.Steps.Evaluation.{Carriers, Outcome, gives, faulty}
use Rattle.rules.specs.Steps.Runs.{Worked, perform, Run, run_with, done, halted, paused, faulted}
use Rattle.laws_orders.specs.Cited.Flat.{Link, at, exit, Instr, if_i, decode_i, go_i, call_i, stop_i, move_i, Code, At, pc, over, halt, broken, push, find, work_m}
use Rattle.laws_orders.specs.Cited.Flat.{Machine, runs, ended, stood, broke, put}
use Rattle.traces.specs.Cited.Entries.{Block}
use Rattle.traces.specs.Cited.Events.{Event, stores}
use Rattle.telling.specs.Cited.Passing.{Grouping, Passing, closed, group_event, pair_events, passage}

-- the control that a step has come to, and what it passed
pub record Told : Type 0 where
  pub control : At
  pub passed : List Passing

abbrev pub told : At → List Passing → Told
told m ps = record { control = m; passed = ps }

-- first some passings, then what is told
abbrev pub behind_all : List Passing → Told → Told
behind_all ps t = told t.control (ps ++ t.passed)

-- the link behind an instruction; DECODE and STOP have none
abbrev pub link_of : Instr → Link
link_of (if_i e g k) = k
link_of (decode_i p e t) = exit
link_of (go_i k) = k
link_of (call_i p k) = k
link_of stop_i = exit
link_of (move_i d e k) = k

module _ (C : Code) where
  -- the stack of the flat machine: an activation that is the last thing in its body leaves no return address
  unfoldable pub addresses : List ℕ → List ℕ
  addresses [] = []
  addresses (m ∷ κ) = push (link_of (C.instr m)) (addresses κ)

module _ (C : Code) (M : Grouping) where
  -- a body that has ended closes its groups; control goes on behind its activation, from that instruction, by its link
  abbrev pub resume : ℕ → List ℕ → Told → Link → Told
  resume m κ t (at n) = told (pc n κ) (passage M (M.around m) (M.around n))
  resume m κ t exit = behind_all (map closed (M.around m)) t

  unfoldable pub return : List ℕ → Told
  return [] = told over []
  return (m ∷ κ) = resume m κ (return κ) (link_of (C.instr m))

  -- from an instruction with the members xs around it, by a link
  abbrev pub follow : List ℕ → Link → List ℕ → Told
  follow xs (at n) κ = told (pc n κ) (passage M xs (M.around n))
  follow xs exit κ = behind_all (map closed xs) (return κ)

  abbrev pub picked_t : ℕ → List ℕ → List ℕ → Option ℕ → Told
  picked_t p xs κ none = told (broken 71 p) []
  picked_t p xs κ (some g) = follow xs (at g) κ

  -- a step of the instruction number n, by the number that its work gives
  abbrev pub next_t : ℕ → Instr → List ℕ → ℕ → Told
  next_t n (if_i e g k) κ zero = follow (M.around n) k κ
  next_t n (if_i e g k) κ (suc v) = follow (M.around n) (at g) κ
  next_t n (decode_i p e t) κ v = picked_t p (M.around n) κ (find t v)
  next_t n (go_i k) κ v = follow (M.around n) k κ
  next_t n (call_i p k) κ v = told (pc (C.first p) (n ∷ κ)) (passage M [] (M.around (C.first p)))
  next_t n stop_i κ v = told halt []
  next_t n (move_i d e k) κ v = follow (M.around n) k κ

-- what a run tells: the stores of a transfer, and what it passes
pub data Report : Type 0 where
  stored : Entry → Block → Report
  passes : Passing → Report

abbrev pub store_report : Block → List Report
store_report [] = []
store_report (x ∷ xs) = stored x xs ∷ []

-- the events for a matching with nested pairs, and for one with whole groups
abbrev pub pairs_in : Grouping → Report → List Event
pairs_in M (stored x xs) = stores x xs ∷ []
pairs_in M (passes p) = pair_events M p

unfoldable pub pairs_of : Grouping → List Report → List Event
pairs_of M [] = []
pairs_of M (r ∷ rs) = pairs_in M r ++ pairs_of M rs

abbrev pub group_in : Report → Event
group_in (stored x xs) = stores x xs
group_in (passes p) = group_event p

abbrev pub groups_of : List Report → List Event
groups_of rs = map group_in rs

-- what a step comes to, with the stack of activations, and what it reports
pub record Stepped : Type 0 where
  pub machine : Machine
  pub reports : List Report

abbrev pub stepped : Machine → List Report → Stepped
stepped m rs = record { machine = m; reports = rs }

pub record Traced : Type 0 where
  pub run : Run
  pub reports : List Report

abbrev pub traced : Run → List Report → Traced
traced r rs = record { run = r; reports = rs }

abbrev pub reported : List Report → Traced → Traced
reported rs t = traced t.run (rs ++ t.reports)

abbrev pub put_t : Carriers → Block → Carriers → Told → Stepped
put_t s b u t = stepped (put s u t.control) (store_report b ++ map passes t.passed)

-- a step that faults reports nothing
abbrev pub after_t : Carriers → Block → (ℕ → Told) → Outcome Worked → Stepped
after_t s b f (gives w) = put_t s b w.carriers (f w.number)
after_t s b f (faulty m p) = stepped (broke m p s) []

module _ (ds : Table) (C : Code) (M : Grouping) where
  abbrev pub step_t : ℕ → List ℕ → Carriers → Stepped
  step_t n κ s = after_t s (made ds (work_m (C.instr n)) s) (next_t C M n (C.instr n) κ) (perform ds (work_m (C.instr n)) s)

  -- the run with a budget b, after k steps, from an instruction with a stack
  unfoldable pub run_t : ℕ → ℕ → ℕ → List ℕ → Carriers → Traced
  run_t zero k n κ s = traced (run_with paused k s) []
  run_t (suc b) k n κ s =
      let t = step_t n κ s in
      reported t.reports
      (elim t.machine [
        | runs n' κ' u ↦ run_t b (suc k) n' κ' u
        | ended u ↦ traced (run_with done (suc k) u) []
        | stood u ↦ traced (run_with halted (suc k) u) []
        | broke m p u ↦ traced (run_with (faulted m p) k u) []
      ])

  -- the run of the body of a name, with the groups that open where it begins
  unfoldable pub trace_run : Word → ℕ → Carriers → Traced
  trace_run n b s = reported (map passes (passage M [] (M.around (C.first n)))) (run_t b 0 (C.first n) [] s)
