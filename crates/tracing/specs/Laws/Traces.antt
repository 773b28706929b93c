-- Laws of the whole run: what a turn of its loop keeps.
-- Assumes nothing.
use Rattle.std.specs.Prelude.{ℕ, suc, ◌+◌, ◌-◌, ◌*◌, ◌<◌, ◌≤◌, ◌≡◌, refl, take, drop, Result, Ok, Err}
use Rattle.std.proofs.Math.Path.{sym, ap, subst}
use Rattle.std.proofs.Common.{◌∙◌, inr, add-one, length-drop, length-take-le, take_all}
use mathlib.Core.List.{List, [], ◌∷◌, ◌++◌, map}
use native.Mathlib.Omega.{arith}
use Rattle.std.proofs.Math.ListN.{length}
use Rattle.rules.specs.Text.Scan.{scan}
use Rattle.rules.specs.Declarations.{Word, Table, total_words}
use Rattle.rules.specs.Faults.Whole.{main_name}
use Rattle.rules.specs.Stores.{Entry, made}
use Rattle.rules.specs.Entries.{entries_in}
use Rattle.rules.specs.Limits.{longest_chain}
use Rattle.rules.specs.Steps.Evaluation.{Carriers, Outcome, gives, faulty}
use Rattle.rules.specs.Steps.Runs.{Worked, perform, Run, run_with, done, halted, faulted}
use Rattle.laws_orders.specs.Cited.Flat.{Link, Instr, call_i, Code, pc, work_m, Machine, runs, ended, stood, broke, put}
use Rattle.laws_orders.proofs.Orders.Tests.{impossible}
use Rattle.table.specs.Laws.Positions.{record_within}
use Rattle.promise.specs.Instructions.{link_no, InstructionHolds}
use Rattle.promise.specs.Reached.{Reached, first, onward, Leads}
use Rattle.promise.specs.Laws.Reached.{AllReached}
use Rattle.operands.specs.Scene.{carrier_words}
use Rattle.runner.specs.declared.runs.Ended.{Ended}
use Rattle.runner.specs.declared.runs.Ended.TheVariants.{Done, Stopped, Paused, Fault as Failed}
use Rattle.runner.specs.Runs.{stack_of, ending_of, steps_of}
use Rattle.stepping.specs.Steps.{StepAt}
use Rattle.runner.specs.Laws.Runs.{stack_length}
use Rattle.telling.specs.Cited.Cells.{Cells}
use Rattle.telling.specs.Cited.Passing.{Grouping, Passing, opened, turned, closed, group_event, passage}
use Rattle.telling.specs.Cited.Tracing.{link_of, next_t, Report, passes, store_report, groups_of, Stepped, after_t, step_t, Traced, traced, reported, run_t, trace_run}
use Rattle.telling.proofs.Moves.{Follows}
use Rattle.telling.proofs.Standing.{Activations}
use Rattle.telling.proofs.Decides.{MainPlace, main_first, main_next, main_stack, main_active, open_at, main_groups, main_opens, main_moves}
use Rattle.members.specs.Cells.{cells_in}
use Rattle.matching.specs.Matching.{Matching, untold, told_all}
use Rattle.matching.specs.Room.{matching_in, Sound, Stands}
use Rattle.room.specs.Trace.{most_groups}
use Rattle.passing.specs.Ways.{grouping_in, into}
use Rattle.passing.specs.Depth.{depth_after}
use Rattle.passing.specs.Laws.Depth.{depth_told}
use Rattle.runner.specs.declared.turns.Turned.{Turned}
use Rattle.runner.specs.declared.turns.Turned.TheVariants.{At, Over, Stop as Stood}
use Rattle.stepping.specs.declared.steps.Fault.{Fault}
use Rattle.turning.specs.Ways.{Linked}
use Rattle.runner.specs.Turns.{turned_to}
use Rattle.tracing.specs.Turns.{cells_at, grouping_at, TurnAt, Keeps, TurnTold}
use Rattle.tracing.specs.Traces.{ended_by, TraceAt, table_of, code_of, words_in, traced_by, TraceTold}
use Rattle.tracing.specs.Laws.Steps.{put_same}
use Rattle.tracing.specs.Laws.Turns.{passes_told, reports_told, stores_open}
use Rattle.tracing.specs.Laws.Reached.{reached_next, All, each}

-- GROUPS: passings lead to as many as are open behind them
follows_depth : (M : Grouping) (ps : List Passing) (w v : List ℕ) → Follows M w ps v → depth_after ps (length w) ≡ length v
unfolding depth_after
follows_depth M [] w v h = ap length h
follows_depth M (opened y ∷ ps) w v h = follows_depth M ps (y ∷ w) v h.2
follows_depth M (turned y ∷ ps) w v h =
    ap (depth_after ps) (ap length h.2) ∙ follows_depth M ps (y ∷ h.1) v h.5
follows_depth M (closed z ∷ ps) w v h =
    let less : length w - 1 ≡ length h.0 = omega (arith, ap length h.1) in ap (depth_after ps) less ∙ follows_depth M ps h.0 v h.3

-- A RUN and what is told of it: t from the matching z comes to the same as u from y
pub record Comes (t : Traced) (z : Matching) (u : Traced) (y : Matching) : Type 0 where
  pub run : t.run ≡ u.run
  pub told : told_all (groups_of t.reports) z ≡ told_all (groups_of u.reports) y

comes_reported : (rs : List Report) (t : Traced) (z : Matching) (u : Traced) (y : Matching) → Comes (reported rs t) z u y → Comes t (told_all (groups_of rs) z) u y
comes_reported rs t z u y c = record { run = c.run; told = sym (reports_told rs t.reports z) ∙ c.told }

-- A STEP of the machine's run
abbrev onward_t : Table → Code → Grouping → ℕ → ℕ → Machine → Traced
onward_t ds C M b k m =
    elim m [
      | runs n κ u ↦ run_t ds C M b (suc k) n κ u
      | ended u ↦ traced (run_with done (suc k) u) []
      | stood u ↦ traced (run_with halted (suc k) u) []
      | broke x p u ↦ traced (run_with (faulted x p) k u) []
    ]

module _ (ds : Table) (C : Code) (M : Grouping) where
  step_onward : (b k n : ℕ) (κ : List ℕ) (s : Carriers) (m : Machine) → (step_t ds C M n κ s).machine ≡ m
      → run_t ds C M (suc b) k n κ s ≡ reported (step_t ds C M n κ s).reports (onward_t ds C M b k m)
  unfolding run_t
  step_onward b k n κ s m e = ap (λ m. reported (step_t ds C M n κ s).reports (onward_t ds C M b k m)) e

  -- where a step comes to an instruction, its work gave a number
  record Went (n : ℕ) (κ : List ℕ) (s : Carriers) (n' : ℕ) (κ' : List ℕ) : Type 0 where
    number : ℕ
    control : (next_t C M n (C.instr n) κ number).control ≡ pc n' κ'
    reports : (step_t ds C M n κ s).reports ≡ store_report (made ds (work_m (C.instr n)) s) ++ map passes (next_t C M n (C.instr n) κ number).passed

  went : (n : ℕ) (κ : List ℕ) (s : Carriers) (n' : ℕ) (κ' : List ℕ) (u : Carriers) → (step_t ds C M n κ s).machine ≡ runs n' κ' u → Went n κ s n' κ'
  went n κ s n' κ' u e = by (perform ds (work_m (C.instr n)) s) refl e
    where
      by : (o : Outcome Worked) → perform ds (work_m (C.instr n)) s ≡ o
          → (after_t s (made ds (work_m (C.instr n)) s) (next_t C M n (C.instr n) κ) o).machine ≡ runs n' κ' u → Went n κ s n' κ'
      by (gives w) g q = record {
        number = w.number;
        control = (put_same s w.carriers u (next_t C M n (C.instr n) κ w.number).control (pc n' κ') tt q).1;
        reports = ap (λ o. (after_t s (made ds (work_m (C.instr n)) s) (next_t C M n (C.instr n) κ) o).reports) g;
      }
      by (faulty m p) g q = impossible (cc)

-- THE LOOP
module _ {records values decls memory room entries : List ℕ} {start n size : ℕ} (v : TraceAt records values decls memory room entries start n size) (budget : ℕ) where
  abbrev M : Grouping
  M = grouping_at memory n

  abbrev K : Cells
  K = cells_in (drop cells_at memory) n

  abbrev list : List Entry
  list = entries_in entries

  abbrev Place : ℕ → List ℕ → Type 0
  Place = MainPlace v.text v.declared v.words v.accepts v.description v.stands K v.marked

  abbrev groups_at : ℕ → List ℕ → List ℕ
  groups_at = open_at v.text v.declared v.words v.accepts v.description v.stands K v.marked

  -- at an instruction, with a stack, the machine has the rest of the run to do and the rest to report
  pub record Tracing (memory' room' κ : List ℕ) (now steps : ℕ) : Type 0 where
    place : Place now κ
    reached : Reached (table_of v) (code_of v) now
    active : AllReached (table_of v) (code_of v) κ
    cells : drop cells_at memory' ≡ drop cells_at memory
    sound : Sound list room'
    groups : length (matching_in list room').groups ≡ length (groups_at now κ)
    comes : Comes (run_t (table_of v) (code_of v) M (budget - steps) steps now κ (words_in v memory')) (matching_in list room') (traced_by v budget) (untold list)

  next_place : {now : ℕ} {κ : List ℕ} → Place now κ → (x n' : ℕ) (κ' : List ℕ) → (next_t (code_of v) M now ((code_of v).instr now) κ x).control ≡ pc n' κ' → Place n' κ'
  next_place = main_next v.text v.declared v.words v.accepts v.description v.stands K v.marked

  next_depth : {now : ℕ} {κ : List ℕ} → Place now κ → (x n' : ℕ) (κ' : List ℕ) → (next_t (code_of v) M now ((code_of v).instr now) κ x).control ≡ pc n' κ'
      → depth_after (next_t (code_of v) M now ((code_of v).instr now) κ x).passed (length (groups_at now κ)) ≡ length (groups_at n' κ')
  next_depth {now} {κ} p x n' κ' e =
      follows_depth M (next_t (code_of v) M now ((code_of v).instr now) κ x).passed (groups_at now κ) (groups_at n' κ')
      (main_moves v.text v.declared v.words v.accepts v.description v.stands K v.marked p x n' κ' e)

  -- what is passed on the way to a place finds room
  few_at : {n' : ℕ} {κ' : List ℕ} → Place n' κ' → length (groups_at n' κ') ≤ most_groups
  few_at p = omega (arith, main_groups v.text v.declared v.words v.accepts v.description v.stands K v.marked p)

  -- BEFORE: where MAIN begins
  first_place_lem : Place start []
  first_place_lem = subst (λ k. Place k []) (sym v.begins) (main_first v.text v.declared v.words v.accepts v.description v.stands K v.marked)

  first_opens : depth_after (passage M [] (M.around start)) 0 ≡ length (groups_at start [])
  first_opens =
      subst (λ k. depth_after (passage M [] (M.around k)) 0 ≡ length (groups_at k [])) (sym v.begins)
      (follows_depth M (passage M [] (M.around ((code_of v).first (main_name (table_of v))))) [] (groups_at ((code_of v).first (main_name (table_of v))) [])
      (main_opens v.text v.declared v.words v.accepts v.description v.stands K v.marked))

  nothing_open : length (matching_in list room).groups ≡ 0
  nothing_open = ap (λ (z : Matching). length z.groups) v.nothing.is

  first_few : depth_after (passage M [] (M.around start)) (length (matching_in list room).groups) ≤ most_groups
  first_few = subst (λ d. depth_after (passage M [] (M.around start)) d ≤ most_groups) (sym nothing_open) (omega (arith, first_opens, few_at first_place_lem))

  -- the cells as they are lent
  abbrev part : List ℕ
  part = take (length memory - cells_at) (drop cells_at memory)

  part_is : part ≡ drop cells_at memory
  part_is = take_all (length memory - cells_at) (drop cells_at memory) (omega (arith, length-drop cells_at memory))

  pub enters : (4 * n ≤ length part) × ((l : List Entry) × (Sound l room × (depth_after (into part n start) (length (matching_in l room).groups) ≤ most_groups)))
  enters =
      subst (λ c. (4 * n ≤ length c) × ((l : List Entry) × (Sound l room × (depth_after (into c n start) (length (matching_in l room).groups) ≤ most_groups)))) (sym part_is)
      (omega (arith, v.long, length-drop cells_at memory), (list, (v.nothing.sound, first_few)))

  -- the groups that open there are told
  abbrev pub Entered : List ℕ → Type 0
  Entered room' = (l : List Entry) → Sound l room → Stands l room' (told_all (map group_event (into part n start)) (matching_in l room))

  pub tracing_begins : {room' : List ℕ} → Entered room' → (stack : List ℕ) → Tracing memory room' (stack_of stack 0) start 0
  unfolding trace_run stack_of
  tracing_begins {room'} h stack =
      let t = subst (λ c. (l : List Entry) → Sound l room → Stands l room' (told_all (map group_event (into c n start)) (matching_in l room))) part_is h list v.nothing.sound in
      let e = sym v.begins in
      let ps : List Passing = passage M [] (M.around start) in
      let whole : budget - 0 ≡ budget = omega arith in
      let rest : Traced = run_t (table_of v) (code_of v) M budget 0 start [] (words_in v memory) in
      let all : traced_by v budget ≡ reported (map passes ps) rest
      = ap (λ k. reported (map passes (passage M [] (M.around k))) (run_t (table_of v) (code_of v) M budget 0 k [] (words_in v memory))) e in
      record {
        place = first_place_lem;
        reached = subst (Reached (table_of v) (code_of v)) e (first (main_name (table_of v)) v.body v.main);
        active = tt;
        cells = refl;
        sound = t.sound;
        groups = ap (λ (z : Matching). length z.groups) t.is ∙ depth_told ps (matching_in list room) ∙ ap (depth_after ps) nothing_open ∙ first_opens;
        comes = subst (λ b. Comes (run_t (table_of v) (code_of v) M b 0 start [] (words_in v memory)) (matching_in list room') (traced_by v budget) (untold list)) (sym whole)
            (record {
              run = sym (ap (λ (t : Traced). t.run) all);
              told = ap (told_all (groups_of rest.reports))
                  (t.is ∙ ap (told_all (map group_event ps)) v.nothing.is ∙ ap (λ es. told_all es (untold list)) (sym (passes_told ps)))
                  ∙ sym (ap (λ (t : Traced). told_all (groups_of t.reports) (untold list)) all ∙ reports_told (map passes ps) rest.reports (untold list));
            });
      }

  -- the link behind an activation that goes on
  link_stands : (m : ℕ) → Reached (table_of v) (code_of v) m → ((p : Word) × (k : Link) × ((code_of v).instr m ≡ call_i p k)) → Linked records (code_of v) m
  link_stands m r (p, k, e) =
      let i = v.promise.instructions m r in
      let h : InstructionHolds records decls (scan v.text).tokens v.outer (table_of v) (code_of v) m (call_i p k)
      = subst (InstructionHolds records decls (scan v.text).tokens v.outer (table_of v) (code_of v) m) e i.1.1 in
      record {
        within = record_within v.promise.holds m i.1.0;
        link = h.1.1.0 ∙ sym (ap (λ (j : Instr). link_no (link_of j)) e);
        leads = λ g q. (v.promise.instructions g (onward m g r (subst (λ (j : Instr). Leads (code_of v) j g) (sym e) (inr (sym (ap link_of e) ∙ q))))).0;
      }

  all_linked : (κ : List ℕ) → AllReached (table_of v) (code_of v) κ → Activations (code_of v) M κ → All (Linked records (code_of v)) κ
  all_linked [] r a = tt
  all_linked (m ∷ κ) r a = (link_stands m r.0 a.0, all_linked κ r.1 a.1)

  -- A TURN
  module _ {memory' room' : List ℕ} (stack : List ℕ) (depth : ℕ) {now steps : ℕ} (g : Tracing memory' room' (stack_of stack depth) now steps)
      (long : length memory' ≡ length memory) (sixteen : length stack ≡ longest_chain) where
    abbrev κ : List ℕ
    κ = stack_of stack depth

    words_few : size ≤ cells_at
    words_few = omega (arith, v.carriers, v.promise.few_words)

    step_at : StepAt records values decls (take size memory') now
    step_at =
        let p = v.promise in
        let i = p.instructions now g.reached in
        record {
          scene = record {
            text = v.text;
            tokens = (scan v.text).tokens;
            outer = v.outer;
            table = table_of v;
            holds = p.holds;
            fits = p.fits;
            declares = p.declares;
            accesses = p.accesses;
            words = length-take-le size memory' (omega (arith, words_few, v.long, long)) ∙ v.carriers;
          };
          fixed = p.fixed;
          room = p.decls_room;
          code = code_of v;
          within = i.1.0;
          holds = i.1.1;
          leads = λ h l. (p.instructions h (onward now h g.reached l)).0;
        }

    same_members : M ≡ grouping_at memory' n
    same_members = ap (λ c. grouping_in c n) (sym g.cells)

    few_there : (x n' : ℕ) (κ' : List ℕ) → (next_t (code_of v) M now ((code_of v).instr now) κ x).control ≡ pc n' κ'
        → depth_after (next_t (code_of v) M now ((code_of v).instr now) κ x).passed (length (matching_in list room').groups) ≤ most_groups
    few_there x n' κ' e =
        subst (λ d. depth_after (next_t (code_of v) M now ((code_of v).instr now) κ x).passed d ≤ most_groups) (sym g.groups)
        (omega (arith, next_depth g.place x n' κ' e, few_at (next_place g.place x n' κ' e)))

    pub turn_at : TurnAt records values decls memory' room' entries stack depth n size now
    unfolding step_at
    turn_at = record {
      step = step_at;
      small = words_few;
      long = omega (arith, v.long, long);
      high = omega (arith, stack_length stack depth, main_stack v.text v.declared v.words v.accepts v.description v.stands K v.marked g.place, sixteen);
      linked = λ d l.
          each (Linked records (code_of v)) stack depth d l
          (all_linked κ g.active (main_active v.text v.declared v.words v.accepts v.description v.stands K v.marked g.place));
      sound = g.sound;
      few = subst (λ (M : Grouping). (x n' : ℕ) (κ' : List ℕ) → (next_t (code_of v) M now ((code_of v).instr now) κ x).control ≡ pc n' κ'
          → depth_after (next_t (code_of v) M now ((code_of v).instr now) κ x).passed (length (matching_in list room').groups) ≤ most_groups) same_members few_there;
    }

    module _ (more : steps < budget) {after room'' stack'' : List ℕ} {r : Result Turned Fault}
        (turned : (u : TurnAt records values decls memory' room' entries stack depth n size now) → TurnTold u after room'' stack'' r) where
      abbrev step_here : Stepped
      step_here = step_t (table_of v) (code_of v) M now κ (words_in v memory')

      as_stepped : step_t (table_of v) (code_of v) (grouping_at memory' n) now κ (words_in v memory') ≡ step_here
      as_stepped = ap (λ (M : Grouping). step_t (table_of v) (code_of v) M now κ (words_in v memory')) (sym same_members)

      machine_is : step_here.machine ≡ put (words_in v memory') (words_in v after) (turned_to r stack'')
      unfolding turn_at step_at
      machine_is = sym (ap (λ (t : Stepped). t.machine) as_stepped) ∙ (turned turn_at).machine

      told_is : Stands list room'' (told_all (groups_of step_here.reports) (matching_in list room'))
      unfolding turn_at step_at
      told_is = subst (λ (t : Stepped). Stands list room'' (told_all (groups_of t.reports) (matching_in list room'))) as_stepped (turned turn_at).tells

      kept_is : Keeps r (take size memory') (take size after)
      unfolding turn_at step_at
      kept_is = (turned turn_at).kept

      cells_are : drop cells_at after ≡ drop cells_at memory
      unfolding turn_at step_at
      cells_are = (turned turn_at).cells ∙ g.cells

      -- the rest of the run
      rest_comes : (m : Machine) → step_here.machine ≡ m
          → Comes (onward_t (table_of v) (code_of v) M (budget - (steps + 1)) steps m) (matching_in list room'') (traced_by v budget) (untold list)
      rest_comes m e =
          let one_left : budget - steps ≡ suc (budget - (steps + 1)) = omega arith in
          let all : run_t (table_of v) (code_of v) M (budget - steps) steps now κ (words_in v memory')
          ≡ reported step_here.reports (onward_t (table_of v) (code_of v) M (budget - (steps + 1)) steps m)
          = ap (λ b. run_t (table_of v) (code_of v) M b steps now κ (words_in v memory')) one_left
          ∙ step_onward (table_of v) (code_of v) M (budget - (steps + 1)) steps now κ (words_in v memory') m e in
          let c = subst (λ (t : Traced). Comes t (matching_in list room') (traced_by v budget) (untold list)) all g.comes in
          subst (λ (z : Matching). Comes (onward_t (table_of v) (code_of v) M (budget - (steps + 1)) steps m) z (traced_by v budget) (untold list)) (sym told_is.is)
          (comes_reported step_here.reports (onward_t (table_of v) (code_of v) M (budget - (steps + 1)) steps m) (matching_in list room') (traced_by v budget) (untold list) c)

      -- all has ended, with this run
      ends_with : (z : Run) (e : Ended) → Comes (traced z []) (matching_in list room'') (traced_by v budget) (untold list)
          → z ≡ run_with (ending_of e) (steps_of e) (words_in v after) → TraceTold v budget after room'' e
      unfolding told_all
      ends_with z e c q = record { run = sym c.run ∙ q; tells = record { sound = told_is.sound; is = c.told } }

      ends_over : r ≡ Ok Over → TraceTold v budget after room'' (Done (steps + 1))
      ends_over e =
          ends_with (run_with done (suc steps) (words_in v after)) (Done (steps + 1))
          (rest_comes (ended (words_in v after)) (machine_is ∙ ap (λ r. put (words_in v memory') (words_in v after) (turned_to r stack'')) e))
          (ap (λ k. run_with done k (words_in v after)) (sym (add-one steps)))

      ends_stopped : r ≡ Ok Stood → TraceTold v budget after room'' (Stopped (steps + 1))
      ends_stopped e =
          ends_with (run_with halted (suc steps) (words_in v after)) (Stopped (steps + 1))
          (rest_comes (stood (words_in v after)) (machine_is ∙ ap (λ r. put (words_in v memory') (words_in v after) (turned_to r stack'')) e))
          (ap (λ k. run_with halted k (words_in v after)) (sym (add-one steps)))

      ends_failed : {f : Fault} → r ≡ Err f → TraceTold v budget after room'' (Failed f.number f.place steps)
      ends_failed {f} e =
          let k : take size after ≡ take size memory' = subst (λ r. Keeps r (take size memory') (take size after)) e kept_is in
          ends_with (run_with (faulted f.number f.place) steps (words_in v memory')) (Failed f.number f.place steps)
          (rest_comes (broke f.number f.place (words_in v memory')) (machine_is ∙ ap (λ r. put (words_in v memory') (words_in v after) (turned_to r stack'')) e))
          (ap (λ c. run_with (faulted f.number f.place) steps (carrier_words (total_words (table_of v)) c)) (sym k))

      -- control is at no instruction
      pub ends : {e : Ended} → ((n d : ℕ) → r ≡ Ok (At n d) → ⊥) → e ≡ ended_by r steps → TraceTold v budget after room'' e
      ends off q = subst (TraceTold v budget after room'') (sym q) (by r refl)
        where
          by : (t : Result Turned Fault) → r ≡ t → TraceTold v budget after room'' (ended_by t steps)
          by (Ok (At n d)) e = absurd (off n d e)
          by (Ok Over) e = ends_over e
          by (Ok Stood) e = ends_stopped e
          by (Err f) e = ends_failed e

      -- control is at another instruction
      pub goes_on : {n' d : ℕ} → r ≡ Ok (At n' d) → Tracing after room'' (stack_of stack'' d) n' (steps + 1)
      goes_on {n'} {d} e =
          let q : step_here.machine ≡ runs n' (stack_of stack'' d) (words_in v after)
          = machine_is ∙ ap (λ r. put (words_in v memory') (words_in v after) (turned_to r stack'')) e in
          let w = went (table_of v) (code_of v) M now κ (words_in v memory') n' (stack_of stack'' d) (words_in v after) q in
          let ps : List Passing = (next_t (code_of v) M now ((code_of v).instr now) κ w.number).passed in
          let h = reached_next (table_of v) (code_of v) M now κ w.number n' (stack_of stack'' d) g.reached g.active w.control in
          let z : Matching = matching_in list room' in
          let y : Matching = told_all (groups_of (store_report (made (table_of v) (work_m ((code_of v).instr now)) (words_in v memory')))) z in
          let all : told_all (groups_of step_here.reports) z ≡ told_all (map group_event ps) y
          = ap (λ rs. told_all (groups_of rs) z) w.reports
          ∙ reports_told (store_report (made (table_of v) (work_m ((code_of v).instr now)) (words_in v memory'))) (map passes ps) z
          ∙ ap (λ es. told_all es y) (passes_told ps) in
          record {
            place = next_place g.place w.number n' (stack_of stack'' d) w.control;
            reached = h.0;
            active = h.1;
            cells = cells_are;
            sound = told_is.sound;
            groups = ap (λ (z : Matching). length z.groups) (told_is.is ∙ all) ∙ depth_told ps y
                ∙ ap (depth_after ps) (stores_open (made (table_of v) (work_m ((code_of v).instr now)) (words_in v memory')) z ∙ g.groups)
                ∙ next_depth g.place w.number n' (stack_of stack'' d) w.control;
            comes = subst (λ k. Comes (run_t (table_of v) (code_of v) M (budget - (steps + 1)) k n' (stack_of stack'' d) (words_in v after)) (matching_in list room'') (traced_by v budget) (untold list))
                (sym (add-one steps)) (rest_comes (runs n' (stack_of stack'' d) (words_in v after)) q);
          }

    pub pauses : budget ≤ steps → steps ≤ budget → TraceTold v budget memory' room' (Paused steps)
    unfolding run_t told_all
    pauses l m =
        let over : budget - steps ≡ 0 = omega arith in
        let c = subst (λ b. Comes (run_t (table_of v) (code_of v) M b steps now κ (words_in v memory')) (matching_in list room') (traced_by v budget) (untold list)) over g.comes in
        record { run = sym c.run; tells = record { sound = g.sound; is = c.told } }
