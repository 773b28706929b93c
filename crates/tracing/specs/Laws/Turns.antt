-- Laws of one turn: the step in the memory, and then its way, are the step of the tracing machine with what it reports.
-- Assumes nothing.
use Rattle.std.specs.Prelude.{ℕ, zero, suc, ◌+◌, ◌-◌, ◌≤◌, ◌≡◌, refl, length, take, drop, Result, Ok, Err}
use Rattle.std.proofs.Math.Path.{sym, ap, ap₂, subst}
use Rattle.std.proofs.Common.{◌∙◌, arith, length-drop, length-take-le, take_all, take_at, drop-drop}
use mathlib.Core.List.{List, [], ◌∷◌, ◌++◌, map, map-append}
use Rattle.std.proofs.Math.Seq.{drop-append-add}
use Rattle.rules.specs.Declarations.{total_words}
use Rattle.rules.specs.Stores.{made}
use Rattle.rules.specs.Entries.{entries_in}
use Rattle.laws_orders.specs.Cited.Flat.{Link, at, exit, Code, work_m, put}
use Rattle.laws_orders.proofs.Orders.Tests.{impossible}
use Rattle.operands.specs.Scene.{carrier_words, words_of}
use Rattle.stepping.specs.declared.steps.Moved.{Moved}
use Rattle.stepping.specs.declared.steps.Moved.TheVariants.{Go, Call, Stop}
use Rattle.stepping.specs.declared.steps.Fault.{Fault}
use Rattle.stepping.specs.Steps as runner
use Rattle.stepping.specs.Steps.{StepAt}
use Rattle.runner.specs.Runs.{stack_of}
use Rattle.traces.specs.Cited.Events.{Event}
use Rattle.traces.specs.Cited.Entries.{Block}
use Rattle.telling.specs.Cited.Passing.{Grouping, Passing, group_event}
use Rattle.telling.specs.Cited.Tracing.{Told, link_of, resume, return, follow, Report, passes, store_report, group_in, groups_of, Stepped}
use Rattle.matching.specs.Matching.{Matching, told_all}
use Rattle.matching.specs.Room.{matching_in}
use Rattle.room.specs.Trace.{most_groups}
use Rattle.passing.specs.Depth.{depth_after}
use Rattle.passing.specs.Laws.Telling.{told_append}
use Rattle.runner.specs.declared.turns.Turned.{Turned}
use Rattle.tracing.specs.Acts.{ActTold}
use Rattle.turning.specs.Ways.{link_to, way_of, WayAt, WayTold}
use Rattle.runner.specs.Turns.{turned_to}
use Rattle.tracing.specs.Turns.{cells_at, grouping_at, TurnAt, Keeps, TurnTold}
use Rattle.tracing.specs.Laws.Steps.{Calm, Takes, takes}

-- THE MEMORY, whose first bytes were lent
module _ (memory after : List ℕ) (size k : ℕ) (small : size ≤ k) (long : k ≤ length memory) (same : length after ≡ length (take size memory)) where
  abbrev joined : List ℕ
  joined = after ++ drop size memory

  as_long : length after ≡ size
  as_long = same ∙ length-take-le size memory (omega arith)

  first_bytes : take size joined ≡ after
  first_bytes = take_at after (drop size memory) size as_long

  other_bytes : drop k joined ≡ drop k memory
  other_bytes =
      let e : k ≡ length after + (k - size) = omega (arith, as_long) in
      let f : size + (k - size) ≡ k = omega arith in
      ap (λ k. drop k joined) e ∙ drop-append-add after (drop size memory) (k - size) ∙ drop-drop (k - size) size memory ∙ ap (λ k. drop k memory) f

  other_part : take (length joined - k) (drop k joined) ≡ drop k memory
  other_part = take_all (length joined - k) (drop k joined) (omega (arith, length-drop k joined)) ∙ other_bytes

-- WHAT IS TOLD
pub passes_told : (ps : List Passing) → groups_of (map passes ps) ≡ map group_event ps
passes_told [] = refl
passes_told (p ∷ ps) = ap (λ (es : List Event). group_event p ∷ es) (passes_told ps)

pub reports_told : (rs qs : List Report) (z : Matching) → told_all (groups_of (rs ++ qs)) z ≡ told_all (groups_of qs) (told_all (groups_of rs) z)
reports_told rs qs z = ap (λ es. told_all es z) (map-append group_in rs qs) ∙ told_append (groups_of rs) (groups_of qs) z

-- stores open no group and close none
pub stores_open : (b : Block) (z : Matching) → length (told_all (groups_of (store_report b)) z).groups ≡ length z.groups
unfolding told_all
stores_open [] z = refl
stores_open (x ∷ xs) z = refl

-- A WAY leads to a fault only from a fault
module _ (C : Code) (M : Grouping) where
  return_calm : (κ : List ℕ) → Calm (return C M κ).control
  unfolding return
  return_calm [] = tt
  return_calm (m ∷ κ) = by (link_of (C.instr m)) (return_calm κ)
    where
      by : (k : Link) → Calm (return C M κ).control → Calm (resume C M m κ (return C M κ) k).control
      by (at g) h = tt
      by exit h = h

  follow_calm : (xs : List ℕ) (k : ℕ) (κ : List ℕ) → Calm (follow C M xs (link_to k) κ).control
  follow_calm xs zero κ = return_calm κ
  follow_calm xs (suc k) κ = tt

  keeps_by : (r : Result Turned Fault) (stack : List ℕ) (n : ℕ) (moved : Result Moved Fault) (κ before after : List ℕ)
      → turned_to r stack ≡ (way_of n moved C M κ).control → runner.Keeps moved before after → Keeps r before after
  keeps_by (Ok t) stack n moved κ before after e h = tt
  keeps_by (Err f) stack n (Ok (Go k)) κ before after e h = absurd (subst Calm (sym e) (follow_calm (M.around n) k κ))
  keeps_by (Err f) stack n (Ok (Call g k)) κ before after e h = impossible (cc)
  keeps_by (Err f) stack n (Ok Stop) κ before after e h = impossible (cc)
  keeps_by (Err f) stack n (Err g) κ before after e h = h

-- THE TURN
module _ {records values decls memory room entries stack : List ℕ} {depth n size now : ℕ} (v : TurnAt records values decls memory room entries stack depth n size now) where
  pub part_length : size ≡ length (take size memory)
  part_length = sym (length-take-le size memory (omega (arith, v.small, v.long)))

  abbrev M : Grouping
  M = grouping_at memory n

  abbrev κ : List ℕ
  κ = stack_of stack depth

  abbrev stores : Block
  stores = made v.step.scene.table (work_m (v.step.code.instr now)) (words_of v.step.scene)

  module _ {after amid : List ℕ} {moved : Result Moved Fault} (same : length after ≡ length (take size memory))
      (acted : (w : StepAt records values decls (take size memory) now) → ActTold w after (entries_in entries) room amid moved) where
    abbrev memory' : List ℕ
    memory' = after ++ drop size memory

    abbrev part : List ℕ
    part = take (length memory' - cells_at) (drop cells_at memory')

    part_is : part ≡ drop cells_at memory
    part_is = other_part memory after size cells_at v.small (omega (arith, v.long)) same

    goes : Takes v.step.scene.table v.step.code M now κ (words_of v.step.scene) (carrier_words (total_words v.step.scene.table) after) moved
    goes = let a = (acted v.step).answer in takes _ _ M now κ _ _ moved a.into a.comes

    way_at : WayAt records (drop cells_at memory) amid stack n depth (way_of now moved)
    way_at = record {
      code = v.step.code;
      list = entries_in entries;
      long = omega (arith, v.long, length-drop cells_at memory);
      high = omega (arith, v.high);
      linked = v.linked;
      sound = (acted v.step).tells.sound;
      few = λ n' κ' e.
          let z = goes.by n' κ' e in
          let f = v.few z.0 n' κ' (ap (λ (t : Told). t.control) z.1 ∙ e) in
          let g = subst (λ (t : Told). depth_after t.passed (length (matching_in (entries_in entries) room).groups) ≤ most_groups) z.1 f in
          let o = ap (λ (y : Matching). length y.groups) (acted v.step).tells.is ∙ stores_open stores (matching_in (entries_in entries) room) in
          subst (λ d. depth_after (way_of now moved v.step.code M κ).passed d ≤ most_groups) (sym o) g;
    }

    pub turn_way : WayAt records part amid stack n depth (way_of now moved)
    turn_way = subst (λ c. WayAt records c amid stack n depth (way_of now moved)) (sym part_is) way_at

    pub turn_told : {room' stack' : List ℕ} {r : Result Turned Fault} → ((w : WayAt records part amid stack n depth (way_of now moved)) → WayTold w stack' room' r) → TurnTold v memory' room' stack' r
    unfolding way_at
    turn_told {room'} {stack'} {r} h =
        let a = acted v.step in
        let told = subst (λ c. (w : WayAt records c amid stack n depth (way_of now moved)) → WayTold w stack' room' r) part_is h in
        let w = told way_at in
        let first = first_bytes memory after size cells_at v.small (omega (arith, v.long)) same in
        let way : Told = way_of now moved v.step.code M κ in
        record {
          machine = ap (λ (t : Stepped). t.machine) goes.is
              ∙ ap₂ (λ c x. put (words_of v.step.scene) (carrier_words (total_words v.step.scene.table) c) x) (sym first) (sym w.control);
          tells = record {
            sound = w.tells.sound;
            is = w.tells.is ∙ ap (told_all (map group_event way.passed)) a.tells.is
                ∙ sym (ap (λ (t : Stepped). told_all (groups_of t.reports) (matching_in (entries_in entries) room)) goes.is
                ∙ reports_told (store_report stores) (map passes way.passed) (matching_in (entries_in entries) room)
                ∙ ap (λ es. told_all es (told_all (groups_of (store_report stores)) (matching_in (entries_in entries) room))) (passes_told way.passed));
          };
          cells = other_bytes memory after size cells_at v.small (omega (arith, v.long)) same;
          kept = subst (Keeps r (take size memory)) (sym first) (keeps_by v.step.code M r stack' now moved κ (take size memory) after w.control a.answer.kept);
        }
