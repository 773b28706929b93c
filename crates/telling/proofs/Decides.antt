-- REQUEST 10, a designer's trace: the tracing machine that follows the code of an accepted text tells the matching what it needs, and the matching then has
-- the answer.
use Rattle.std.specs.Prelude.{ℕ, ◌-◌, ◌*◌, ◌≤◌, ◌<◌, ◌≡◌, List, [], ◌++◌, map, length}
use Rattle.std.proofs.Common.{sym, ◌∙◌, subst, arith}
use Rattle.std.proofs.Math.Option.{some}
use Rattle.rules.specs.Text.Scan.{scan}
use Rattle.rules.specs.Grammar.Trees.{Description, flatten}
use Rattle.rules.specs.Declarations.{Word, Table, declarations}
use Rattle.rules.specs.Steps.Evaluation.{Carriers}
use Rattle.rules.specs.Steps.Runs.{body_act, run}
use Rattle.rules.specs.Faults.Whole.{main_name}
use Rattle.rules.specs.Stores.{Entry, TraceAnswer}
use Rattle.rules.specs.Limits.{deepest, longest_chain}
use Rattle.rules.specs.Answers.{accepted, Checks, judgement}
use Rattle.laws_orders.proofs.Orders.Ends.{EndsWell}
use Rattle.laws_grammar.specs.Answers.{accepted_iff_lawful}
use Rattle.laws_grammar.specs.Cited.Nesting.{nest}
use Rattle.laws_grammar.specs.Grammar.Exact.{unique}
use Rattle.laws_grammar.specs.Grammar.Nesting.{shallow_nest}
use Rattle.laws_orders.specs.Cited.Flat.{Code, pc}
use Rattle.laws_orders.proofs.Orders.Orderly.{Orderly}
use Rattle.laws_orders.proofs.Orders.Carriers.{prints_of}
use Rattle.laws_orders.proofs.Orders.Static.{bodies_ok}
use Rattle.laws_accepted.proofs.Accepted.Orderly.{accepted_orderly}
use Rattle.laws_code.specs.Cited.Placed.{description_code}
use Rattle.traces.specs.Cited.Marking.{at, never}
use Rattle.traces.specs.Machine.{state, tell_all, answer_of}
use Rattle.traces.specs.Traces.{left_to_right_decides}
use Rattle.telling.specs.Cited.Cells.{Cells, member_of, cell_grouping, AllMarked}
use Rattle.telling.specs.Cited.Passing.{Grouping, passage}
use Rattle.telling.specs.Cited.Tracing.{next_t, pairs_of, trace_run}
use Rattle.telling.proofs.Holding.{HoldsGrouped}
use Rattle.telling.proofs.Running.{Traces, trace_agrees}
use Rattle.telling.proofs.Assembled.{grouped_assembled}
use Rattle.telling.proofs.Marked.{from_few, all_grouped}
use Rattle.telling.proofs.Moves.{Follows}
use Rattle.telling.proofs.Places.{TracePlace, place_first, place_next, place_stack, place_active, place_groups, first_moves, place_moves}
use Rattle.telling.proofs.Standing.{whole, Activations}

-- how many activations can go on inside MAIN
abbrev pub in_main : ℕ
in_main = longest_chain - 1

-- a text that Check accepts, and the description that stands in it
module _ (text : List ℕ) (n w : ℕ) (accepts : Checks text (accepted n w)) (d : Description) (stands : flatten d ≡ (scan text).tokens) where
  abbrev ds : Table
  ds = declarations d

  abbrev main : Word
  main = main_name ds

  -- what acceptance gives of it
  record Lawfully (x : Description) : Type 0 where
    faultless : judgement x ≡ accepted n w
    shallow : nest x ≤ deepest

  lawfully : Lawfully d
  lawfully =
      let l = (accepted_iff_lawful text n w).0 accepts in
      let same : l.description ≡ d = unique l.description d (l.stands ∙ sym stands) in
      subst Lawfully same (record { faultless = l.faultless; shallow = shallow_nest l.description l.shallow })

  orderly : Orderly ds
  orderly = accepted_orderly d n w lawfully.faultless

  -- a code and a grouping that hold its bodies
  module _ (C : Code) (M : Grouping) (held : HoldsGrouped M C (body_act ds)) (s : Carriers) (b : ℕ) where
    pub main_traces : Traces ds C M main b s
    main_traces = trace_agrees ds C M (prints_of ds) (bodies_ok ds orderly) held main b s

    -- Where the run ends well, the matching that is told what the tracing machine tells has the answer.
    pub tracing_decides :
        EndsWell (run ds main b s) → (l : List Entry)
        → TraceAnswer ds main b s l (answer_of (tell_all (pairs_of M (trace_run ds C M main b s).reports) (state (map some l) (at 0) never [])) (length l))
    tracing_decides h l =
        let t = main_traces.tells h in
        subst (λ es. TraceAnswer ds main b s l (answer_of (tell_all es (state (map some l) (at 0) never [])) (length l))) (sym t.3)
        (left_to_right_decides text n w accepts d stands s b h t.0 t.1 t.2 l)

  -- Cells that are marked for the description are such a grouping for its code.
  module _ (K : Cells) (marked : AllMarked K d (length (flatten d))) where
    pub marked_held : HoldsGrouped (cell_grouping K) (description_code d) (body_act ds)
    marked_held = grouped_assembled (cell_grouping K) d n w lawfully.faultless (all_grouped K d (length (flatten d)) lawfully.shallow marked)

    pub marked_decides :
        (s : Carriers) (b : ℕ) → EndsWell (run ds main b s) → (l : List Entry)
        → TraceAnswer ds main b s l
        (answer_of (tell_all (pairs_of (cell_grouping K) (trace_run ds (description_code d) (cell_grouping K) main b s).reports) (state (map some l) (at 0) never [])) (length l))
    marked_decides s b = tracing_decides (description_code d) (cell_grouping K) marked_held s b

    -- the places to which a run of MAIN comes, and what is known there: few activations go on, few groups are open
    abbrev pub MainPlace : ℕ → List ℕ → Type 0
    MainPlace = TracePlace ds (description_code d) (cell_grouping K) (prints_of ds) in_main main

    pub main_first : MainPlace ((description_code d).first main) []
    main_first = place_first ds (description_code d) (cell_grouping K) (prints_of ds) in_main main (bodies_ok ds orderly) marked_held (orderly.chains main)

    pub main_next :
        {n : ℕ} {κ : List ℕ} → MainPlace n κ → (v n' : ℕ) (κ' : List ℕ)
        → (next_t (description_code d) (cell_grouping K) n ((description_code d).instr n) κ v).control ≡ pc n' κ' → MainPlace n' κ'
    main_next = place_next ds (description_code d) (cell_grouping K) (prints_of ds) in_main main (bodies_ok ds orderly) marked_held (orderly.chains main)

    pub main_stack : {n : ℕ} {κ : List ℕ} → MainPlace n κ → length κ < longest_chain
    main_stack h = omega (arith, place_stack ds (description_code d) (cell_grouping K) (prints_of ds) in_main main h)

    pub main_active : {n : ℕ} {κ : List ℕ} → MainPlace n κ → Activations (description_code d) (cell_grouping K) κ
    main_active = place_active ds (description_code d) (cell_grouping K) (prints_of ds) in_main main

    -- the members whose groups are open
    abbrev pub open_at : ℕ → List ℕ → List ℕ
    open_at n κ = (cell_grouping K).around n ++ whole (description_code d) (cell_grouping K) κ

    pub main_groups : {n : ℕ} {κ : List ℕ} → MainPlace n κ → length (open_at n κ) ≤ deepest * longest_chain
    main_groups = place_groups ds (description_code d) (cell_grouping K) (prints_of ds) in_main main (λ n. from_few K deepest (member_of K n))

    -- what is passed leads to the groups that are open there
    pub main_opens :
        Follows (cell_grouping K) [] (passage (cell_grouping K) [] ((cell_grouping K).around ((description_code d).first main))) (open_at ((description_code d).first main) [])
    main_opens = first_moves ds (description_code d) (cell_grouping K) (prints_of ds) in_main main (bodies_ok ds orderly) marked_held (orderly.chains main)

    pub main_moves :
        {n : ℕ} {κ : List ℕ} → MainPlace n κ → (v n' : ℕ) (κ' : List ℕ) → (next_t (description_code d) (cell_grouping K) n ((description_code d).instr n) κ v).control ≡ pc n' κ'
        → Follows (cell_grouping K) (open_at n κ) (next_t (description_code d) (cell_grouping K) n ((description_code d).instr n) κ v).passed (open_at n' κ')
    main_moves = place_moves ds (description_code d) (cell_grouping K) (prints_of ds) in_main main (bodies_ok ds orderly) marked_held (orderly.chains main)
