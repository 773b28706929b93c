-- What the tracing machine tells of whole groups and of nested pairs goes together: so a matching with one pair of numbers for a whole group has the answer.
use Prim.Native.Nat.{ℕ, zero, suc}
use Rattle.std.specs.Prelude.{◌≡◌, Bool, true, false, length}
use Rattle.std.proofs.Math.Path.{refl, ap, subst₂}
use Rattle.std.proofs.Common.{sym, subst}
use mathlib.Core.List.{List, [], ◌∷◌, ◌++◌, append_assoc, append-nil}
use Rattle.rules.specs.Text.Scan.{scan}
use Rattle.rules.specs.Grammar.Trees.{Description, flatten}
use Rattle.rules.specs.Declarations.{declarations}
use Rattle.rules.specs.Steps.Evaluation.{Carriers}
use Rattle.rules.specs.Steps.Runs.{run}
use Rattle.rules.specs.Faults.Whole.{main_name}
use Rattle.rules.specs.Stores.{Entry, TraceAnswer}
use Rattle.rules.specs.Answers.{accepted, Checks}
use Rattle.laws_orders.proofs.Orders.Ends.{EndsWell}
use Rattle.laws_code.specs.Cited.Placed.{description_code}
use Rattle.traces.specs.Cited.Events.{Event, stores, opens, turns, closes}
use Rattle.telling.specs.Cited.Cells.{Cells, cell_grouping, AllMarked}
use Rattle.telling.specs.Cited.Passing.{Grouping, Passing, opened, turned, closed, times, pair_opens, pair_events, group_event}
use Rattle.telling.specs.Cited.Tracing.{Report, stored, passes, pairs_of, groups_of, trace_run}
use Rattle.telling.proofs.Moves.{Follows}
use Rattle.telling.proofs.Running.{FollowsAll}
use Rattle.telling.proofs.Decides.{main_traces, marked_held, marked_decides}
use Rattle.matching.specs.Matching.{untold, told_all, answer_in}
use Rattle.matching.specs.Laws.Groups.{Frame, amid, last, closings, Tracks, tracks_answer, at_start, more_stores, more_opens, more_turns, last_turns, more_closes}

abbrev frame_by : Bool → ℕ → Frame
frame_by true n = last n
frame_by false n = amid n

module _ (M : Grouping) where
  abbrev frames : List ℕ → List Frame
  frames [] = []
  frames (x ∷ w) = frame_by (M.last x) (M.before x) ∷ frames w

  closings_times : (n : ℕ) → closings n ≡ times n closes
  unfolding closings times
  closings_times zero = refl
  closings_times (suc n) = ap (λ z. closes ∷ z) (closings_times n)

  turning : (b : Bool) (n : ℕ) (k : List Frame) (es gs : List Event) → Tracks (amid n ∷ k) es gs
      → Tracks (frame_by b (suc n) ∷ k) (es ++ turns ∷ pair_opens b) (gs ++ turns ∷ [])
  turning true n k es gs t = last_turns t
  turning false n k es gs t = more_turns t

  one_tracks :
      (p : Passing) (w v : List ℕ) (es gs : List Event) → Follows M w (p ∷ []) v → Tracks (frames w) es gs
      → Tracks (frames v) (es ++ pair_events M p) (gs ++ group_event p ∷ [])
  one_tracks (opened y) w v es gs h t =
      subst (λ z. Tracks (frames z) (es ++ opens ∷ []) (gs ++ opens ∷ [])) h.2 (rw (h.0, h.1) (more_opens t))
  one_tracks (turned y) w v es gs h t =
      let x = h.0 in
      let u = h.1 in
      let a : Tracks (frame_by (M.last x) (M.before x) ∷ frames u) es gs = subst (λ z. Tracks (frames z) es gs) h.2 t in
      let b : Tracks (amid (M.before x) ∷ frames u) es gs = rw h.3 at a in
      subst (λ z. Tracks (frames z) (es ++ turns ∷ pair_opens (M.last y)) (gs ++ turns ∷ [])) h.5
      (rw h.4 (turning (M.last y) (M.before x) (frames u) es gs b))
  one_tracks (closed z) w v es gs h t =
      let u = h.0 in
      let a : Tracks (frame_by (M.last z) (M.before z) ∷ frames u) es gs = subst (λ y. Tracks (frames y) es gs) h.1 t in
      let b : Tracks (last (M.before z) ∷ frames u) es gs = rw h.2 at a in
      subst₂ (λ y e. Tracks (frames y) (es ++ e) (gs ++ closes ∷ [])) h.3 (closings_times (M.before z)) (more_closes b)

  -- reports lead both on
  pub all_tracks :
      (rs : List Report) (w v : List ℕ) (es gs : List Event) → FollowsAll M w rs v → Tracks (frames w) es gs
      → Tracks (frames v) (es ++ pairs_of M rs) (gs ++ groups_of rs)
  unfolding pairs_of
  all_tracks [] w v es gs h t = subst₂ (Tracks (frames v)) (sym (append-nil es)) (sym (append-nil gs)) (subst (λ z. Tracks (frames z) es gs) h t)
  all_tracks (stored x xs ∷ rs) w v es gs h t =
      subst₂ (Tracks (frames v)) (append_assoc es (stores x xs ∷ []) (pairs_of M rs)) (append_assoc gs (stores x xs ∷ []) (groups_of rs))
      (all_tracks rs w v (es ++ stores x xs ∷ []) (gs ++ stores x xs ∷ []) h (more_stores x xs t))
  all_tracks (passes p ∷ rs) w v es gs h t =
      subst₂ (Tracks (frames v)) (append_assoc es (pair_events M p) (pairs_of M rs)) (append_assoc gs (group_event p ∷ []) (groups_of rs))
      (all_tracks rs h.0 v (es ++ pair_events M p) (gs ++ group_event p ∷ []) h.2 (one_tracks p w h.0 es gs h.1 t))

-- THE ANSWER, for a text that Check accepts, the description that stands in it, and cells that are marked for it: where the run ends well, the matching that is
-- told the stores and the whole groups as the tracing machine reports them has it.
module _ (text : List ℕ) (n w : ℕ) (accepts : Checks text (accepted n w)) (d : Description) (stands : flatten d ≡ (scan text).tokens) where
  module _ (K : Cells) (marked : AllMarked K d (length (flatten d))) (s : Carriers) (b : ℕ) where
    abbrev reports : List Report
    reports = (trace_run (declarations d) (description_code d) (cell_grouping K) (main_name (declarations d)) b s).reports

    pub groups_decide :
        EndsWell (run (declarations d) (main_name (declarations d)) b s) → (l : List Entry)
        → TraceAnswer (declarations d) (main_name (declarations d)) b s l (answer_in (told_all (groups_of reports) (untold l)) (length l))
    groups_decide h l =
        let t = main_traces text n w accepts d stands (description_code d) (cell_grouping K) (marked_held text n w accepts d stands K marked) s b in
        let e = tracks_answer l (all_tracks (cell_grouping K) reports [] t.leads.0 [] [] t.leads.1 at_start) (length l) in
        subst (TraceAnswer (declarations d) (main_name (declarations d)) b s l) e (marked_decides text n w accepts d stands K marked s b h l)
