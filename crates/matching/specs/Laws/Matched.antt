-- The matching in lent memory comes to the answer: what callers need beside the contracts.
-- Assumes nothing.
use Rattle.std.specs.Prelude.{ℕ, ◌≡◌, List, [], map, length}
use Rattle.std.proofs.Common.{sym, ◌∙◌, ap, subst}
use Rattle.std.proofs.Math.Option.{some}
use Rattle.rules.specs.Declarations.{Word, Table}
use Rattle.rules.specs.Steps.Evaluation.{Carriers}
use Rattle.rules.specs.Stores.{Entry, TraceAnswer}
use Rattle.traces.specs.Cited.Marking.{at, never}
use Rattle.traces.specs.Cited.Events.{Event}
use Rattle.traces.specs.Machine.{state, tell_all, answer_of}
use Rattle.matching.specs.Matching.{Matching, untold, told_all, answer_in}
use Rattle.matching.specs.Room.{matching_in, Stands}
use Rattle.matching.specs.Laws.Groups.{Frame, Tracks, tracks_answer}

-- What a call makes of the matching in the memory, it makes of the matching that is known to stand there.
pub told_from : (f : Matching → Matching) {l : List Entry} {b a : List ℕ} {z : Matching} → Stands l b z → Stands l a (f (matching_in l b)) → Stands l a (f z)
told_from f s t = record { sound = t.sound; is = t.is ∙ ap f s.is }

module _ {k : List Frame} {es gs : List Event} (t : Tracks k es gs) (l : List Entry) {room : List ℕ} (v : Stands l room (told_all gs (untold l))) where
  -- Where whole groups were told, the answer is that of the machine that was told of nested ones.
  pub same_answer : answer_in (matching_in l room) (length l) ≡ answer_of (tell_all es (state (map some l) (at 0) never [])) (length l)
  same_answer = ap (λ z. answer_in z (length l)) v.is ∙ sym (tracks_answer l t (length l))

  -- So where that one decides about the list, this one does.
  pub room_decides : (ds : Table) (n : Word) (b : ℕ) (s : Carriers) → TraceAnswer ds n b s l (answer_of (tell_all es (state (map some l) (at 0) never [])) (length l))
      → TraceAnswer ds n b s l (answer_in (matching_in l room) (length l))
  room_decides ds n b s d = subst (TraceAnswer ds n b s l) (sym same_answer) d
