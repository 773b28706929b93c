-- The matching of a list with a run, as `traces/specs/Machine.antt` has it, with one pair of numbers for a group of any number of members: `opens` is told
-- once where the group begins, `turns` between each two members, `closes` once where all have ended. The parts of a transfer are told one by one.
use Rattle.std.specs.Prelude.{ℕ, zero, suc, List, [], ◌∷◌, map}
use Rattle.std.proofs.Math.Option.{some}
use Rattle.rules.specs.Stores.{Entry, TraceVerdict}
use Rattle.traces.specs.Cited.Marking.{Pos, at, never, lesser, greater, Cells, Marked, marked, behind, fit, put, untaken, verdict}
use Rattle.traces.specs.Cited.Events.{Event, stores, opens, turns, closes}

-- of an open group: the floor with which each member begins, and the greatest with which one has ended
pub record Group : Type 0 where
  pub start : Pos
  pub most : Pos

abbrev pub group : Pos → Pos → Group
group s m = record { start = s; most = m }

pub record Matching : Type 0 where
  pub cells : Cells
  pub floor : Pos
  pub bad : Pos
  pub groups : List Group

abbrev pub matching : Cells → Pos → Pos → List Group → Matching
matching cs f b g = record { cells = cs; floor = f; bad = b; groups = g }

-- nothing is told yet
abbrev pub untold : List Entry → Matching
untold l = matching (map some l) (at 0) never []

abbrev pub turned : Cells → Pos → Pos → List Group → Matching
turned cs f b [] = matching cs f b []
turned cs f b (g ∷ gs) = matching cs g.start b (group g.start (greater g.most f) ∷ gs)

abbrev pub closed : Cells → Pos → Pos → List Group → Matching
closed cs f b [] = matching cs f b []
closed cs f b (g ∷ gs) = matching cs (greater g.most f) b gs

-- what a marking adds
abbrev pub with : Marked → Matching → Matching
with r z = matching r.cells r.floor (lesser z.bad r.bad) z.groups

abbrev pub told : Event → Matching → Matching
told (stores x xs) z = with (put x xs z.floor z.cells) z
told opens z = matching z.cells z.floor z.bad (group z.floor (at 0) ∷ z.groups)
told turns z = turned z.cells z.floor z.bad z.groups
told closes z = closed z.cells z.floor z.bad z.groups

unfoldable pub told_all : List Event → Matching → Matching
told_all [] z = z
told_all (e ∷ es) z = told_all es (told e z)

-- a part at the entry k
unfoldable pub fit_at : ℕ → Entry → Cells → Marked
fit_at zero x cs = fit (x ∷ []) cs
fit_at (suc k) x [] = marked [] never never
fit_at (suc k) x (c ∷ cs) = behind c (fit_at k x cs)

abbrev pub part_at : Pos → Entry → Matching → Matching
part_at (at k) x z = with (fit_at k x z.cells) z
part_at never x z = z

-- the entry k is bad for a store
abbrev pub spoilt : ℕ → Matching → Matching
spoilt k z = with (marked z.cells never (at k)) z

-- one more part of the transfer that was told last: the floor is the end of its parts so far, or they do not stand together
abbrev pub told_part : Entry → Matching → Matching
told_part x z = part_at z.floor x z

unfoldable pub answer_in : Matching → ℕ → TraceVerdict
answer_in z n = verdict (lesser z.bad (untaken z.cells)) z.floor n
