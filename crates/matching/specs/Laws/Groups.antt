-- One pair of numbers for a whole group does what nested groups of two do.
-- Assumes nothing.
use Rattle.std.specs.Prelude.{ℕ, zero, suc, ◌≡◌, refl, length}
use Rattle.std.proofs.Common.{sym, ◌∙◌, ap, ap₂}
use Rattle.std.proofs.Math.Path.{subst}
use mathlib.Core.List.{List, [], ◌∷◌, ◌++◌, map}
use Rattle.std.proofs.Math.Option.{some}
use Rattle.rules.specs.Stores.{Entry}
use Rattle.traces.specs.Cited.Entries.{Block}
use Rattle.traces.specs.Cited.Marking.{Pos, at, never, lesser, greater_n, greater, Cells, Marked, put}
use Rattle.traces.specs.Cited.Events.{Event, stores, opens, turns, closes}
use Rattle.traces.specs.Machine.{Open, begun, turned, State, state, turn, tell, tell_all, answer_of}
use Rattle.matching.specs.Matching as M
use Rattle.matching.specs.Matching.{Group, group, Matching, matching, untold, told, told_all, answer_in}

greater_n_assoc : (a b c : ℕ) → greater_n (greater_n a b) c ≡ greater_n a (greater_n b c)
unfolding greater_n
greater_n_assoc zero b c = refl
greater_n_assoc (suc a) zero c = refl
greater_n_assoc (suc a) (suc b) zero = refl
greater_n_assoc (suc a) (suc b) (suc c) = ap suc (greater_n_assoc a b c)

greater_assoc : (p q r : Pos) → greater (greater p q) r ≡ greater p (greater q r)
greater_assoc (at a) (at b) (at c) = ap at (greater_n_assoc a b c)
greater_assoc (at a) (at b) never = refl
greater_assoc (at a) never r = refl
greater_assoc never q r = refl

zero_greater : (p : Pos) → greater (at 0) p ≡ p
unfolding greater_n
zero_greater (at a) = refl
zero_greater never = refl

-- the floors with which the members before have ended, the last one first
unfoldable pub greatest : List Pos → Pos
greatest [] = at 0
greatest (f ∷ fs) = greater (greatest fs) f

-- an open group, and how many of its members have ended: another one follows, or the last goes on
pub data Frame : Type 0 where
  amid : ℕ → Frame
  last : ℕ → Frame

-- nested groups of two that are such groups
pub data Folds : List Frame → List Open → List Group → Type 0 where
  outside : Folds [] [] []
  in_amid : (p : Pos) (fs : List Pos) {k : List Frame} {o : List Open} {g : List Group} → Folds k o g
      → Folds (amid (length fs) ∷ k) (begun p ∷ map turned fs ++ o) (group p (greatest fs) ∷ g)
  in_last : (p : Pos) (fs : List Pos) {k : List Frame} {o : List Open} {g : List Group} → Folds k o g
      → Folds (last (length fs) ∷ k) (map turned fs ++ o) (group p (greatest fs) ∷ g)

pub record Alike (k : List Frame) (s : State) (z : Matching) : Type 0 where
  pub cells : s.cells ≡ z.cells
  pub floor : s.floor ≡ z.floor
  pub bad : s.bad ≡ z.bad
  pub folds : Folds k s.groups z.groups

-- so many groups of two end together
unfoldable pub closings : ℕ → List Event
closings zero = []
closings (suc n) = closes ∷ closings n

pub alike_untold : (l : List Entry) → Alike [] (state (map some l) (at 0) never []) (untold l)
alike_untold l = record { cells = refl; floor = refl; bad = refl; folds = outside }

module _ {k : List Frame} {s : State} {z : Matching} (a : Alike k s z) where
  pub alike_stores : (x : Entry) (xs : Block) → Alike k (tell (stores x xs) s) (told (stores x xs) z)
  alike_stores x xs =
      let e : put x xs s.floor s.cells ≡ put x xs z.floor z.cells = ap₂ (put x xs) a.floor a.cells in
      record {
        cells = ap (λ (r : Marked). r.cells) e;
        floor = ap (λ (r : Marked). r.floor) e;
        bad = ap₂ (λ (b : Pos) (r : Marked). lesser b r.bad) a.bad e;
        folds = a.folds;
      }

  pub alike_opens : Alike (amid 0 ∷ k) (tell opens s) (told opens z)
  unfolding greatest
  alike_opens = record {
    cells = a.cells;
    floor = a.floor;
    bad = a.bad;
    folds = subst (λ p. Folds (amid 0 ∷ k) (begun s.floor ∷ s.groups) (group p (at 0) ∷ z.groups)) a.floor (in_amid s.floor [] a.folds);
  }

  pub alike_answer : (n : ℕ) → answer_of s n ≡ answer_in z n
  unfolding answer_of answer_in
  alike_answer n = rw (a.bad, a.cells, a.floor)

-- between two members: the groups of two that begin there, where another follows
turn_amid : {n : ℕ} {k : List Frame} {o : List Open} {g : List Group} → Folds (amid n ∷ k) o g → (cs : Cells) (f b : Pos)
    → Alike (amid (suc n) ∷ k) (tell opens (turn cs f b o)) (M.turned cs f b g)
unfolding greatest
turn_amid (in_amid p fs h) cs f b = record { cells = refl; floor = refl; bad = refl; folds = in_amid p (f ∷ fs) h }

turn_last : {n : ℕ} {k : List Frame} {o : List Open} {g : List Group} → Folds (amid n ∷ k) o g → (cs : Cells) (f b : Pos)
    → Alike (last (suc n) ∷ k) (turn cs f b o) (M.turned cs f b g)
unfolding greatest
turn_last (in_amid p fs h) cs f b = record { cells = refl; floor = refl; bad = refl; folds = in_last p (f ∷ fs) h }

all_close : (fs : List Pos) (o : List Open) (cs : Cells) (f b : Pos)
    → tell_all (closings (length fs)) (state cs f b (map turned fs ++ o)) ≡ state cs (greater (greatest fs) f) b o
unfolding tell_all closings greatest
all_close [] o cs f b = ap (λ p. state cs p b o) (sym (zero_greater f))
all_close (p ∷ fs) o cs f b = all_close fs o cs (greater p f) b ∙ ap (λ q. state cs q b o) (sym (greater_assoc (greatest fs) p f))

close_last : {n : ℕ} {k : List Frame} {o : List Open} {g : List Group} → Folds (last n ∷ k) o g → (cs : Cells) (f b : Pos)
    → Alike k (tell_all (closings n) (state cs f b o)) (M.closed cs f b g)
close_last {k = k} (in_last p fs {o = o} {g = g} h) cs f b =
    subst (λ s. Alike k s (matching cs (greater (greatest fs) f) b g)) (sym (all_close fs o cs f b))
    (record { cells = refl; floor = refl; bad = refl; folds = h })

same_floors : {k : List Frame} {s : State} {z : Matching} → Alike k s z → z ≡ matching s.cells s.floor s.bad z.groups
same_floors {z = z} a = rw (a.cells, a.floor, a.bad)

module _ {n : ℕ} {k : List Frame} {s : State} {z : Matching} where
  pub alike_turns : Alike (amid n ∷ k) s z → Alike (amid (suc n) ∷ k) (tell opens (tell turns s)) (told turns z)
  alike_turns a = rw (same_floors a) (turn_amid a.folds s.cells s.floor s.bad)

  pub alike_last : Alike (amid n ∷ k) s z → Alike (last (suc n) ∷ k) (tell turns s) (told turns z)
  alike_last a = rw (same_floors a) (turn_last a.folds s.cells s.floor s.bad)

  pub alike_closes : Alike (last n ∷ k) s z → Alike k (tell_all (closings n) s) (told closes z)
  alike_closes a = rw (same_floors a) (close_last a.folds s.cells s.floor s.bad)

-- what is told of nested groups of two, and of whole groups, up to some point of a run
pub data Tracks : List Frame → List Event → List Event → Type 0 where
  at_start : Tracks [] [] []
  more_stores : {k : List Frame} {es gs : List Event} (x : Entry) (xs : Block) → Tracks k es gs → Tracks k (es ++ stores x xs ∷ []) (gs ++ stores x xs ∷ [])
  more_opens : {k : List Frame} {es gs : List Event} → Tracks k es gs → Tracks (amid 0 ∷ k) (es ++ opens ∷ []) (gs ++ opens ∷ [])
  more_turns : {n : ℕ} {k : List Frame} {es gs : List Event} → Tracks (amid n ∷ k) es gs → Tracks (amid (suc n) ∷ k) (es ++ turns ∷ opens ∷ []) (gs ++ turns ∷ [])
  last_turns : {n : ℕ} {k : List Frame} {es gs : List Event} → Tracks (amid n ∷ k) es gs → Tracks (last (suc n) ∷ k) (es ++ turns ∷ []) (gs ++ turns ∷ [])
  more_closes : {n : ℕ} {k : List Frame} {es gs : List Event} → Tracks (last n ∷ k) es gs → Tracks k (es ++ closings n) (gs ++ closes ∷ [])

tell_append : (a b : List Event) (s : State) → tell_all (a ++ b) s ≡ tell_all b (tell_all a s)
unfolding tell_all
tell_append [] b s = refl
tell_append (e ∷ a) b s = tell_append a b (tell e s)

told_append : (a : List Event) (e : Event) (z : Matching) → told_all (a ++ e ∷ []) z ≡ told e (told_all a z)
unfolding told_all
told_append [] e z = refl
told_append (d ∷ a) e z = told_append a e (told d z)

module _ (l : List Entry) where
  abbrev from : State
  from = state (map some l) (at 0) never []

  on : {k : List Frame} (es more gs : List Event) (e : Event) → Alike k (tell_all more (tell_all es from)) (told e (told_all gs (untold l)))
      → Alike k (tell_all (es ++ more) from) (told_all (gs ++ e ∷ []) (untold l))
  on es more gs e a = rw (tell_append es more from, told_append gs e (untold l)) a

  -- The two machines stay alike.
  pub tracks_alike : {k : List Frame} {es gs : List Event} → Tracks k es gs → Alike k (tell_all es from) (told_all gs (untold l))
  unfolding tell_all told_all
  tracks_alike at_start = alike_untold l
  tracks_alike (more_stores {es = es} {gs = gs} x xs t) = on es (stores x xs ∷ []) gs (stores x xs) (alike_stores (tracks_alike t) x xs)
  tracks_alike (more_opens {es = es} {gs = gs} t) = on es (opens ∷ []) gs opens (alike_opens (tracks_alike t))
  tracks_alike (more_turns {es = es} {gs = gs} t) = on es (turns ∷ opens ∷ []) gs turns (alike_turns (tracks_alike t))
  tracks_alike (last_turns {es = es} {gs = gs} t) = on es (turns ∷ []) gs turns (alike_last (tracks_alike t))
  tracks_alike (more_closes {n = n} {es = es} {gs = gs} t) = on es (closings n) gs closes (alike_closes (tracks_alike t))

  -- They come to the same answer.
  pub tracks_answer : {k : List Frame} {es gs : List Event} → Tracks k es gs → (n : ℕ) → answer_of (tell_all es from) n ≡ answer_in (told_all gs (untold l)) n
  tracks_answer t n = alike_answer (tracks_alike t) n
