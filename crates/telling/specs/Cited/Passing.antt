-- What control passes on its way from one instruction of a body to another: members of groups that it leaves, a next member, members that it enters.
-- A group is two or more members joined by `;`.
use Rattle.std.specs.Prelude.{ℕ, zero, suc, ◌-◌, Bool, true, false, List, [], ◌∷◌, ◌++◌, map, eqb, length}
use Rattle.traces.specs.Cited.Events.{Event, opens, turns, closes}

-- members of groups by their numbers: those around an instruction, the innermost first; of a member, how many of its group come before it, and whether it is the last
pub record Grouping : Type 0 where
  pub around : ℕ → List ℕ
  pub before : ℕ → ℕ
  pub last : ℕ → Bool

-- a group begins with this member, goes on with this one, or has ended with this one
pub data Passing : Type 0 where
  opened : ℕ → Passing
  turned : ℕ → Passing
  closed : ℕ → Passing

-- what a matching is told that has one pair of numbers for a whole group
abbrev pub group_event : Passing → Event
group_event (opened y) = opens
group_event (turned y) = turns
group_event (closed z) = closes

-- an event so many times
unfoldable pub times : ℕ → Event → List Event
times zero e = []
times (suc n) e = e ∷ times n e

-- where a member is not the last, it and those behind it are a pair
abbrev pub pair_opens : Bool → List Event
pair_opens true = []
pair_opens false = opens ∷ []

module _ (M : Grouping) where
  -- what a matching is told that has nested pairs: a group of m members is m - 1 of them, each but the first opened where the one before it turns
  abbrev pub pair_events : Passing → List Event
  pair_events (opened y) = opens ∷ []
  pair_events (turned y) = turns ∷ pair_opens (M.last y)
  pair_events (closed z) = times (M.before z) closes

  unfoldable pub all_pairs : List Passing → List Event
  all_pairs [] = []
  all_pairs (p ∷ ps) = pair_events p ++ all_pairs ps

  -- one step of the way up, from a member x and a member y; `to` has the members that will be entered, the outermost first, and `more` is what is passed higher up.
  -- In one member the way ends. Where y is no first member of its group, it is the next one behind x.
  abbrev pub meeting : Bool → ℕ → ℕ → ℕ → List ℕ → List Passing → List Passing
  meeting true j x y to more = map opened to
  meeting false zero x y to more = closed x ∷ more
  meeting false (suc j) x y to more = turned y ∷ map opened to

  -- the way up from the members around two instructions, as many of each
  unfoldable pub meet : List ℕ → List ℕ → List ℕ → List Passing
  meet [] ys to = map opened to
  meet (x ∷ xs) [] to = map opened to
  meet (x ∷ xs) (y ∷ ys) to = meeting (eqb x y) (M.before y) x y to (meet xs ys (y ∷ to))

  -- before that, the members by which the first instruction is deeper are left, and those by which the second is deeper will be entered
  unfoldable pub climb : ℕ → List ℕ → List ℕ → List ℕ → List Passing
  climb zero xs ys to = meet xs ys to
  climb (suc e) xs [] to = meet xs [] to
  climb (suc e) xs (y ∷ ys) to = climb e xs ys (y ∷ to)

  unfoldable pub leave_deeper : ℕ → ℕ → List ℕ → List ℕ → List Passing
  leave_deeper zero e xs ys = climb e xs ys []
  leave_deeper (suc d) e [] ys = climb e [] ys []
  leave_deeper (suc d) e (x ∷ xs) ys = closed x ∷ leave_deeper d e xs ys

  -- on the way from an instruction with the members xs around it to one with the members ys
  unfoldable pub passage : List ℕ → List ℕ → List Passing
  passage xs ys = leave_deeper (length xs - length ys) (length ys - length xs) xs ys
