-- The groups that are open in a matching, by what it is told.
use Rattle.std.specs.Prelude.{ℕ, ◌-◌, ◌≡◌, refl, List, [], ◌∷◌, ◌++◌, map, length}
use Rattle.std.proofs.Common.{◌∙◌, ap}
use Rattle.std.proofs.Math.Numerals.{unary_clauses}
use Rattle.telling.specs.Cited.Passing.{Passing, opened, turned, closed, group_event}
use Rattle.traces.specs.Cited.Marking.{Pos, Cells}
use Rattle.matching.specs.Matching as matching
use Rattle.matching.specs.Matching.{Group, Matching, told, told_all}
use Rattle.passing.specs.Depth.{depth_behind, depth_after}

depth_turned : (cs : Cells) (f b : Pos) (gs : List Group) → length (matching.turned cs f b gs).groups ≡ length gs
depth_turned cs f b [] = refl
depth_turned cs f b (g ∷ gs) = refl

depth_closed : (cs : Cells) (f b : Pos) (gs : List Group) → length (matching.closed cs f b gs).groups ≡ length gs - 1
depth_closed cs f b [] = refl
depth_closed cs f b (g ∷ gs) = simp unary_clauses

depth_one : (p : Passing) (z : Matching) → length (told (group_event p) z).groups ≡ depth_behind p (length z.groups)
depth_one (opened y) z = refl
depth_one (turned y) z = depth_turned z.cells z.floor z.bad z.groups
depth_one (closed y) z = depth_closed z.cells z.floor z.bad z.groups

pub depth_told : (ps : List Passing) (z : Matching) → length (told_all (map group_event ps) z).groups ≡ depth_after ps (length z.groups)
unfolding told_all depth_after
depth_told [] z = refl
depth_told (p ∷ ps) z = depth_told ps (told (group_event p) z) ∙ ap (depth_after ps) (depth_one p z)

pub depth_append : (ps qs : List Passing) (d : ℕ) → depth_after (ps ++ qs) d ≡ depth_after qs (depth_after ps d)
unfolding depth_after
depth_append [] qs d = refl
depth_append (p ∷ ps) qs d = depth_append ps qs (depth_behind p d)
