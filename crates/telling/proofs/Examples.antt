-- A body worked out by the checker: its cells, and what is passed and told on the way through it. A letter stands for an action of three tokens.
--
--     BEGIN  A ; BEGIN B ; C END ; D  NEXT  REPEAT BEGIN E ; F END  END
--     10     11  15    16  20      25       29     30    31  35
use Rattle.std.specs.Prelude.{ℕ, ◌-◌, ◌≡◌, refl, List, [], ◌∷◌, map, get_or}
use Rattle.rules.specs.Text.Tokens.{Info}
use Rattle.rules.specs.Text.Scan.{plain_info}
use Rattle.rules.specs.Grammar.Trees.{Action, block, repeat, no_op, end, also, next}
use Rattle.traces.specs.Cited.Events.{opens, turns, closes}
use Rattle.telling.specs.Cited.Passing.{Grouping, Passing, opened, turned, closed, group_event, times, all_pairs, meet, climb, leave_deeper, passage}
use Rattle.telling.specs.Cited.Cells.{Cells, up_from, cell_grouping, Marked}

abbrev mark : Info
mark = plain_info 0

abbrev letter : Action
letter = no_op mark mark mark

abbrev example : Action
example =
    block mark letter
    (also mark (block mark letter (also mark letter (end mark)))
    (also mark letter
    (next mark (repeat mark (block mark letter (also mark letter (end mark)))) (end mark))))

-- from the token 10 on
abbrev ups : List ℕ
ups = 0 ∷ 0 ∷ 0 ∷ 0 ∷ 0 ∷ 0 ∷ 15 ∷ 0 ∷ 0 ∷ 0 ∷ 15 ∷ []

abbrev ranks : List ℕ
ranks = 0 ∷ 1 ∷ 0 ∷ 0 ∷ 0 ∷ 3 ∷ 1 ∷ 0 ∷ 0 ∷ 0 ∷ 4 ∷ 0 ∷ 0 ∷ 0 ∷ 0 ∷ 6 ∷ 0 ∷ 0 ∷ 0 ∷ 0 ∷ 0 ∷ 1 ∷ 0 ∷ 0 ∷ 0 ∷ 4 ∷ []

abbrev cells : Cells
cells = record { up = λ n. get_or ups (n - 10) 0; rank = λ n. get_or ranks (n - 10) 0 }

marked : Marked cells 0 10 example
marked = (
  (refl, refl),
  refl,
  ((refl, refl), ((refl, refl), refl, ((refl, refl), refl, tt)), ((refl, refl), refl, (tt, (refl, ((refl, refl), refl, ((refl, refl), refl, tt))), tt))),
)

abbrev M : Grouping
M = cell_grouping cells

abbrev way : ℕ → ℕ → List Passing
way n k = passage M (M.around n) (M.around k)

abbrev ways : List (List Passing)
ways = way 11 16 ∷ way 16 20 ∷ way 20 25 ∷ way 25 29 ∷ way 29 31 ∷ way 31 35 ∷ way 35 29 ∷ []

passed :
    ways
    ≡ (turned 15 ∷ opened 16 ∷ []) ∷ (turned 20 ∷ []) ∷ (closed 20 ∷ turned 25 ∷ []) ∷ (closed 25 ∷ []) ∷ (opened 31 ∷ []) ∷ (turned 35 ∷ []) ∷ (closed 35 ∷ []) ∷ []
unfolding up_from meet climb leave_deeper passage
passed = refl

-- a group of three is two nested pairs: the second begins where the first turns, and both end together
pairs :
    map (all_pairs M) ways
    ≡ (turns ∷ opens ∷ opens ∷ []) ∷ (turns ∷ []) ∷ (closes ∷ turns ∷ []) ∷ (closes ∷ closes ∷ []) ∷ (opens ∷ []) ∷ (turns ∷ []) ∷ (closes ∷ []) ∷ []
unfolding up_from meet climb leave_deeper passage times all_pairs
pairs = refl

groups :
    map (map group_event) ways
    ≡ (turns ∷ opens ∷ []) ∷ (turns ∷ []) ∷ (closes ∷ turns ∷ []) ∷ (closes ∷ []) ∷ (opens ∷ []) ∷ (turns ∷ []) ∷ (closes ∷ []) ∷ []
unfolding up_from meet climb leave_deeper passage
groups = refl
