-- The rows as numbers: what a table says where it holds them, and a row's move as the code gives it.
use Rattle.std.specs.Prelude.{◌≡◌, List, ℕ, ◌+◌, ◌*◌, ◌%◌, ◌<◌, length, get_or}
use Rattle.std.proofs.Math.Option.{Option, none, some}
use Rattle.laws_grammar.specs.Cited.Rows.{State, Move, go, open_to, shut, row, lookup}
use Rattle.grammar.specs.Places.{place}
use Rattle.grammar.specs.declared.Next.{Next}
use Rattle.grammar.specs.declared.Next.TheVariants.{Nowhere, On, Into, Out}
use Rattle.laws_grammar.specs.Cited.Kinds.{kinds, kind_at}

-- how many kinds there are
abbrev pub kind_count : ℕ
kind_count = length kinds

abbrev pub move_no : Move → ℕ
move_no (go s) = place s
move_no (open_to s t) = place s + 2048 * place t
move_no shut = 0

-- an entry names a kind and gives its move; where a row has no move, the entry there names another kind
abbrev pub Says : ℕ → ℕ → Option Move → Type 0
Says entry k none = entry % 64 ≡ k → ⊥
Says entry k (some m) = entry ≡ k + 64 * move_no m

-- the table holds every row
pub record Ruled (table : List ℕ) : Type 0 where
  pub says : (s : State) (k : ℕ) → k < kind_count → Says (get_or table (place s + k) 0) k (lookup (row s) (kind_at k))

abbrev pub next_of : Option Move → Next
next_of none = Nowhere
next_of (some (go s)) = On (place s)
next_of (some (open_to s t)) = Into (place s) (place t)
next_of (some shut) = Out
