-- What a list against a course goes by, from left to right: the entries that are not yet taken, the floor, and the least entry that breaks a rule. Each transfer
-- takes the first entry of its first word that is not yet taken, and the entries right behind it; it must not lie before the floor.
use Rattle.std.specs.Prelude.{ℕ, zero, suc, cond, List, [], ◌∷◌, eqb}
use Rattle.std.proofs.Math.Option.{Option, none, some}
use Rattle.rules.specs.Stores.{Entry, TraceVerdict, just_so, up_to}
use Rattle.traces.specs.Cited.Entries.{Block, same_entry}

-- a number of an entry, counted from where one stands, or none
pub data Pos : Type 0 where
  at : ℕ → Pos
  never : Pos

abbrev pub raise : Pos → Pos
raise (at n) = at (suc n)
raise never = never

abbrev pub lower : Pos → Pos
lower (at zero) = at zero
lower (at (suc n)) = at n
lower never = never

unfoldable pub lesser_n : ℕ → ℕ → ℕ
lesser_n zero m = zero
lesser_n (suc n) zero = zero
lesser_n (suc n) (suc m) = suc (lesser_n n m)

unfoldable pub greater_n : ℕ → ℕ → ℕ
greater_n zero m = m
greater_n (suc n) zero = suc n
greater_n (suc n) (suc m) = suc (greater_n n m)

abbrev pub lesser : Pos → Pos → Pos
lesser (at n) (at m) = at (lesser_n n m)
lesser (at n) never = at n
lesser never p = p

abbrev pub greater : Pos → Pos → Pos
greater (at n) (at m) = at (greater_n n m)
greater (at n) never = never
greater never p = never

-- the entries that are not yet taken, in their places
abbrev pub Cells : Type 0
Cells = List (Option Entry)

pub record Marked : Type 0 where
  pub cells : Cells
  pub floor : Pos
  pub bad : Pos

abbrev pub marked : Cells → Pos → Pos → Marked
marked c f b = record { cells = c; floor = f; bad = b }

-- one entry further on
abbrev pub behind : Option Entry → Marked → Marked
behind c r = marked (c ∷ r.cells) (raise r.floor) (raise r.bad)

-- the entries of a transfer, right here
unfoldable pub fit : Block → Cells → Marked
fit [] cs = marked cs (at 0) never
fit (x ∷ xs) [] = marked [] never never
fit (x ∷ xs) (none ∷ cs) = marked (none ∷ cs) never (at 0)
fit (x ∷ xs) (some y ∷ cs) = cond (same_entry x y) (behind none (fit xs cs)) (marked (some y ∷ cs) never (at 0))

-- here, if that is not too early
abbrev pub here : Entry → Block → Pos → Cells → Marked
here x xs (at zero) cs = fit (x ∷ xs) cs
here x xs (at (suc n)) cs = marked cs never (at 0)
here x xs never cs = marked cs never (at 0)

-- at the first entry of its first word that is not taken
unfoldable pub put : Entry → Block → Pos → Cells → Marked
put x xs f [] = marked [] never never
put x xs f (none ∷ cs) = behind none (put x xs (lower f) cs)
put x xs f (some y ∷ cs) = cond (eqb y.word x.word) (here x xs f (some y ∷ cs)) (behind (some y) (put x xs (lower f) cs))

-- the first entry that nothing took
unfoldable pub untaken : Cells → Pos
untaken [] = never
untaken (none ∷ cs) = raise (untaken cs)
untaken (some y ∷ cs) = at 0

unfoldable pub verdict : Pos → Pos → ℕ → TraceVerdict
verdict (at i) f n = up_to i
verdict never (at k) n = just_so
verdict never never n = up_to n
