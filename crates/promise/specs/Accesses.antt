-- What the table has for the runner at the name of an access: in the name's value cell, where its bits lie. The first word (16 bits), the lowest bit and
-- the number of bits (8 each), the names of the left and the right word (16 each; 0 without words).
use Rattle.std.specs.Prelude.{ℕ, ◌+◌, ◌*◌, ◌^◌, ◌≡◌, List, [], ◌∷◌, drop}
use Rattle.std.proofs.Math.Option.{Option, none, some}
use Rattle.rules.specs.Text.Tokens.{Name, LBra, Less, Info, Token, tk}
use Rattle.rules.specs.Grammar.Trees.{Tokens, Bits, bits_tokens, Subscript, subscript_tokens}
use Rattle.rules.specs.Grammar.Precedence.{index_of}
use Rattle.rules.specs.Declarations.{Word, Names, Table, Reach, reach, access_low, access_bits}
use Rattle.rules.specs.Faults.Bodies.{judge_access}
use Rattle.records.specs.Holds.{value_cell_of}

abbrev pub left_name : Option Names → ℕ
left_name none = 0
left_name (some s) = s.left

abbrev pub right_name : Option Names → ℕ
right_name none = 0
right_name (some s) = s.right

unfoldable pub access_cell : Reach → Bits → ℕ
access_cell r b =
    r.first + 2 ^ 16 * access_low r b + 2 ^ 24 * access_bits r b + 2 ^ 32 * left_name r.words + 2 ^ 48 * right_name r.words

-- an access ends before a token that is neither `[` nor `<`
pub record EndsAccess (rest : Tokens) : Type 0 where
  pub next : Token
  pub more : Tokens
  pub is : rest ≡ next ∷ more
  pub no_subscript : next.kind ≡ LBra → ⊥
  pub no_bits : next.kind ≡ Less → ⊥

-- wherever a sound access stands, its name's cell has its place
pub record AccessesHold (values : List ℕ) (ts : Tokens) (outer : Word) (ds : Table) : Type 0 where
  pub at : (q : ℕ) (x : Info) (s : Subscript) (b : Bits) (rest : Tokens) (r : Reach)
      → drop q ts ≡ tk Name x ∷ subscript_tokens s (bits_tokens b rest) → EndsAccess rest
      → (judge_access outer ds x (index_of s) b).faults ≡ [] → reach ds x.word ≡ some r → value_cell_of values q ≡ access_cell r b
