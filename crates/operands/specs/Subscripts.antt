-- An access whose subscript is worked out: the word by its name, and the bits behind.
use Rattle.std.specs.Prelude.{ℕ, ◌+◌, ◌*◌, ◌<◌, ◌≤◌, ◌≡◌, true, List, ◌∷◌, length, drop, Result}
use Rattle.std.proofs.Math.Option.{some}
use Rattle.rules.specs.Text.Tokens.{Name, Info, Token, tk}
use Rattle.rules.specs.Grammar.Trees.{Tokens, Bits, bits_tokens}
use Rattle.rules.specs.Declarations.{Names, Reach}
use Rattle.rules.specs.Steps.Evaluation.{field_in}
use Rattle.records.specs.Holds.{Holds, value_cell_of, token_at}
use Rattle.operands.specs.declared.accesses.Field.{Field as Located}
use Rattle.operands.specs.declared.accesses.Outside.{Outside}
use Rattle.table.specs.Operators.{ends_access}
use Rattle.operands.specs.Cells.{Parts}
use Rattle.operands.specs.Scene.{Locates}

-- the bits of an access, from the token p on
pub record BitsAt (records : List ℕ) (p : ℕ) : Type 0 where
  pub text : List ℕ
  pub values : List ℕ
  pub tokens : Tokens
  pub holds : Holds text records values tokens
  pub bits : Bits
  pub next : Token
  pub rest : Tokens
  pub reads : drop p tokens ≡ bits_tokens bits (next ∷ rest)
  pub ends : ends_access next.kind ≡ true

-- the name i reaches words, n is the name of one, and the bits of the access stand from p on
pub record SubscriptedAt (records values : List ℕ) (i n p : ℕ) : Type 0 where
  pub behind : BitsAt records p
  pub name : Info
  pub within : i < length behind.tokens
  pub here : token_at behind.tokens i ≡ tk Name name
  pub before : i < p
  pub room : 8 * i + 8 ≤ length values
  pub reached : Reach
  pub words : Names
  pub has : reached.words ≡ some words
  pub parts : Parts (value_cell_of values i) reached behind.bits
  pub left_small : words.left < 65536
  pub right_small : words.right < 65536

abbrev pub SubscriptedAnswer : {records values : List ℕ} {i n p : ℕ} → SubscriptedAt records values i n p → Result Located Outside → Type 0
SubscriptedAnswer {i = i} {n = n} v r =
    Locates v.behind.tokens (v.behind.next ∷ v.behind.rest) i (field_in v.name v.behind.bits v.reached n) r
