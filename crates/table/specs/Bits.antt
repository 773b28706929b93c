-- Bits in a table: `<>`, `<n>`, `<n:n>`, or none before a token that is no `<`. How many tokens they take says which.
use Rattle.std.specs.Prelude.{ℕ, ◌≡◌, List, [], ◌∷◌, length, drop}
use Rattle.rules.specs.Text.Tokens.{Less, Token}
use Rattle.rules.specs.Grammar.Trees.{Tokens, Bits, all_bits, bits, named, MainBits, bitless, main_bits, main_bits_tokens}
use Rattle.records.specs.Holds.{Holds}

abbrev pub bits_size : MainBits → ℕ
bits_size b = length (main_bits_tokens b [])

pub record BitsView (records values : List ℕ) (p : ℕ) : Type 0 where
  pub text : List ℕ
  pub tokens : Tokens
  pub holds : Holds text records values tokens
  pub bits : MainBits
  pub next : Token
  pub rest : Tokens
  pub ends : next.kind ≡ Less → ⊥
  pub reads : drop p tokens ≡ main_bits_tokens bits (next ∷ rest)

-- the bits of an access are written as those of a declaration
abbrev pub access_bits : Bits → MainBits
access_bits all_bits = bitless
access_bits (bits l n e) = main_bits l (named n e)
