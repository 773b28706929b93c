-- A declaration whose name is the token i of a table, and its parts: words, bits, and what `:=` gives it.
use Rattle.std.specs.Prelude.{ℕ, ◌+◌, ◌<◌, ◌≡◌, List, [], ◌∷◌, length, drop, Option as Found, Some, None, ⊤}
use Rattle.std.proofs.Math.Option.{Option, none, some}
use Rattle.rules.specs.Text.Tokens.{Name, Const, LBra, RBra, Less, Colon, MAIN, Info, Token, tk}
use Rattle.rules.specs.Grammar.Trees.{Tokens, Action, body, meaning_tokens, Given, carrier, given, words, with_bits, bare_body, MainBits, main_bits_tokens, Declaration, plain, main, declarations_tokens}
use Rattle.rules.specs.Declarations.{these, Target, main_names}
use Rattle.laws_grammar.specs.Cited.Positions.{ActionAt}
use Rattle.records.specs.Holds.{token_at, Holds}
use Rattle.table.specs.Declarations.{DeclaredAt}

-- a declaration's name is the token i of a table
pub record View (records values : List ℕ) (i : ℕ) : Type 0 where
  pub text : List ℕ
  pub tokens : Tokens
  pub holds : Holds text records values tokens
  pub declaration : Declaration
  pub stands : DeclaredAt tokens i declaration

-- the tokens behind the declaration
abbrev pub behind : {records values : List ℕ} {i : ℕ} → View records values i → Tokens
behind v = declarations_tokens v.stands.following []

abbrev pub words_tokens : Declaration → Tokens → Tokens
words_tokens (plain n (words l f c t r b o)) ts = tk LBra l ∷ tk Const f ∷ tk Colon c ∷ tk Const t ∷ tk RBra r ∷ ts
words_tokens (plain n (with_bits l o g)) ts = ts
words_tokens (plain n (bare_body e b a m)) ts = ts
words_tokens (main k n o e b a m) ts = ts

abbrev pub given_part : Declaration → Given
given_part (plain n (words l f c t r b o)) = carrier
given_part (plain n (with_bits l o g)) = g
given_part (plain n (bare_body e b a m)) = given e (body b a m)
given_part (main k n o e b a m) = given e (body b a m)

abbrev pub words_size_of : Declaration → ℕ
words_size_of d = length (words_tokens d [])

-- what `:=` gives stands from r on
abbrev pub GivenAt : Tokens → Found ℕ → Given → Tokens → Type 0
GivenAt ts None carrier rest = ⊤
GivenAt ts (Some r) carrier rest = ⊥
GivenAt ts None (given e m) rest = ⊥
GivenAt ts (Some r) (given e m) rest = (0 < r) × (drop r ts ≡ meaning_tokens m rest)

-- a body stands from r on
abbrev pub BodyAt : Tokens → Found ℕ → Option Action → Type 0
BodyAt ts None none = ⊤
BodyAt ts (Some r) none = ⊥
BodyAt ts None (some a) = ⊥
BodyAt ts (Some r) (some a) = (0 < r) × ((j : ℕ) × ActionAt ts r a j)

-- the name of a mapping's target is the token r, and its bits stand behind it
pub record TargetStands (ts : Tokens) (r : ℕ) (t : Target) : Type 0 where
  pub past : 0 < r
  pub within : r < length ts
  pub name : token_at ts r ≡ tk Name t.name
  pub bits : MainBits
  pub names : main_names bits ≡ some (these t.bits)
  pub next : Token
  pub rest : Tokens
  pub ends : next.kind ≡ Less → ⊥
  pub reads : drop (r + 1) ts ≡ main_bits_tokens bits (next ∷ rest)

abbrev pub TargetAt : Tokens → Found ℕ → Option Target → Type 0
TargetAt ts None none = ⊤
TargetAt ts (Some r) none = ⊥
TargetAt ts None (some t) = ⊥
TargetAt ts (Some r) (some t) = TargetStands ts r t

-- MAIN is the token r
abbrev pub MainAt : Tokens → Found ℕ → Option Info → Type 0
MainAt ts None none = ⊤
MainAt ts (Some r) none = ⊥
MainAt ts None (some k) = ⊥
MainAt ts (Some r) (some k) = (0 < r) × ((r < length ts) × (token_at ts r ≡ tk MAIN k))
