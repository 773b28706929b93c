-- A name in an access, and what is answered of it: whether it has bits, whether a subscript fits its words, and whether the given bits lie inside.
use Rattle.std.specs.Prelude.{ℕ, ◌<◌, ◌≡◌, Bool, true, false, not, List, ◌∷◌, length, drop}
use Rattle.std.proofs.Math.Option.{Option}
use Rattle.rules.specs.Text.Tokens.{Name, Info, Token, tk}
use Rattle.rules.specs.Grammar.Trees.{Tokens, Bits, bits_tokens}
use Rattle.rules.specs.Grammar.Precedence.{Index, no_index, index}
use Rattle.rules.specs.Declarations.{Names as Span-of, BitNames, main_names}
use Rattle.rules.specs.Faults.Bodies.{judge_access}
use Rattle.records.specs.Holds.{token_at}
use Rattle.table.specs.Bits.{access_bits}
use Rattle.table.specs.Shown.{shown_bits, shown_words}
use Rattle.table.specs.declared.views.Names.{Names}
use Rattle.table.specs.declared.views.Names.TheVariants.{Missing, Unnamed, Span}
use Rattle.table.specs.Operators.{ends_access}
use Rattle.accesses.specs.Scene.{Scene, outer_of, table_of, Answers}
use Rattle.accesses.specs.declared.Judged.{Judged as Answer}

-- a name is the token i, and the bits of its access stand from p on
pub record NamedAt (records values decls : List ℕ) (i p : ℕ) : Type 0 where
  pub scene : Scene records values decls
  pub name : Info
  pub bits : Bits
  pub next : Token
  pub rest : Tokens
  pub within : i < length scene.tokens
  pub here : token_at scene.tokens i ≡ tk Name name
  pub before : i < p
  pub reads : drop p scene.tokens ≡ bits_tokens bits (next ∷ rest)
  pub ends : ends_access next.kind ≡ true

abbrev pub has_index : Index → Bool
has_index no_index = false
has_index (index l e r) = true

-- the answer for the name of an access alone
abbrev pub NamedAnswer : {records values decls : List ℕ} {i p : ℕ} → NamedAt records values decls i p → Bool → Answer → Type 0
NamedAnswer {i = i} v t r =
    (x : Index) → t ≡ has_index x
    → Answers v.scene.tokens (v.next ∷ v.rest) i (judge_access (outer_of v.scene) (table_of v.scene) v.name x v.bits) r

abbrev pub is_missing : Names → Bool
is_missing Missing = true
is_missing Unnamed = false
is_missing (Span l r) = false

-- a subscript for words, and none without
abbrev pub fits_words : Names → Bool → Bool
fits_words Missing given = not given
fits_words Unnamed given = given
fits_words (Span l r) given = given

-- what a declaration with these words and bits makes of an access
pub record Shows (words own given : Names) (t : Bool) (w : Option Span-of) (b : Option BitNames) (x : Index) (g : Bits) : Type 0 where
  pub words_shown : words ≡ shown_words w
  pub own_shown : own ≡ shown_bits b
  pub given_shown : given ≡ shown_bits (main_names (access_bits g))
  pub index_shown : t ≡ has_index x
