-- Selectors in a token table: a constant, an item, and all items of an alternative.
use Rattle.std.specs.Prelude.{ℕ, ◌+◌, ◌^◌, ◌<◌, ◌≡◌, List, [], ◌∷◌, length, drop}
use Rattle.rules.specs.Text.Tokens.{Kind, Const, Masked, LBra, RBra, Comma, Becomes, OTHERWISE, Token}
use Rattle.rules.specs.Grammar.Trees.{Tokens, Literal, literal_tokens, Range, single, to, range_tokens}
use Rattle.rules.specs.Selectors as rules
use Rattle.rules.specs.Selectors.{literal_info, lowest, item_of, highest}
use Rattle.records.specs.Holds.{token_at, Holds}
use Rattle.patterns.specs.declared.items.Item.{Item}
use Rattle.patterns.specs.Items.{meant}

-- a table in which a constant without `?` leaves no bit free
pub record Held (records values : List ℕ) (ts : Tokens) : Type 0 where
  pub text : List ℕ
  pub holds : Holds text records values ts
  pub fixed : (i : ℕ) → i < length ts → (token_at ts i).kind ≡ Const → (token_at ts i).info.free ≡ 0

-- a constant is the token q, and no constant follows
pub record LiteralAt (ts : Tokens) (q : ℕ) (l : Literal) : Type 0 where
  pub next : Token
  pub rest : Tokens
  pub reads : drop q ts ≡ literal_tokens l (next ∷ rest)
  pub no_const : next.kind ≡ Const → ⊥
  pub no_masked : next.kind ≡ Masked → ⊥

pub record LiteralView (records values : List ℕ) (q : ℕ) : Type 0 where
  pub tokens : Tokens
  pub held : Held records values tokens
  pub literal : Literal
  pub stands : LiteralAt tokens q literal

pub record LiteralRead (l : Literal) (value free : ℕ) : Type 0 where
  pub is_value : value ≡ lowest l
  pub is_free : free ≡ (literal_info l).free
  pub fits : value + free < 2 ^ 64

-- the kinds that end an item
pub data EndsItem : Kind → Type 0 where
  by_comma : EndsItem Comma
  by_close : EndsItem RBra
  by_becomes : EndsItem Becomes

abbrev pub item_size : Range → ℕ
item_size single = 1
item_size (to c l) = 3

-- an item stands from q on
pub record ItemAt (ts : Tokens) (q : ℕ) (l : Literal) (r : Range) : Type 0 where
  pub next : Token
  pub rest : Tokens
  pub reads : drop q ts ≡ literal_tokens l (range_tokens r (next ∷ rest))
  pub ends : EndsItem next.kind

pub record ItemView (records values : List ℕ) (q : ℕ) : Type 0 where
  pub tokens : Tokens
  pub held : Held records values tokens
  pub literal : Literal
  pub range : Range
  pub stands : ItemAt tokens q literal range

pub record ItemRead (l : Literal) (r : Range) (q : ℕ) (item : Item) (next : ℕ) : Type 0 where
  pub is_item : meant item ≡ item_of l r
  pub is_next : next ≡ q + item_size r
  pub fits : highest (item_of l r) < 2 ^ 64

-- items split by commas stand from q on
pub data ItemsFrom (ts : Tokens) : ℕ → List rules.Item → Type 0 where
  last_item : {q : ℕ} {l : Literal} {r : Range} → (s : ItemAt ts q l r) → (s.next.kind ≡ Comma → ⊥) → ItemsFrom ts q (item_of l r ∷ [])
  more_items : {q : ℕ} {l : Literal} {r : Range} {is : List rules.Item} → (s : ItemAt ts q l r) → s.next.kind ≡ Comma → ItemsFrom ts (q + item_size r + 1) is
      → ItemsFrom ts q (item_of l r ∷ is)

pub record ItemsView (records values : List ℕ) (q : ℕ) : Type 0 where
  pub tokens : Tokens
  pub held : Held records values tokens
  pub items : List rules.Item
  pub stand : ItemsFrom tokens q items

-- items stand from p on, and from q on
pub record TwoLists (records values : List ℕ) (p q : ℕ) : Type 0 where
  pub tokens : Tokens
  pub held : Held records values tokens
  pub first : List rules.Item
  pub first_stand : ItemsFrom tokens p first
  pub second : List rules.Item
  pub second_stand : ItemsFrom tokens q second

-- the items of an alternative that begins at p: none for OTHERWISE, those in brackets, or one
pub data ItemsAt (ts : Tokens) (p : ℕ) : List rules.Item → Type 0 where
  no_items : p < length ts → (token_at ts p).kind ≡ OTHERWISE → ItemsAt ts p []
  in_brackets : {is : List rules.Item} → p < length ts → (token_at ts p).kind ≡ LBra → ItemsFrom ts (p + 1) is → ItemsAt ts p is
  one_item : {is : List rules.Item} → ItemsFrom ts p is → ItemsAt ts p is

pub record AlternativeView (records values : List ℕ) (p : ℕ) : Type 0 where
  pub tokens : Tokens
  pub held : Held records values tokens
  pub items : List rules.Item
  pub stand : ItemsAt tokens p items

-- alternatives begin at p and at q
pub record TwoAlternatives (records values : List ℕ) (p q : ℕ) : Type 0 where
  pub tokens : Tokens
  pub held : Held records values tokens
  pub first : List rules.Item
  pub first_stand : ItemsAt tokens p first
  pub second : List rules.Item
  pub second_stand : ItemsAt tokens q second
