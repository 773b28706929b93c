-- Labels, and LEAVE with the search for its label.
use Rattle.std.specs.Prelude.{ℕ, ◌+◌, ◌<◌, ◌≤◌, ◌≡◌, List, length, Option as Found, Some, None}
use Rattle.std.proofs.Math.Option.{Option, none, some}
use Rattle.rules.specs.Text.Tokens.{Name, kind_no}
use Rattle.rules.specs.Limits.{most_tokens}
use Rattle.rules.specs.Grammar.Trees.{Tokens}
use Rattle.paths.specs.Cited.Marks.{Slot, flag_of}
use Rattle.records.specs.Holds.{kind_byte}
use Rattle.records.specs.Words.{NameAt, word_at}
use Rattle.nesting.specs.Spelt.{Spelt}
use Rattle.nesting.specs.Machine.{State, left, labelled}
use Rattle.nesting.specs.Holding.{book, Linked, Shows}
use Rattle.room.specs.Profile.{room_size, most_flags}
use Rattle.nesting.specs.declared.nests.Nest.{Nest}

pub record Sought (records room : List ℕ) (n count name : ℕ) : Type 0 where
  pub spelt : Spelt records n
  pub few : count ≤ most_tokens
  pub labels : List Slot
  pub linked : Linked (book records spelt.tokens) room count labels
  pub name_in : name < n
  pub is_name : kind_byte records name ≡ kind_no Name
  pub space : room_size ≤ length room

-- of the labels the first j are left
pub record Seeking (records room : List ℕ) (n count name j : ℕ) : Type 0 where
  pub sought : Sought records room n count name
  pub within : j ≤ count
  pub left : (w : Spelt records n) (ls : List Slot) → Linked (book records w.tokens) room count ls
      → (rest : List Slot) × Linked (book records w.tokens) room j rest × (flag_of ls (word_at w.tokens name) ≡ flag_of rest (word_at w.tokens name))

pub record Jumping (records room : List ℕ) (n name : ℕ) (s : Nest) : Type 0 where
  pub spelt : Spelt records n
  pub below : ℕ
  pub state : State
  pub shows : Shows (book records spelt.tokens) room below s state
  pub name_in : name < n
  pub is_name : kind_byte records name ≡ kind_no Name

abbrev pub Left : List ℕ → List ℕ → List ℕ → ℕ → ℕ → Nest → Nest → Type 0
Left records old new n name s r =
    (w : Spelt records n) (i : ℕ) (z : State) → Shows (book records w.tokens) old i s z
    → Shows (book records w.tokens) new i r (left (word_at w.tokens name) z)

-- the flag of the label that is found, if there is one
abbrev pub FlagFound : Option ℕ → Found ℕ → Type 0
FlagFound none r = r ≡ None
FlagFound (some k) r = (r ≡ Some k) × (k < most_flags)

-- one more label: the token i
abbrev pub Labels : List ℕ → List ℕ → List ℕ → ℕ → Nest → Nest → Type 0
Labels records old new i s r =
    (ts : Tokens) (z : State) → Shows (book records ts) old i s z → NameAt ts i → Shows (book records ts) new (i + 1) r (labelled (word_at ts i) z)
