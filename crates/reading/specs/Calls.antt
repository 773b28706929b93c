-- The activations of an action, one after the other, in the order of its tokens.
use Rattle.std.specs.Prelude.{ℕ, ◌+◌, ◌<◌, ◌≤◌, ◌≡◌, Bool, true, false, List, [], ◌∷◌, drop}
use Rattle.rules.specs.Text.Tokens.{Name, LPar, kind_no}
use Rattle.rules.specs.Declarations.{Word}
use Rattle.records.specs.Holds.{kind_byte}
use Rattle.records.specs.Words.{word_at}
use Rattle.reading.specs.Reading.{Kinded}
use Rattle.reading.specs.Events.{Event, reads, writes, activates, halts, heard}

unfoldable pub calls_of : List Event → List Word
calls_of [] = []
calls_of (reads w ∷ es) = calls_of es
calls_of (writes w ∷ es) = calls_of es
calls_of (activates w ∷ es) = w ∷ calls_of es
calls_of (halts ∷ es) = calls_of es

-- a token that activates, by its kind, the mode and the kind behind it
abbrev pub Activates : Bool → ℕ → ℕ → ℕ → Type 0
Activates true k m x = (k ≡ 0) × ((m ≡ 0) × (x ≡ kind_no LPar))
Activates false k m x = k ≡ 0 → m ≡ 0 → x ≡ kind_no LPar → ⊥

-- The next activation of the tokens from `at` on: a name, and where to go on. From n on there is none.
pub record Found (records : List ℕ) (n at depth mode name next deep new_mode : ℕ) : Type 0 where
  pub low : at ≤ name
  pub high : name < next
  pub within : next ≤ n
  pub is_name : kind_byte records name ≡ kind_no Name
  pub shallow : deep ≤ next
  pub counted : new_mode ≤ next + 1
  pub calls : (v : Kinded records n) → calls_of (heard depth mode (drop at v.tokens)) ≡ word_at v.tokens name ∷ calls_of
      (heard deep new_mode (drop next v.tokens))

pub record NextCall (records : List ℕ) (n at depth mode name next deep new_mode : ℕ) : Type 0 where
  pub found : name < n → Found records n at depth mode name next deep new_mode
  pub nothing : n ≤ name → (v : Kinded records n) → calls_of (heard depth mode (drop at v.tokens)) ≡ []
