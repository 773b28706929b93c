-- Spelled tokens, as the other laws read them.
use Rattle.std.specs.Prelude.{ℕ, ◌<◌, ◌≤◌, ◌≡◌, List}
use Rattle.rules.specs.Text.Tokens.{Name, kind_no}
use Rattle.records.specs.Holds.{kind_byte, place_cell, Tabled}
use Rattle.records.specs.Words.{NameAt}
use Rattle.scopes.specs.Laws.Labels.{word_at_lem, jump_place}
use Rattle.nesting.specs.Spelt.{Spelt}

module _ {records : List ℕ} {n : ℕ} (v : Spelt records n) where
  worded : Tabled v.text records n
  worded = record { values = v.values; tokens = v.tokens; holds = v.holds; count = v.count }

  pub name_there : (i : ℕ) → i < n → kind_byte records i ≡ kind_no Name → NameAt v.tokens i
  unfolding worded
  name_there i h e = word_at_lem worded i h e

  pub place_small : {i p : ℕ} → i < n → p ≡ place_cell records i → p ≤ 32768
  place_small h e = jump_place worded h e
