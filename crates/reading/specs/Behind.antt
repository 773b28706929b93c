-- Where an action ends: at the first separator at its own depth.
use Rattle.std.specs.Prelude.{ℕ, ◌≤◌, ◌≡◌, List, drop}
use Rattle.rules.specs.Grammar.Trees.{Tokens}
use Rattle.table.specs.Scans.{scan}
use Rattle.reading.specs.Reading.{Kinded}

abbrev pub behind : ℕ → Tokens → Tokens
behind d ts = scan 0 d ts

-- from the token `at` on, outside of blocks, the search comes to the end of the action that begins at `from`
pub record ComesTo (records : List ℕ) (n from at : ℕ) : Type 0 where
  pub past : from ≤ at
  pub same : (v : Kinded records n) → behind 0 (drop at v.tokens) ≡ behind 0 (drop from v.tokens)
