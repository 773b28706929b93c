-- `lexemes::words::word_code` meets its contract: the number so far is that of the bytes passed, which are the last ones.
-- Assumes nothing.
use mathlib.Core.Path.{◌≡◌}
use mathlib.Core.List.{List, map}
use Prim.Native.Nat.{ℕ, ◌-◌, ◌^◌, ◌<◌, ◌≤◌}
use lib.Seq.{slice}
use Rattle.rules.specs.Text.Bytes.{fold}
use Rattle.lexemes.specs.Codes.{word_code}
use Rattle.lexemes.proofs.words.word_code.Given as goal

pub record Inv (text : List ℕ) (at end code i : ℕ) : Type 0 where
  pub low : at ≤ i
  pub high : i ≤ end
  pub small : code < 64 ^ (end - i)
  pub so_far : code ≡ word_code (map fold (slice i end text))

abbrev pub invariant-loop-i : goal.invariant-loop-i
invariant-loop-i l = Inv l.text l.at l.end l.code l.i
