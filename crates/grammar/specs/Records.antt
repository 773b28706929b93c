-- The token table's records, eight bytes each, and the recogniser's answer as the code gives it.
use Rattle.std.specs.Prelude.{◌≡◌, List, ℕ, ◌*◌, ◌≤◌, ◌<◌, length, get_or, ⊤, Result, Ok, Err}
use Rattle.rules.specs.Text.Tokens.{tk, Name, kind_no}
use Rattle.rules.specs.Grammar.Trees.{Tokens}
use Rattle.rules.specs.Grammar.Verdict.{any_info}
use Rattle.laws_grammar.specs.Cited.Answer.{Answer, accepted, refused20, refused21}
use Rattle.laws_grammar.specs.Cited.Rows.{recognise}
use Rattle.records.specs.Holds.{kind_byte}
use Rattle.grammar.specs.Entries.{kind_count}
use Rattle.grammar.specs.declared.Misplaced.{Misplaced}
use Rattle.grammar.specs.declared.Misplaced.TheVariants.{Unexpected, TooDeep}

-- n records, each with the number of a kind
pub record Records (bytes : List ℕ) (n : ℕ) : Type 0 where
  pub room : 8 * n ≤ length bytes
  pub small : (i : ℕ) → i < n → kind_byte bytes i < kind_count

-- the n records are those of the tokens ts, as far as the kinds go
pub record KindsStand (ts : Tokens) (bytes : List ℕ) (n : ℕ) : Type 0 where
  pub count : length ts ≡ n
  pub stand : (i : ℕ) → i < n → kind_byte bytes i ≡ kind_no (get_or ts i (tk Name any_info)).kind

abbrev pub answer_of : Answer → Result ⊤ Misplaced
answer_of accepted = Ok tt
answer_of (refused20 i) = Err (Unexpected i)
answer_of (refused21 i) = Err (TooDeep i)

-- r is the answer on whatever tokens have these records
abbrev pub Answers : List ℕ → ℕ → Result ⊤ Misplaced → Type 0
Answers bytes n r = (ts : Tokens) → KindsStand ts bytes n → r ≡ answer_of (recognise ts)
