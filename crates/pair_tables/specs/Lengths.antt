-- 61 of the joint table.
use Rattle.std.specs.Prelude.{ℕ, ◌+◌, ◌*◌, ◌<◌, ◌≤◌, ◌≡◌, true, false, List, ltb, length, get_or, drop, ⊤, Ok, Err}
use Rattle.std.proofs.Math.Option.{Option, none, some}
use Rattle.cells.specs.Cells.{cell}
use Rattle.rules.specs.Declarations.{Table, total_words}
use Rattle.rules.specs.Limits.{most_words}
use Rattle.rules.specs.Answers.{words_from, word_lengths, long_word}
use Rattle.rules.specs.Pair.{unshared, joint, first_words}
use Rattle.table.specs.Ready.{Scene, table_of}
use Rattle.starts.specs.Laws.Passing.{long_from}
use Rattle.rules.specs.Refusals.{refusal_at, OrRefused}

-- carriers of the joint table, and the first words of the second text's declarations in it
pub record Carried (first second : Table) (firsts : List ℕ) (words : ℕ) (carriers : List ℕ) : Type 0 where
  pub cells : (k : ℕ) → k < length second → cell 2 firsts k ≡ get_or (first_words first (total_words first) second) k 0
  pub room : 2 * length second ≤ length firsts
  pub front : words ≡ total_words first
  pub long : length carriers ≡ 8 * total_words (joint first second)
  pub few : total_words (joint first second) ≤ most_words

-- the words that a declaration adds to the table, by its first word there
abbrev pub own_words : ℕ → ℕ → ℕ → ℕ
own_words words first own = elim (ltb first words) [ true ↦ 0 | false ↦ own ]

-- the first long word of what these declarations do not share, whose words begin at `free`; of the second text's own; and of all
abbrev pub long_rest : Table → List ℕ → ℕ → Table → Option ℕ
long_rest first carriers free ds = long_from carriers (8 * free) (word_lengths (unshared first ds)) (total_words (unshared first ds))

abbrev pub long_behind : Table → Table → List ℕ → Option ℕ
long_behind first second carriers = long_rest first carriers (total_words first) second

abbrev pub long_joint : Table → Table → List ℕ → Option ℕ
long_joint first second carriers = long_word 0 (word_lengths (joint first second)) (words_from (total_words (joint first second)) carriers)

-- the answer, by the first long word
pub data Fits (long : Option ℕ) : OrRefused ⊤ → Type 0 where
  none_long : long ≡ none → Fits long (Ok tt)
  one_long : {place : ℕ} → long ≡ some place → place ≤ 8 * most_words → Fits long (Err (refusal_at 61 place))

-- the second text's own words of the first k declarations are judged, and end at `free`
pub record Judged (first second : Table) (carriers : List ℕ) (free k : ℕ) : Type 0 where
  pub rest : drop k (first_words first (total_words first) second) ≡ first_words first free (drop k second)
  pub words : free + total_words (unshared first (drop k second)) ≡ total_words (joint first second)
  pub past : total_words first ≤ free
  pub same : long_behind first second carriers ≡ long_rest first carriers free (drop k second)

-- the loop, whatever descriptions stand in the tables
pub record Judging (records values decls : List ℕ) (m : ℕ) (firsts : List ℕ) (words : ℕ) (carriers : List ℕ) (free k : ℕ) : Type 0 where
  pub within : k ≤ m
  pub small : free ≤ most_words
  pub judged : (first : Table) (w : Scene records values decls m) → Carried first (table_of w) firsts words carriers → Judged first (table_of w) carriers free k
