-- The joint table of two descriptions: where the second one's words begin in it, its words in all, and the least 80.
use Rattle.std.specs.Prelude.{ℕ, ◌+◌, ◌*◌, ◌<◌, ◌≤◌, min, ◌≡◌, List, length, get_or, drop}
use Rattle.std.proofs.Math.Option.{Option, none, some}
use Rattle.cells.specs.Cells.{cell}
use Rattle.rules.specs.Declarations.{Table, total_words, first_word}
use Rattle.rules.specs.Limits.{most_words}
use Rattle.rules.specs.Faults.Fault.{fault}
use Rattle.rules.specs.Pair.{faults80, unshared, joint, first_words}
use Rattle.keys.specs.Keys.{no_key, key as key_of, least_key}
use Rattle.pair_tables.specs.Standing.{Stands, declared_by}
use Rattle.pair_tables.specs.declared.meeting.Met.{Met}
use Rattle.pair_tables.specs.declared.meeting.Met.TheVariants.{Own, Clashing, Shared}

-- the first words of the first text reach a declaration that is shared
abbrev pub Reaches : List ℕ → Met → Type 0
Reaches starts Own = Unit {0}
Reaches starts Clashing = Unit {0}
Reaches starts (Shared i) = 2 * i + 2 ≤ length starts

-- of a declaration, by what it shares: its first word when `free` words are taken, and the words that it adds
abbrev pub first_or : Table → Option ℕ → ℕ → ℕ
first_or first none free = free
first_or first (some i) free = first_word first i

abbrev pub adds_by : Option ℕ → ℕ → ℕ
adds_by none own = own
adds_by (some i) own = 0

-- by what it meets, as the code has it: its first word; the least key with its clash; the words that are taken behind it
abbrev pub first_by : List ℕ → Met → ℕ → ℕ
first_by starts Own free = free
first_by starts Clashing free = free
first_by starts (Shared i) free = cell 2 starts i

abbrev pub key_by : ℕ → Met → ℕ → ℕ
key_by place Own k = k
key_by place Clashing k = min k (key_of (fault 80 place))
key_by place (Shared i) k = k

abbrev pub free_by : Met → ℕ → ℕ → ℕ
free_by Own free words = free + words
free_by Clashing free words = free + words
free_by (Shared i) free words = free

-- the first k declarations of the second text are joined
pub record Joined (first second : Table) (firsts : List ℕ) (key free k : ℕ) : Type 0 where
  pub cells : (j : ℕ) → j < k → cell 2 firsts j ≡ get_or (first_words first (total_words first) second) j 0
  pub rest : drop k (first_words first (total_words first) second) ≡ first_words first free (drop k second)
  pub keys : min key (least_key (faults80 first (drop k second))) ≡ least_key (faults80 first second)
  pub words : free + total_words (unshared first (drop k second)) ≡ total_words (joint first second)

-- the loop: whatever descriptions stand in the two tables
pub record Joining (text₀ records₀ values₀ decls₀ : List ℕ) (m₀ : ℕ) (text₁ records₁ values₁ decls₁ : List ℕ) (m₁ : ℕ) (before firsts : List ℕ) (key free k : ℕ)
    : Type 0 where
  pub within : k ≤ m₁
  pub long : length firsts ≡ length before
  pub small : key ≤ no_key
  pub room : free ≤ 2 * most_words
  pub joined : (v : Stands text₀ records₀ values₀ decls₀ m₀) (w : Stands text₁ records₁ values₁ decls₁ m₁)
      → Joined (declared_by v) (declared_by w) firsts key free k

-- all of them are
pub record Joins (first second : Table) (firsts : List ℕ) (key total : ℕ) : Type 0 where
  pub cells : (k : ℕ) → k < length second → cell 2 firsts k ≡ get_or (first_words first (total_words first) second) k 0
  pub keys : key ≡ least_key (faults80 first second)
  pub words : total ≡ total_words (joint first second)
  pub few : total ≤ 2 * most_words
