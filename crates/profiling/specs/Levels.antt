-- What is known of all bodies down chains of activations of some length, and how one round goes one body further.
use Rattle.std.specs.Prelude.{ℕ, suc, ◌+◌, ◌*◌, ◌<◌, ◌≤◌, ◌≡◌, Bool, true, false, List, [], ◌∷◌, eqb, length, drop}
use Rattle.std.proofs.Math.Option.{some}
use Rattle.cells.specs.Cells.{cell}
use Rattle.rules.specs.Text.Tokens.{BEGIN, kind_no}
use Rattle.rules.specs.Text.Scan.{same_bytes}
use Rattle.rules.specs.Grammar.Trees.{Tokens}
use Rattle.rules.specs.Declarations.{Word, number_of}
use Rattle.rules.specs.Limits.{longest_chain}
use Rattle.paths.specs.Cited.Early.{body_early}
use Rattle.table.specs.Scans.{no}
use Rattle.reading.specs.Reading.{Kinded}
use Rattle.profiling.specs.Spelt.{SpeltDescription, whole}
use Rattle.nesting.specs.Holding.{bit, unseen}
use Rattle.room.specs.Profile.{room_size}
use Rattle.reading.specs.Indexes.{index_of}
use Rattle.profiling.specs.Walking.{Known}
use Rattle.profiling.specs.declared.tasks.Task.{Task}

-- the tokens from the first BEGIN on
unfoldable pub to_begin : Tokens → Tokens
to_begin [] = []
to_begin (t ∷ ts) = elim (eqb (no t) (kind_no BEGIN)) [ true ↦ t ∷ ts | false ↦ to_begin ts ]

-- the first BEGIN behind the name of a declaration is the token r
pub record BeginBehind (records : List ℕ) (n name r : ℕ) : Type 0 where
  pub low : r ≤ n
  pub past : name < r
  pub reads : (v : Kinded records n) → drop r v.tokens ≡ to_begin (drop (name + 1) v.tokens)

-- the test is what has the index aim
abbrev pub Aimed : {records decls : List ℕ} {m n : ℕ} → SpeltDescription records decls m n → Word → ℕ → Type 0
Aimed v test aim = (w : Word) → same_bytes w test ≡ eqb (index_of (whole v) w) aim

-- the table has what is known down chains of k bodies
abbrev pub Level : {records decls : List ℕ} {m n : ℕ} → SpeltDescription records decls m n → Word → ℕ → ℕ → List ℕ → Type 0
Level v test out k table = (w : Word) → Known table (index_of (whole v) w) (body_early (whole v) test out k w)

-- two cells of a table are put
pub record Put (old new : List ℕ) (k : ℕ) (ends : Bool) (low : ℕ) : Type 0 where
  pub size : length new ≡ length old
  pub ends_is : cell 2 new (2 * k) ≡ bit ends
  pub low_is : cell 2 new (2 * k + 1) ≡ low
  pub same : (j : ℕ) → (j ≡ 2 * k → ⊥) → (j ≡ 2 * k + 1 → ⊥) → cell 2 new j ≡ cell 2 old j

-- nothing is reached, of the first k
pub record Blank (old new : List ℕ) (k : ℕ) : Type 0 where
  pub size : length new ≡ length old
  pub ends : (j : ℕ) → j < k → cell 2 new (2 * j) ≡ 0
  pub low : (j : ℕ) → j < k → cell 2 new (2 * j + 1) ≡ unseen

pub record Levelled (records decls table next room : List ℕ) (t : Task) : Type 0 where
  pub written : SpeltDescription records decls t.m t.n
  pub test : Word
  pub aims : Aimed written test t.aim
  pub level : ℕ
  pub known : Level written test t.out level table
  pub output : t.out < 256
  pub table_room : 1028 ≤ length table
  pub next_room : 1028 ≤ length next
  pub space : room_size ≤ length room

-- the declaration k is walked
pub record PartAt (records decls table next room : List ℕ) (t : Task) (k : ℕ) : Type 0 where
  pub levelled : Levelled records decls table next room t
  pub within : k < t.m

pub record Part (records decls table old new : List ℕ) (t : Task) (k : ℕ) : Type 0 where
  pub size : length new ≡ length old
  pub same : (j : ℕ) → (j ≡ 2 * k → ⊥) → (j ≡ 2 * k + 1 → ⊥) → cell 2 new j ≡ cell 2 old j
  pub known : (v : SpeltDescription records decls t.m t.n) (test : Word) → Aimed v test t.aim → (l : ℕ) → Level v test t.out l table
      → (w : Word) → number_of (whole v) w ≡ some k → Known new k (body_early (whole v) test t.out (suc l) w)

pub record Rounded (records decls table new : List ℕ) (t : Task) : Type 0 where
  pub known : (v : SpeltDescription records decls t.m t.n) (test : Word) → Aimed v test t.aim → (l : ℕ) → Level v test t.out l table
      → Level v test t.out (suc l) new

-- before the first round
pub record Starting (records decls table next room : List ℕ) (t : Task) : Type 0 where
  pub written : SpeltDescription records decls t.m t.n
  pub test : Word
  pub aims : Aimed written test t.aim
  pub output : t.out < 256
  pub table_room : 1028 ≤ length table
  pub next_room : 1028 ≤ length next
  pub space : room_size ≤ length room

abbrev pub Known16 : List ℕ → List ℕ → List ℕ → Task → Type 0
Known16 records decls table t =
    (v : SpeltDescription records decls t.m t.n) (test : Word) → Aimed v test t.aim → Level v test t.out longest_chain table
