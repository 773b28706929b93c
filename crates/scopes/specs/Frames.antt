-- The scopes around the open blocks. Of each the base and the top stand in two cells, downwards from `scopes_end`, far above the labels.
use Rattle.std.specs.Prelude.{ℕ, suc, ◌+◌, ◌-◌, ◌<◌, ◌≤◌, ◌≡◌, Bool, true, false, List, [], ◌∷◌, ◌++◌, length, drop}
use Rattle.cells.specs.Cells.{cell}
use Rattle.rules.specs.Text.Tokens.{END, kind_no}
use Rattle.rules.specs.Grammar.Trees.{Tokens}
use Rattle.rules.specs.Declarations.{Table}
use Rattle.rules.specs.Faults.Whole.{Scope}
use Rattle.rules.specs.Limits.{most_tokens}
use Rattle.records.specs.Holds.{kind_byte, token_at, Tabled}
use Rattle.reading.specs.Reading.{Kinded}
use Rattle.reading.specs.Groups.{more}
use Rattle.room.specs.Whole.{scope_cell, opened_cell, labels_size}
use Rattle.scopes.specs.Walks.{opens, walk, faults_at}
use Rattle.scopes.specs.Labels.{Labelled, Scoped}

-- the frames of the scopes around the open blocks, whose tops are at most limit
pub data Frames (ts : Tokens) (labels : List ℕ) : ℕ → ℕ → List Scope → Type 0 where
  no_frames : {limit : ℕ} → Frames ts labels 0 limit []
  frame : {depth limit base top : ℕ} {s : Scope} {σ : List Scope} → cell 2 labels (scope_cell (suc depth)) ≡ base → cell 2 labels (scope_cell (suc depth) + 1) ≡ top
      → top ≤ limit
      → base ≤ top + 1 → Scoped ts labels base top s → Frames ts labels depth top σ → Frames ts labels (suc depth) limit (s ∷ σ)

-- where a walk stands: in a scope, with the scopes around the open blocks
pub record Standing (ts : Tokens) (labels : List ℕ) (depth base top : ℕ) (σ : List Scope) (s : Scope) : Type 0 where
  pub scoped : Scoped ts labels base top s
  pub frames : Frames ts labels depth top σ

pub record Stack (records labels : List ℕ) (n base top : ℕ) : Type 0 where
  pub labelled : Labelled records labels n top
  pub edge : base ≤ top + 1
  pub space : labels_size ≤ length labels

-- a frame is pushed
pub record FramePushed (old new : List ℕ) (depth base top : ℕ) : Type 0 where
  pub base_there : cell 2 new (opened_cell depth) ≡ base
  pub top_there : cell 2 new (opened_cell depth + 1) ≡ top
  pub kept : (j : ℕ) → (j ≡ opened_cell depth → ⊥) → (j ≡ opened_cell depth + 1 → ⊥) → cell 2 new j ≡ cell 2 old j
  pub size : length new ≡ length old

-- the scope around the innermost open block, read from its frame
pub record Surrounding (labels : List ℕ) (depth limit base top : ℕ) : Type 0 where
  pub outermost : depth ≡ 0 → (base ≡ limit + 1) × (top ≡ limit)
  pub inside : (depth ≡ 0 → ⊥) → (base ≡ cell 2 labels (scope_cell depth)) × (top ≡ cell 2 labels (scope_cell depth + 1))

-- a scope without labels
pub record Fresh (depth top depth₁ base₁ top₁ : ℕ) : Type 0 where
  pub depth_is : depth₁ ≡ depth
  pub base_is : base₁ ≡ top
  pub top_is : top₁ ≡ top

-- whether the group that begins behind the token i, of this kind, has two members or more
pub record Told (records : List ℕ) (n i kind : ℕ) (several : Bool) : Type 0 where
  pub tells : (v : Kinded records n) → opens kind ≡ true → several ≡ more (drop (i + 1) v.tokens)

-- what a turn starts from: the token i, of this kind
pub record Turning (text records labels : List ℕ) (n i kind : ℕ) (several : Bool) (depth base top : ℕ) : Type 0 where
  pub worded : Tabled text records n
  pub scopes : List Scope
  pub scope : Scope
  pub standing : Standing worded.tokens labels depth base top scopes scope
  pub stack : Stack records labels n base top
  pub within : i < n
  pub later : 1 ≤ i
  pub few : top + depth < most_tokens
  pub kind_is : kind ≡ kind_byte records i
  pub inner : kind ≡ kind_no END → 2 ≤ depth
  pub told : Told records n i kind several

-- where a walk goes on behind the token i
pub record Onward (ds : Table) (ts : Tokens) (labels : List ℕ) (i depth base top : ℕ) (σ : List Scope) (s : Scope) : Type 0 where
  pub scopes : List Scope
  pub scope : Scope
  pub standing : Standing ts labels depth base top scopes scope
  pub walks : walk ds σ s (token_at ts (i - 1)) (drop i ts)
      ≡ faults_at ds s (token_at ts i) (drop (i + 1) ts) ++ walk ds scopes scope (token_at ts i) (drop (i + 1) ts)

pub record Turned (text records old new : List ℕ) (n i depth base top depth₁ base₁ top₁ : ℕ) : Type 0 where
  pub stack : Stack records new n base₁ top₁
  pub grown : top₁ + depth₁ ≤ top + depth + 1
  pub on : (ds : Table) (v : Tabled text records n) (σ : List Scope) (s : Scope) → Standing v.tokens old depth base top σ s
      → Onward ds v.tokens new i depth₁ base₁ top₁ σ s

-- a block is opened, and a group begins in it: of one member in the same scope, of more in a new one
abbrev pub GroupBase : Bool → ℕ → ℕ → ℕ → Type 0
GroupBase true base top r = r ≡ top
GroupBase false base top r = r ≡ base

pub record Opened (several : Bool) (old new : List ℕ) (depth base top depth₁ base₁ top₁ : ℕ) : Type 0 where
  pub pushed : FramePushed old new depth base top
  pub deeper : depth₁ ≡ depth + 1
  pub same : top₁ ≡ top
  pub scope : GroupBase several base top base₁

-- a group begins behind NEXT
abbrev pub NextGroup : Bool → List ℕ → ℕ → ℕ → ℕ → ℕ → Type 0
NextGroup true labels depth limit base top = (base ≡ limit) × (top ≡ limit)
NextGroup false labels depth limit base top = Surrounding labels depth limit base top

pub record Followed (several : Bool) (labels : List ℕ) (depth limit depth₁ base₁ top₁ : ℕ) : Type 0 where
  pub same : depth₁ ≡ depth
  pub group : NextGroup several labels depth limit base₁ top₁
