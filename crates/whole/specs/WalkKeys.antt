-- The least key of a body, kept while it is walked. In the room stands first what is gathered of the bodies, then the labels and the frames.
use Rattle.std.specs.Prelude.{ℕ, ◌+◌, ◌-◌, ◌<◌, ◌≤◌, min, ◌≡◌, List, [], length, take, drop}
use Rattle.std.proofs.Math.Option.{none, some}
use Rattle.std.proofs.Math.ListN.{get_elem?}
use Rattle.room.specs.Whole.{labels_from, room_size}
use Rattle.rules.specs.Declarations.{Declared}
use Rattle.rules.specs.Faults.Whole.{Scope, body_groups}
use Rattle.records.specs.Holds.{kind_byte, token_at}
use Rattle.keys.specs.Keys.{least_number_key}
use Rattle.gathering.specs.Filling.{Complete}
use Rattle.scopes.specs.Walks.{walk, faults_at}
use Rattle.scopes.specs.Labels.{Labelled, Scoped}
use Rattle.scopes.specs.Frames.{Turned}
use Rattle.whole.specs.Written.{Written, whole}

abbrev pub memo_of : List ℕ → List ℕ
memo_of room = take labels_from room

abbrev pub labels_of : List ℕ → List ℕ
labels_of room = drop labels_from room

pub record Roomy (records decls room : List ℕ) (m n : ℕ) : Type 0 where
  pub complete : Complete records decls (memo_of room) m n
  pub size : room_size ≤ length room

-- what is gathered stays
pub record SameMemo (old new : List ℕ) : Type 0 where
  pub memo : memo_of new ≡ memo_of old
  pub size : length new ≡ length old

-- the key at one token, as far as it lowers the key that is known
pub record Faulty (text records decls room : List ℕ) (m n i kind top : ℕ) : Type 0 where
  pub written : Written text records decls m n
  pub roomy : Roomy records decls room m n
  pub labelled : Labelled records (labels_of room) n top
  pub within : i < n
  pub kind_is : kind ≡ kind_byte records i

pub record FaultKey (text records decls room : List ℕ) (m n i base top known r : ℕ) : Type 0 where
  pub key : (v : Written text records decls m n) (s : Scope) → Scoped v.tokens (labels_of room) base top s
      → min known r ≡ min known (least_number_key (faults_at (whole v) s (token_at v.tokens i) (drop (i + 1) v.tokens)))

-- behind one token
pub record TurnedIn (text records old new : List ℕ) (n i depth base top depth₁ base₁ top₁ : ℕ) : Type 0 where
  pub same : SameMemo old new
  pub turned : Turned text records (labels_of old) (labels_of new) n i depth base top depth₁ base₁ top₁

pub record Walked (text records decls old new : List ℕ) (m n from r : ℕ) : Type 0 where
  pub same : SameMemo old new
  pub least : (v : Written text records decls m n) → r ≡ least_number_key (walk (whole v) [] none (token_at v.tokens (from - 1)) (drop from v.tokens))

-- the body of the declaration k
pub record BodyKey (text records decls old new : List ℕ) (m n k r : ℕ) : Type 0 where
  pub same : SameMemo old new
  pub least : (v : Written text records decls m n) (d : Declared) → get_elem? (whole v) k ≡ some d → r ≡ least_number_key (body_groups (whole v) d.body)
