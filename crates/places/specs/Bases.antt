-- What declarations reach, against the rules: storage reaches itself, and a mapping the carrier under it.
use Rattle.std.specs.Prelude.{ℕ, ◌+◌, ◌*◌, ◌<◌, ◌≤◌, ◌≡◌, List, length}
use Rattle.std.proofs.Math.Option.{some}
use Rattle.std.proofs.Math.ListN.{get_elem?}
use Rattle.cells.specs.Cells.{cell}
use Rattle.rules.specs.Grammar.Trees.{Bits}
use Rattle.rules.specs.Declarations.{BitNames, low_bit, main_names, Target, Declared, Table, declared_of, number_of, first_word, Reach, access_low, access_bits}
use Rattle.rules.specs.Limits.{most_bits}
use Rattle.table.specs.Ready.{Scene, table_of}
use Rattle.table.specs.Bits.{access_bits as written_bits}
use Rattle.table.specs.Shown.{shown_bits, shown_target}
use Rattle.table.specs.Views.{View, TargetStands}
use Rattle.table.specs.declared.views.Names.{Names}
use Rattle.promise.specs.Accesses.{left_name, right_name, access_cell}
use Rattle.places.specs.declared.bases.Base.{Base}
use Rattle.places.specs.declared.bases.Lies.{Lies}

pub record BaseShows (b : Base) (r : Reach) : Type 0 where
  pub first : b.first ≡ r.first
  pub left : b.left ≡ left_name r.words
  pub right : b.right ≡ right_name r.words
  pub low : b.low ≡ r.low
  pub own : b.own ≡ shown_bits (some r.bits)

-- the numbers of an access are small
pub record Small (r : Reach) (b : Bits) : Type 0 where
  pub first : r.first < 65536
  pub left : left_name r.words < 65536
  pub right : right_name r.words < 65536
  pub fits : access_low r b + access_bits r b ≤ most_bits

abbrev pub CellShows : Base → Names → ℕ → Type 0
CellShows base given c = (r : Reach) (b : Bits) → BaseShows base r → given ≡ shown_bits (main_names (written_bits b)) → Small r b → c ≡ access_cell r b

-- the first words of m declarations
pub record FirstsHold (firsts : List ℕ) (ds : Table) (m : ℕ) : Type 0 where
  pub room : 2 * m ≤ length firsts
  pub each : (k : ℕ) → k < m → cell 2 firsts k ≡ first_word ds k

pub record BaseAt (records values decls firsts : List ℕ) (m k : ℕ) : Type 0 where
  pub scene : Scene records values decls m
  pub hold : FirstsHold firsts (table_of scene) m
  pub below : k < m

abbrev pub LowUnder : Names → Names → ℕ → Type 0
LowUnder own on d = (b : BitNames) (t : Target) → own ≡ shown_bits (some b) → on ≡ shown_target (some t) → d ≡ low_bit b t.bits

-- a mapping's name is the token p, and its target's the token t
pub record MappingAt (records values decls firsts : List ℕ) (m p t : ℕ) : Type 0 where
  pub scene : Scene records values decls m
  pub hold : FirstsHold firsts (table_of scene) m
  pub view : View records values p
  pub target : Target
  pub is : (declared_of view.declaration).target ≡ some target
  pub stands : TargetStands scene.tokens t target

-- the number of the declaration under it, and its bits
abbrev pub LiesShown : {records values decls firsts : List ℕ} {m p t : ℕ} → MappingAt records values decls firsts m p t → Lies → Type 0
LiesShown v l =
    (k : ℕ) (d : Declared) (b : BitNames) → number_of (table_of v.scene) v.target.name.word ≡ some k → get_elem? (table_of v.scene) k ≡ some d
    → d.bits ≡ some b → (l.first ≡ first_word (table_of v.scene) k) × (l.low ≡ low_bit b v.target.bits)
