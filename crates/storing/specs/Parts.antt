-- Parts that are stored and told.
use Rattle.std.specs.Prelude.{ℕ, zero, suc, ◌-◌, ◌≡◌, List, []}
use Rattle.cells.specs.Cells.{cell, cells}
use Rattle.rules.specs.Values.{field, cut}
use Rattle.rules.specs.Declarations.{total_words}
use Rattle.rules.specs.Stores as rules
use Rattle.rules.specs.Stores.{entries_of}
use Rattle.traces.specs.Cited.Events.{stores}
use Rattle.telling.specs.Cited.Tracing.{store_report, groups_of}
use Rattle.operands.specs.Cells.{cell_first, cell_low, cell_bits}
use Rattle.evaluation.specs.Stores.{sizes, Put, StoresAt, StoresAnswer}
use Rattle.listed.specs.declared.entries.Entry.{Entry}
use Rattle.matching.specs.Matching.{Matching, told, told_all, told_part}
use Rattle.matching.specs.Room.{matching_in, Stands}

-- one part of x is stored to the field f; its entry r has the place, the word, and what the word then holds
pub record PartPut (before after : List ℕ) (f rest x p : ℕ) (r : Entry) : Type 0 where
  pub put : Put before after (cell_first f) (cell_low f) (cell_bits f) (field (rest - cell_bits f) (cell_bits f) x)
  pub place : r.place ≡ p
  pub word : r.word ≡ cell_first f
  pub value : r.value ≡ cell 8 after (cell_first f)

-- the part k of a transfer: the first one, or one more of that which was told last
abbrev pub told_at : ℕ → rules.Entry → Matching → Matching
told_at zero y z = told (stores y []) z
told_at (suc k) y z = told_part y z

-- the stores of one transfer are told to the matching in the memory, or nothing where there are none
abbrev pub Tells : (l : List rules.Entry) (before after : List ℕ) → List rules.Entry → Type 0
Tells l before after es = Stands l after (told_all (groups_of (store_report es)) (matching_in l before))

-- all parts are stored, and their entries are told
abbrev pub StoresTold : {carriers scratch : List ℕ} {count bits : ℕ} → StoresAt carriers scratch count bits → ℕ → ℕ → List ℕ
    → List rules.Entry → List ℕ → List ℕ → Type 0
StoresTold {carriers} s x place after l room room' =
    StoresAnswer s x after
    × Tells l room room' (entries_of place (cells 8 (total_words s.table) carriers) s.fields (cut (sizes s.fields) x))
