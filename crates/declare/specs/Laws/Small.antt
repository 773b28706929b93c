-- The k-th declaration of a table that is ready is lawful: few bits, and small names of words.
-- Assumes nothing.
use Rattle.std.specs.Prelude.{ℕ, ◌<◌, ◌≡◌, false, List}
use Rattle.cells.specs.Cells.{cell}
use Rattle.rules.specs.Grammar.Trees.{Tokens, Description}
use Rattle.rules.specs.Declarations.{declared_of, outer_name, declarations}
use Rattle.rules.specs.Faults.Declared.{large_bits, large_words}
use Rattle.table.specs.Ready.{Ready}
use Rattle.table.specs.Kth.{kth, kth_found}
use Rattle.table.specs.Laws.Kth.{kth_view}
use Rattle.declare.specs.Laws.Lawful.{both_false, lawful_large}
use Rattle.declare.specs.Listed.{SmallView}

module _ {text records values decls : List ℕ} {ts : Tokens} {d : Description} {m k : ℕ} (r : Ready text records values decls ts d m) (l : k < m) where
  few : (large_bits (declared_of (kth r l).declaration).bits ≡ false) × (large_words (declared_of (kth r l).declaration).words ≡ false)
  few =
      let x = declared_of (kth r l).declaration in
      both_false (large_bits x.bits) (large_words x.words) (lawful_large (outer_name d).word (declarations d) r.lawful k x (kth_found r l))

  pub few_bits : large_bits (declared_of (kth r l).declaration).bits ≡ false
  few_bits = few.0

  pub few_words : large_words (declared_of (kth r l).declaration).words ≡ false
  few_words = few.1

  pub small_there : {p : ℕ} → p ≡ cell 2 decls k → SmallView records values p
  small_there e = record { view = kth_view r l e; small = few_words }
