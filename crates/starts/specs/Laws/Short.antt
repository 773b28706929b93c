-- The k-th declaration of a ready table: its name is the token p, and neither its words nor its bits are too large.
-- Assumes nothing.
use Rattle.std.specs.Prelude.{ℕ, ◌+◌, ◌<◌, ◌≤◌, ◌≡◌, false, List, ltb}
use Rattle.std.proofs.Common.{ap, ◌∙◌, arith, ltb-false}
use Rattle.cells.specs.Cells.{cell}
use Rattle.rules.specs.Limits.{most_bits}
use Rattle.rules.specs.Grammar.Trees.{Tokens, Description}
use Rattle.rules.specs.Declarations.{names, how_many, declared_of}
use Rattle.rules.specs.Faults.Declared.{far_names}
use Rattle.table.specs.Shown.{shown_bits}
use Rattle.table.specs.Views.{View}
use Rattle.table.specs.Ready.{Ready}
use Rattle.table.specs.Laws.Kth.{kth_view}
use Rattle.table.specs.declared.views.Names.{Names}
use Rattle.table.specs.declared.views.Names.TheVariants.{Missing, Unnamed, Span}
use Rattle.declare.specs.Laws.Lawful.{both_false}
use Rattle.declare.specs.Laws.Small.{few_bits}
use Rattle.spans.specs.Spans.{large_shown, count_shown}
use Rattle.spans.specs.Laws.Spans.{large_shown_lem}

-- "over 64 bits" is refused
few_shown : (x : Names) → large_shown x ≡ false → count_shown x ≤ most_bits
few_shown Missing e = omega arith
few_shown Unnamed e = omega arith
few_shown (Span l r) e = ltb-false most_bits (how_many (names l r)) (both_false (ltb most_bits (how_many (names l r))) (far_names (names l r)) e).0

module _ {text records values decls : List ℕ} {ts : Tokens} {d : Description} {m k p : ℕ} (r : Ready text records values decls ts d m) (l : k < m)
    (e : p ≡ cell 2 decls k) where
  pub short_there : {x : Names} {last : ℕ} → ((v : View records values p) → x ≡ shown_bits (declared_of v.declaration).bits) → last + 1 ≡ count_shown x
      → last < 64
  short_there {x} bits count =
      let v = kth_view r l e in
      let large : large_shown x ≡ false = ap large_shown (bits v) ∙ large_shown_lem (declared_of v.declaration).bits ∙ few_bits r l in
      omega (arith, few_shown x large)
