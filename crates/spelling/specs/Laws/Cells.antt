-- Laws of cells of two bytes: a cell that was put is read back, and every other is unchanged.
-- Assumes nothing.
use Rattle.std.specs.Prelude.{ℕ, ◌+◌, ◌*◌, ◌<◌, ◌≤◌, ◌≡◌, List, length}
use Rattle.std.proofs.Common.{◌∙◌, arith}
use Rattle.std.proofs.Math.Decide.{dec_lt}
use Rattle.cells.specs.Cells.{cell, put_cell}
use Rattle.cells.proofs.Laws.{cell_same, cell_other}
use Rattle.spelling.specs.Trees.{no_node}
use Rattle.room.specs.Spelling.{heads}
use Rattle.spelling.specs.Spelling.{Cleared, Opened}

pub none_cleared : (room : List ℕ) (a : ℕ) → Cleared room a a
none_cleared room a = record { none = λ c l h. absurd (omega arith) }

-- one cell more
pub cleared_more : {room now : List ℕ} {a b : ℕ} → Cleared room a b → now ≡ put_cell 2 room b no_node → 2 * b + 2 ≤ length room → Cleared now a (b + 1)
cleared_more {room} {now} {a} {b} r e long = record { none = λ c l h. rw e (by c l h (dec_lt c b)) }
  where
    by : (c : ℕ) → a ≤ c → c < b + 1 → Dec (c < b) → cell 2 (put_cell 2 room b no_node) c ≡ no_node
    by c l h (yes y) = cell_other 2 room b no_node c (λ q. omega arith) ∙ r.none c l y
    by c l h (no n) = let q : c ≡ b = omega arith in rw q (cell_same 2 room b no_node long (omega arith))

pub opened : {old mid now : List ℕ} {i left : ℕ} → 2 * (heads + 2 * (i + 1)) ≤ length old → length mid ≡ length old → left ≡ heads + 2 * i
    → mid ≡ put_cell 2 old left no_node → now ≡ put_cell 2 mid (left + 1) no_node → Opened old now i
opened {old} {mid} {now} {i} {left} long same e f g = record {
  kept = λ c l. rw g (cell_other 2 mid (left + 1) no_node c (λ q. omega arith) ∙ rw f (cell_other 2 old left no_node c (λ q. omega arith)));
  cleared = record { none = λ c l h. both.none c (omega arith) (omega arith) };
}
  where
    both : Cleared now left (left + 1 + 1)
    both = cleared_more (cleared_more (none_cleared old left) f (omega arith)) g (omega arith)
