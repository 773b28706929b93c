-- Laws of the search for a word: it stays among the cells that are written, it finds again what it found, and it finds one node.
-- Assumes nothing.
use Prim.Native.Nat.{ℕ, zero, suc, ◌+◌, ◌*◌, ◌<◌, ◌≤◌}
use Rattle.std.specs.Prelude.{◌≡◌, List, length}
use Rattle.std.proofs.Math.Path.{refl, ap}
use Rattle.std.proofs.Common.{sym, ◌∙◌, arith}
use Rattle.std.proofs.Math.Decide.{dec_lt}
use Rattle.cells.specs.Cells.{cell}
use Rattle.rules.specs.Grammar.Trees.{Tokens}
use Rattle.records.specs.Words.{word_at}
use Rattle.spelling.specs.Trees.{child_cell, bit_of, cell_behind, node_behind, Passes, Finds}
use Rattle.room.specs.Spelling.{heads}
use Rattle.spelling.specs.Laws.Letters.{hash_small, bit_small}

module _ {room : List ℕ} {ts : Tokens} {i : ℕ} {w : List ℕ} {d : ℕ} (p : Passes room ts i w d) where
  pub cell_inside : (k : ℕ) → k ≤ d → cell_behind room w k < heads + 2 * i
  unfolding cell_behind
  cell_inside zero l = omega (arith, hash_small w (length w))
  cell_inside (suc k) l = omega (arith, p.before k (omega arith), bit_small w k)

-- while nodes are added, the cells that have one before i stay
pub record Keeps (old now : List ℕ) (i : ℕ) : Type 0 where
  pub kept : (c : ℕ) → c < heads + 2 * i → cell 2 old c < i → cell 2 now c ≡ cell 2 old c

-- the cells that the search reads stay while nodes are added
module _ {old now : List ℕ} {i : ℕ} (keeps : Keeps old now i) (next : ℕ) (further : i ≤ next) {ts : Tokens} {w : List ℕ} where
  module _ {d : ℕ} (p : Passes old ts i w d) where
    same_cell : (k : ℕ) → k ≤ d → cell_behind now w k ≡ cell_behind old w k
    unfolding cell_behind
    same_cell zero l = refl
    same_cell (suc k) l =
        ap (λ (x : ℕ). child_cell x (bit_of w k))
        (ap (cell 2 now) (same_cell k (omega arith)) ∙ keeps.kept (cell_behind old w k) (cell_inside p k (omega arith)) (p.before k (omega arith)))

    same_node : (k : ℕ) → k ≤ d → node_behind old w k < i → node_behind now w k ≡ node_behind old w k
    same_node k l b = ap (cell 2 now) (same_cell k l) ∙ keeps.kept (cell_behind old w k) (cell_inside p k l) b

    pub cell_kept : cell_behind now w d ≡ cell_behind old w d
    cell_kept = same_cell d (omega arith)

    pub passes_kept : Passes now ts next w d
    passes_kept = record {
      before = λ k l. let b = p.before k l in omega (arith, same_node k (omega arith) b);
      other = λ k l e. p.other k l (ap (word_at ts) (sym (same_node k (omega arith) (p.before k l))) ∙ e);
    }

  pub finds_kept : {x : ℕ} → Finds old ts i w x → Finds now ts next w x
  finds_kept f = record {
    depth = f.depth;
    passes = passes_kept f.passes;
    comes = same_node f.passes f.depth (omega arith) (omega (arith, f.comes, f.before)) ∙ f.comes;
    before = omega (arith, f.before);
  }

pub found_once : {room : List ℕ} {ts : Tokens} {i : ℕ} {w : List ℕ} {x y : ℕ} → Finds room ts i w x → Finds room ts i w y → word_at ts x ≡ w → word_at ts y ≡ w → x ≡ y
found_once {room} {ts} {i} {w} {x} {y} f g e h = by (dec_lt f.depth g.depth) (dec_lt g.depth f.depth)
  where
    by : Dec (f.depth < g.depth) → Dec (g.depth < f.depth) → x ≡ y
    by (yes l) _ = absurd (g.passes.other f.depth l (ap (word_at ts) f.comes ∙ e))
    by (no n) (yes l) = absurd (f.passes.other g.depth l (ap (word_at ts) g.comes ∙ h))
    by (no n) (no m) = let q : f.depth ≡ g.depth = omega arith in sym f.comes ∙ (ap (node_behind room w) q ∙ g.comes)
