-- The labels around an action as they stand in a buffer, and what is found there for a jump. Behind the labels stand hints, one for each spelling: of the
-- labels with a spelling none stands above the one that the hint leads to.
use Rattle.std.specs.Prelude.{ℕ, suc, ◌+◌, ◌*◌, ◌<◌, ◌≤◌, ◌≡◌, true, false, cond, List, eqb, length}
use Rattle.cells.specs.Cells.{cell}
use Rattle.rules.specs.Text.Scan.{same_bytes}
use Rattle.room.specs.Links.{hints_from, hint_cell, most_labels, hints_end}
use Rattle.rules.specs.Declarations.{Word}
use Rattle.laws_orders.specs.Cited.Flat.{Link, Labels, outer, bind}
use Rattle.records.specs.Holds.{link_cell}
use Rattle.records.specs.Words.{NameAt, word_at}
use Rattle.promise.specs.Instructions.{link_no}
use Rattle.ways.specs.Seeking.{Ground, Stands}

-- the label number j has this name, begins there and goes on there, and its hint leads to it or above it
pub record Labelled (labels : List ℕ) (g : Ground) (j : ℕ) (l : Word) (f : ℕ) (k : Link) : Type 0 where
  pub name : NameAt g.tokens (cell 2 labels (3 * j))
  pub word : word_at g.tokens (cell 2 labels (3 * j)) ≡ l
  pub first : cell 2 labels (3 * j + 1) ≡ f
  pub link : cell 2 labels (3 * j + 2) ≡ link_no k
  pub hint : j ≤ cell 2 labels (hint_cell (g.spelling (cell 2 labels (3 * j))))

-- n labels, the innermost last
abbrev pub LabelsHold : List ℕ → Ground → ℕ → Labels → Type 0
LabelsHold labels g n outer = n ≡ 0
LabelsHold labels g n (bind l f k ρ) = (m : ℕ) × (n ≡ suc m) × Labelled labels g m l f k × LabelsHold labels g m ρ

-- the first n labels are the same, and no hint leads below one of them where it did not before
pub record LabelsKept (old now : List ℕ) (n : ℕ) : Type 0 where
  pub long : length now ≡ length old
  pub each : (j : ℕ) → j < 3 * n → cell 2 now j ≡ cell 2 old j
  pub hints : (m c : ℕ) → m ≤ n → hints_from ≤ c → m ≤ cell 2 old c → m ≤ cell 2 now c

-- the entry of the label number n, and nothing else
pub record Entered (old now : List ℕ) (n p first link : ℕ) : Type 0 where
  pub long : length now ≡ length old
  pub others : (j : ℕ) → (3 * n ≤ j → j < 3 * n + 3 → ⊥) → cell 2 now j ≡ cell 2 old j
  pub is_name : cell 2 now (3 * n) ≡ p
  pub is_first : cell 2 now (3 * n + 1) ≡ first
  pub is_link : cell 2 now (3 * n + 2) ≡ link

-- its entry and its hint
pub record Pushed (records old now : List ℕ) (n p first link : ℕ) : Type 0 where
  pub kept : LabelsKept old now n
  pub is_name : cell 2 now (3 * n) ≡ p
  pub is_first : cell 2 now (3 * n + 1) ≡ first
  pub is_link : cell 2 now (3 * n + 2) ≡ link
  pub hint : cell 2 now (hint_cell (link_cell records p)) ≡ n

-- what a jump finds: the start of its label, or what is behind it
abbrev pub part : ℕ → ℕ → Link → ℕ
part p f k = elim (eqb p 1) [ true ↦ f | false ↦ link_no k ]

unfoldable pub aims : ℕ → Labels → Word → ℕ
aims p outer w = 0
aims p (bind l f k ρ) w = cond (same_bytes w l) (part p f k) (aims p ρ w)

-- the name of a jump is the token i, inside n labels
pub record JumpAt (g : Ground) (text records labels : List ℕ) (n i : ℕ) : Type 0 where
  pub same_text : g.text ≡ text
  pub holds : Stands g records
  pub around : Labels
  pub held : LabelsHold labels g n around
  pub few : n ≤ most_labels
  pub room : 2 * hints_end ≤ length labels
  pub name : NameAt g.tokens i
  pub spelled : link_cell records i ≡ g.spelling i

-- what a jump of the name i finds among the n labels, it finds among the first j
pub record Looking (text records labels : List ℕ) (n i j : ℕ) : Type 0 where
  pub within : j ≤ n
  pub left : (g : Ground) (v : JumpAt g text records labels n i)
      → (ρ : Labels) × LabelsHold labels g j ρ × ((p : ℕ) → aims p ρ (word_at g.tokens i) ≡ aims p v.around (word_at g.tokens i))
