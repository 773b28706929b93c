-- Laws of the lines of declarations one after the other.
-- Assumes nothing.
use Prim.Native.Nat.{ℕ, ◌+◌, ◌*◌, ◌<◌, ◌≤◌}
use mathlib.Core.Path.{◌≡◌, refl, ap, ◌∙◌}
use mathlib.Core.List.{List}
use native.Mathlib.Omega.{arith}
use native.Mathlib.Numerals.{add-one}
use lib.ListN.{length, drop, drop_of_length-le, length-map}
use Rattle.cells.specs.Cells.{cell}
use Rattle.rules.specs.Grammar.Trees.{Tokens, Description}
use Rattle.rules.specs.Declarations.{declared_of, outer_name, Table, declarations, words_of, total_words}
use Rattle.rules.specs.Limits.{most_words}
use Rattle.table.specs.Declarations.{declaration_list, all_declared}
use Rattle.table.specs.Views.{View}
use Rattle.table.specs.Ready.{Ready}
use Rattle.table.specs.Laws.Kth.{kth_next, kth_view}
use Rattle.declare.specs.Laws.Lawful.{lawful_words}
use Rattle.declare.specs.Laws.Small.{few_words}
use Rattle.lines.specs.Appended.{Appended}
use Rattle.lines.specs.Laws.Appended.{Left, all_left, less_left, none_left}
use Rattle.listing.specs.Standing.{Stands, Counted}
use Rattle.listing.specs.Listing.{declaration_lines, table_lines}
use Rattle.listing.proofs.Storage.{view_of}

-- of the lines of a table, those of the first k declarations with their w words are appended
pub record Rest (before now : List ℕ) (start at : ℕ) (carriers : List ℕ) (ds : Table) (w k : ℕ) : Type 0 where
  pub words : w + total_words (drop k ds) ≡ total_words ds
  pub lines : Left before now start at (table_lines carriers 0 ds) (table_lines carriers w (drop k ds))

pub record ListedTo (text records values decls carriers before now : List ℕ) (m start at w k : ℕ) : Type 0 where
  pub within : k ≤ m
  pub reach : at ≤ start + 128 * w
  pub room : length now ≡ length before
  pub rest : (ts : Tokens) (d : Description) → Ready text records values decls ts d m → Rest before now start at carriers (declarations d) w k

pub none_listed : {text records values decls carriers buffer : List ℕ} {m at : ℕ} → ListedTo text records values decls carriers buffer buffer m at at 0 0
none_listed = record {
  within = omega arith;
  reach = omega arith;
  room = refl;
  rest = λ ts d r. record { words = omega arith; lines = all_left };
}

-- the k-th declaration
module _ {text records values decls : List ℕ} {ts : Tokens} {d : Description} {m k : ℕ} (r : Ready text records values decls ts d m) (l : k < m) where
  module _ {p : ℕ} (e : p ≡ cell 2 decls k) where
    abbrev there : Stands text records values p
    there =
        let v = kth_view r l e in
        record { tokens = ts; holds = r.holds; declaration = v.declaration; stands = v.stands; small = few_words r l }

    counted_there : {n : ℕ} → ((v : View records values p) → n ≡ words_of (declared_of v.declaration)) → Counted text records values p n
    counted_there adds = record { stands = there; words = λ v. adds (view_of v) }

    -- with its words the total does not pass the limit
    total_there : {n : ℕ} (w : ℕ) → ((v : View records values p) → n ≡ words_of (declared_of v.declaration))
        → w + total_words (drop k (declarations d)) ≡ total_words (declarations d) → w + n ≤ most_words
    unfolding total_words
    total_there w adds sum =
        omega (arith, ap total_words (kth_next r l), adds (view_of there), sum, lawful_words (outer_name d).word (declarations d) r.lawful)

    rest_there : {before now after : List ℕ} {start at s w n : ℕ} (carriers : List ℕ) → ((v : View records values p) → n ≡ words_of (declared_of v.declaration))
        → Rest before now start at carriers (declarations d) w k
        → ((v : Stands text records values p) → Appended now after at s (declaration_lines carriers w (declared_of v.declaration)))
        → Rest before after start s carriers (declarations d) (w + n) (k + 1)
    unfolding total_words table_lines
    rest_there {n = n} carriers adds q h = record {
      words = rw add-one (omega (arith, ap total_words (kth_next r l), adds (view_of there), q.words));
      lines = rw (add-one, adds (view_of there)) (less_left (rw (kth_next r l, table_lines) at q.lines) (h there));
    }

-- a declaration more
module _ {text records values decls carriers before now : List ℕ} {m start at w k p n : ℕ}
    (q : ListedTo text records values decls carriers before now m start at w k) (l : k < m) (e : p ≡ cell 2 decls k)
    (adds : (v : View records values p) → n ≡ words_of (declared_of v.declaration))
    (ready : (ts : Tokens) × (d : Description) × Ready text records values decls ts d m) where
  pub words_fit : w + n ≤ most_words
  words_fit = total_there ready.2 l e w adds (q.rest ready.0 ready.1 ready.2).words

  pub room_there : (start + 128 * most_words ≤ length before) × (8 * most_words ≤ length carriers)
      → Counted text records values p n × ((at + 128 * n ≤ length now) × (8 * (w + n) ≤ length carriers))
  room_there (x, y) = (counted_there ready.2 l e adds, (omega (arith, words_fit, q.reach, q.room), omega (arith, words_fit)))

  pub more_listed : {after : List ℕ} {s : ℕ}
      → ((v : Stands text records values p) → Appended now after at s (declaration_lines carriers w (declared_of v.declaration))) × (s ≤ at + 128 * n)
      → ListedTo text records values decls carriers before after m start s (w + n) (k + 1)
  more_listed (h, z) = record {
    within = omega arith;
    reach = omega (arith, q.reach);
    room = (h (there ready.2 l e)).room ∙ q.room;
    rest = λ ts d r. rest_there r l e carriers adds (q.rest ts d r) h;
  }

pub all_listed : {text records values decls carriers before now : List ℕ} {m start at w k : ℕ}
    → ListedTo text records values decls carriers before now m start at w k → m ≤ k → (ready : (ts : Tokens) × (d : Description) × Ready text records values decls ts d m)
    → ((ts : Tokens) (d : Description) → Ready text records values decls ts d m → Appended before now start at (table_lines carriers 0 (declarations d))) × (at ≤ start + 128 * most_words)
unfolding table_lines
all_listed {w = w} {k} q l ready = (
  λ ts d r.
      let long : length (declarations d) ≤ k = omega (arith, ap length (all_declared d), length-map (declaration_list d) declared_of, r.count) in
      none_left (rw (drop_of_length-le (declarations d) long, table_lines) at (q.rest ts d r).lines),
  omega (arith, q.reach, (q.rest ready.0 ready.1 ready.2).words, lawful_words (outer_name ready.1).word (declarations ready.1) ready.2.lawful),
)
