-- Where alternatives with selectors begin: in the cells of their level, one more at a time.
-- Assumes nothing.
use Rattle.std.specs.Prelude.{ℕ, ◌+◌, ◌*◌, ◌<◌, ◌≤◌, ◌≡◌, List, length}
use Rattle.std.proofs.Common.{arith, lt-ltb, le-ltb}
use Rattle.std.proofs.Math.Decide.{dec_lt}
use Rattle.cells.specs.Cells.{cell, put_cell}
use Rattle.cells.proofs.Laws.{le_put_same, le_put_below}
use Rattle.rules.specs.Limits.{longest_text, deepest}
use Rattle.rules.specs.Grammar.Trees.{Tokens}
use Rattle.records.specs.Holds.{token_at}
use Rattle.stacks.specs.Stacks.{Kept}
use Rattle.stacks.specs.Laws.Kept.{kept_put, kept_all}
use Rattle.patterns.specs.Stands.{ItemsAt}
use Rattle.room.specs.Bodies.{level_base}
use Rattle.choices.specs.Choices.{start_cell, with_start, compared}
use Rattle.actions.specs.Laws.Choices.{Choice, items_in, place_in}

-- WHERE THE ALTERNATIVES BEGIN
module _ (ts : Tokens) (depth : ℕ) (all : List Choice) where
  abbrev pub start_of : List ℕ → ℕ → ℕ
  start_of room j = cell 2 room (start_cell depth j)

  pub record Start (room : List ℕ) (j at : ℕ) : Type 0 where
    pub items : ItemsAt ts (start_of room j) (items_in all j)
    pub place : (token_at ts (start_of room j)).info.place ≡ place_in all j
    pub before : start_of room j < at

  pub record Starts (room : List ℕ) (number at : ℕ) : Type 0 where
    pub each : (j : ℕ) → j < compared number → Start room j at
    pub rising : (j k : ℕ) → j < k → k < compared number → start_of room j < start_of room k
    pub small : (j : ℕ) → j < number → place_in all j ≤ longest_text

  pub no_starts : (room : List ℕ) (at : ℕ) → Starts room 0 at
  no_starts room at = record { each = λ j l. absurd (omega arith); rising = λ j k m l. absurd (omega arith); small = λ j l. absurd (omega arith) }

  -- the cells of the level stay
  pub starts_kept : {room room' : List ℕ} {number at at' : ℕ} → ((j : ℕ) → j < compared number → start_of room' j ≡ start_of room j) → at ≤ at'
      → Starts room number at → Starts room' number at'
  starts_kept {room} {room'} {number} {at} {at'} same l s = record {
    each = λ j m. let x = s.each j m in record {
      items = rw (same j m) x.items;
      place = rw (same j m) x.place;
      before = rw (same j m) (let b = x.before in omega arith);
    };
    rising = λ j k m n. rw (same j (omega arith), same k n) (s.rising j k m n);
    small = s.small;
  }

  -- one alternative more, which begins at `at`
  module _ {room : List ℕ} {number at at' : ℕ} (s : Starts room number at) (large : 2 * level_base (depth + 1) ≤ length room) (fits : at < 65536) (less : at < at')
      (items : ItemsAt ts at (items_in all number)) (place : (token_at ts at).info.place ≡ place_in all number) (small : place_in all number ≤ longest_text) where
    small_more : (j : ℕ) → j < number + 1 → place_in all j ≤ longest_text
    small_more j l = by (dec_lt j number)
      where
        by : Dec (j < number) → place_in all j ≤ longest_text
        by (yes m) = s.small j m
        by (no m) = let e : j ≡ number = omega arith in rw e small

    -- among the first 64
    module _ (few : number < 64) where
      abbrev put : List ℕ
      put = put_cell 2 room (start_cell depth number) at

      put_there : start_of put number ≡ at
      put_there = le_put_same 2 room (2 * start_cell depth number) at (omega arith) fits

      put_other : (j : ℕ) → j < number → start_of put j ≡ start_of room j
      put_other j l = le_put_below 2 2 room (2 * start_cell depth number) at (2 * start_cell depth j) (omega arith)

      start_put : (j : ℕ) → j < compared (number + 1) → Start put j at'
      start_put j l = by (dec_lt j number)
        where
          by : Dec (j < number) → Start put j at'
          by (yes m) = let x = s.each j (omega arith) in record {
            items = rw (put_other j m) x.items;
            place = rw (put_other j m) x.place;
            before = rw (put_other j m) (let b = x.before in omega arith);
          }
          by (no m) = let e : j ≡ number = omega arith in rw e (record { items = rw put_there items; place = rw put_there place; before = rw put_there less })

      rising_put : (j k : ℕ) → j < k → k < compared (number + 1) → start_of put j < start_of put k
      rising_put j k m l = by (dec_lt k number)
        where
          by : Dec (k < number) → start_of put j < start_of put k
          by (yes n) = rw (put_other j (omega arith), put_other k n) (s.rising j k m (omega arith))
          by (no n) =
              let e : k ≡ number = omega arith in
              rw (e, put_there, put_other j (omega arith)) (s.each j (omega arith)).before

    pub start_more : Starts (with_start room depth number at) (number + 1) at'
    start_more = by (dec_lt number 64)
      where
        by : Dec (number < 64) → Starts (with_start room depth number at) (number + 1) at'
        by (yes few) = rw (with_start, lt-ltb number 64 few) (record { each = start_put few; rising = rising_put few; small = small_more })
        by (no many) =
            rw (with_start, le-ltb number 64 (omega arith))
            (record {
              each = λ j l. let x = s.each j (omega arith) in record { items = x.items; place = x.place; before = let b = x.before in omega arith };
              rising = λ j k m l. s.rising j k m (omega arith);
              small = small_more;
            })

-- keeping a start leaves the names and the higher levels alone
pub start_kept : {records : List ℕ} {count : ℕ} (room : List ℕ) (depth number at : ℕ) → count ≤ 8192 → depth + 1 ≤ deepest
    → Kept records count (level_base (depth + 1)) room (with_start room depth number at)
start_kept {records} {count} room depth number at l shallow = by (dec_lt number 64)
  where
    by : Dec (number < 64) → Kept records count (level_base (depth + 1)) room (with_start room depth number at)
    by (yes few) = rw (with_start, lt-ltb number 64 few) (kept_put room (start_cell depth number) at (omega arith) (omega arith) (omega arith))
    by (no many) = rw (with_start, le-ltb number 64 (omega arith)) (kept_all count (level_base (depth + 1)) room)
