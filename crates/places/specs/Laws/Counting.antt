-- Laws of the words of declarations, counted from the first: where each begins.
-- Assumes nothing.
use Rattle.std.specs.Prelude.{ℕ, zero, suc, ◌+◌, ◌*◌, ◌<◌, ◌≤◌, ◌≡◌, List, [], ◌∷◌, length, true, false, Option as Found, is_some}
use Rattle.std.proofs.Math.Path.{refl}
use Rattle.std.proofs.Common.{sym, ap, ◌∙◌, arith, add-one}
use Rattle.std.proofs.Math.Option.{Option, none, some}
use Rattle.std.proofs.Math.Decide.{dec_lt}
use Rattle.std.proofs.Math.ListN.{get_elem?}
use Rattle.cells.specs.Cells.{cell, put_cell}
use Rattle.cells.proofs.Laws.{length_put, le_put_same, le_put_below}
use Rattle.rules.specs.Declarations.{names, how_many, one_unnamed, these, Target, Declared, Table, declared_of, storage_words, words_of, total_words, first_word}
use Rattle.rules.specs.Limits.{most_words}
use Rattle.laws_orders.proofs.Orders.Tests.{impossible}
use Rattle.laws_accepted.proofs.Accepted.Declared.{few_words}
use Rattle.table.specs.Ready.{Scene, table_of}
use Rattle.table.specs.Shown.{shown_words, shown_bits}
use Rattle.table.specs.Views.{View, TargetAt}
use Rattle.table.specs.Laws.Views.{no_target, a_target}
use Rattle.table.specs.declared.views.Names.{Names}
use Rattle.table.specs.declared.views.Names.TheVariants.{Missing, Unnamed, Span}
use Rattle.places.specs.Laws.Scene.{lawful, declared_here, listed_here, view_here}
use Rattle.places.specs.Bases.{FirstsHold}
use Rattle.places.specs.Counting.{WordsIn, StorageIn}

module _ {words : Names} where
  pub words_missing : words ≡ Missing → WordsIn words 1
  unfolding storage_words
  words_missing m none b e h = refl
  words_missing m (some s) b e h = impossible (cc)

  pub words_unnamed : {n : ℕ} → words ≡ Unnamed → WordsIn words n
  words_unnamed m none b e h = impossible (cc)
  words_unnamed m (some s) b e h = impossible (cc)

  pub words_span : {l r n : ℕ} → words ≡ Span l r → (how_many (names l r) ≤ most_words → n ≡ how_many (names l r)) → WordsIn words n
  unfolding storage_words
  words_span m f none b e h = impossible (cc)
  words_span {l} {r} m f (some s) b e h =
      let p : l ≡ s.left = cc in
      let q : r ≡ s.right = cc in
      (rw (p, q) at f) h

module _ {own words : Names} where
  pub storage_missing : own ≡ Missing → StorageIn own words 0
  unfolding storage_words
  storage_missing m none w e f h = refl
  storage_missing m (some one_unnamed) w e f h = impossible (cc)
  storage_missing m (some (these s)) w e f h = impossible (cc)

  pub storage_unnamed : {n : ℕ} → own ≡ Unnamed → WordsIn words n → StorageIn own words n
  storage_unnamed m g none w e f h = impossible (cc)
  storage_unnamed m g (some b) w e f h = g w b f h

  pub storage_span : {l r n : ℕ} → own ≡ Span l r → WordsIn words n → StorageIn own words n
  storage_span m g none w e f h = impossible (cc)
  storage_span m g (some b) w e f h = g w b f h

-- a declaration whose name is the token p
module _ {records values : List ℕ} {p : ℕ} (t : Found ℕ)
    (target : (values : List ℕ) (u : View records values p) → TargetAt u.tokens t (declared_of u.declaration).target) where
  pub mapping_words : is_some t ≡ true → (v : View records values p) → words_of (declared_of v.declaration) ≤ most_words → 0 ≡ words_of (declared_of v.declaration)
  unfolding storage_words
  mapping_words z v h = rw (a_target v.tokens t (declared_of v.declaration).target (target values v) z).1

  pub carrier_words : is_some t ≡ false → {own words : Names} {n : ℕ} → ((u : View records values p) → own ≡ shown_bits (declared_of u.declaration).bits)
      → ((u : View records values p) → words ≡ shown_words (declared_of u.declaration).words) → StorageIn own words n
      → (v : View records values p) → words_of (declared_of v.declaration) ≤ most_words → n ≡ words_of (declared_of v.declaration)
  carrier_words z {own} {words} {n} bits named f v h =
      let e = no_target v.tokens t (declared_of v.declaration).target (target values v) z in
      rw e (f (declared_of v.declaration).bits (declared_of v.declaration).words (bits v) (named v) (rw e at h))

-- the words before the declarations go up by the words of each
pub first_none : (ds : Table) → first_word ds 0 ≡ 0
unfolding first_word
first_none [] = refl
first_none (d ∷ ds) = refl

first_next : (ds : Table) (k : ℕ) (d : Declared) → get_elem? ds k ≡ some d → first_word ds (suc k) ≡ first_word ds k + words_of d
unfolding first_word
first_next [] k d e = impossible (cc)
first_next (x ∷ ds) zero d e = let q : x ≡ d = cc in rw q (omega (arith, first_none ds))
first_next (x ∷ ds) (suc k) d e = omega (arith, first_next ds k d e)

pub first_within : (ds : Table) (k : ℕ) → first_word ds k ≤ total_words ds
unfolding first_word total_words
first_within [] k = omega arith
first_within (d ∷ ds) zero = omega arith
first_within (d ∷ ds) (suc k) = omega (arith, first_within ds k)

pub few_before : {records values decls : List ℕ} {m : ℕ} (s : Scene records values decls m) (k : ℕ) → first_word (table_of s) k ≤ most_words
few_before s k = omega (arith, first_within (table_of s) k, few_words (lawful s))

-- the first k declarations have theirs, and the next begins behind `total` words
pub record Counted (records values decls firsts : List ℕ) (m k total : ℕ) : Type 0 where
  pub within : k ≤ m
  pub room : 2 * m ≤ length firsts
  pub so_far : (s : Scene records values decls m) → total ≡ first_word (table_of s) k
  pub each : (s : Scene records values decls m) (j : ℕ) → j < k → cell 2 firsts j ≡ first_word (table_of s) j

module _ {records values decls firsts : List ℕ} {m k total : ℕ} (c : Counted records values decls firsts m k total) where
  pub few_so_far : Scene records values decls m → total ≤ most_words
  few_so_far s = omega (arith, c.so_far s, few_before s k)

  pub put_room : k < m → 2 * k + 2 ≤ length firsts
  put_room l = omega (arith, c.room)

  module _ (l : k < m) where
    next_total : (s : Scene records values decls m) {p w : ℕ} → p ≡ cell 2 decls k
        → ((v : View records values p) → words_of (declared_of v.declaration) ≤ most_words → w ≡ words_of (declared_of v.declaration))
        → total + w ≡ first_word (table_of s) (k + 1)
    next_total s e f =
        let n = first_next (table_of s) k (declared_here s l) (listed_here s l) in
        let q = few_before s (suc k) in
        let w = f (view_here s l e) (omega arith) in
        rw add-one (omega (arith, c.so_far s))

    pub counted_more : {now : List ℕ} {p w : ℕ} → Scene records values decls m → now ≡ put_cell 2 firsts k total → p ≡ cell 2 decls k
        → ((v : View records values p) → words_of (declared_of v.declaration) ≤ most_words → w ≡ words_of (declared_of v.declaration))
        → Counted records values decls now m (k + 1) (total + w)
    counted_more {now} s₀ put e f = record {
      within = omega arith;
      room = omega (arith, ap length put, length_put 2 firsts (2 * k) total, c.room);
      so_far = λ s. next_total s e f;
      each = λ s j h. by s j h (dec_lt j k);
    }
      where
        by : (s : Scene records values decls m) (j : ℕ) → j < k + 1 → Dec (j < k) → cell 2 now j ≡ first_word (table_of s) j
        by s j h (yes y) = ap (λ (b : List ℕ). cell 2 b j) put ∙ (le_put_below 2 2 firsts (2 * k) total (2 * j) (omega arith) ∙ c.each s j y)
        by s j h (no n) =
            let q : j ≡ k = omega arith in
            rw q (ap (λ (b : List ℕ). cell 2 b k) put ∙ (le_put_same 2 firsts (2 * k) total (omega (arith, put_room l)) (omega (arith, few_so_far s)) ∙ c.so_far s))

  pub all_counted : m ≤ k → (s : Scene records values decls m) → FirstsHold firsts (table_of s) m
  all_counted h s = record { room = c.room; each = λ j l. c.each s j (omega arith) }

pub none_counted : {records values decls firsts : List ℕ} {m : ℕ} → 2 * m ≤ length firsts → Counted records values decls firsts m 0 0
none_counted r = record { within = omega arith; room = r; so_far = λ s. sym (first_none (table_of s)); each = λ s j h. absurd (omega arith) }
