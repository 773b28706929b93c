-- Laws of 61 behind the first text's words: one declaration of the second text more.
-- Assumes nothing.
use Rattle.std.specs.Prelude.{ℕ, suc, ◌+◌, ◌*◌, ◌<◌, ◌≤◌, ◌≡◌, true, List, ◌∷◌, length, get_or, drop}
use Rattle.std.proofs.Math.Path.{refl}
use Rattle.std.proofs.Common.{sym, ap, ap₂, ◌∙◌, add-one, lt-ltb, le-ltb, drop_of_length-le}
use Rattle.std.proofs.Math.Option.{Option, none, some}
use native.Mathlib.Omega.{arith}
use Rattle.cells.specs.Cells.{cell}
use Rattle.rules.specs.Declarations.{Names as Span-of, BitNames, Target, how_many, storage_words, Declared, Table, declared_of, words_of, total_words, first_word}
use Rattle.rules.specs.Answers.{word_lengths, long_word}
use Rattle.rules.specs.Pair.{has_storage, is_storage_of, same_shape, same_storage, shared_with, unshared, joint, first_words}
use Rattle.laws_orders.proofs.Orders.Tests.{impossible}
use Rattle.laws_accepted.proofs.Accepted.Named.{and_both}
use Rattle.pairs.specs.Laws.Sharing.{found, first_fits}
use Rattle.table.specs.Shown.{shown_bits}
use Rattle.table.specs.Views.{View}
use Rattle.table.specs.Ready.{Scene, table_of}
use Rattle.table.specs.Kth.{kth}
use Rattle.table.specs.Laws.Kth.{table_length, kth_next, kth_view}
use Rattle.table.specs.declared.views.Names.{Names}
use Rattle.spans.specs.Spans.{count_shown}
use Rattle.starts.specs.Sought.{Sought}
use Rattle.starts.specs.Laws.Passing.{declaration_passed, declaration_long}
use Rattle.starts.specs.Laws.Short.{short_there}
use Rattle.std.specs.Prelude.{Ok, Err}
use Rattle.rules.specs.Refusals.{refusal_at}
use Rattle.pair_tables.specs.Joining.{first_or, adds_by}
use Rattle.pair_tables.specs.Lengths.{own_words, Carried, long_rest, long_behind, Fits, none_long, one_long, Judged, Judging}
use Rattle.pair_tables.specs.Laws.Joining.{firsts_on, words_on, element_at, elements_behind, joint_words}

-- storage has a word
some_word : (t : Option Target) (b : Option BitNames) (w : Option Span-of) → has_storage t b ≡ true → 1 ≤ storage_words t b w
unfolding storage_words how_many
some_word (some t) b w e = impossible (cc)
some_word none none w e = impossible (cc)
some_word none (some b) none e = omega arith
some_word none (some b) (some s) e = omega arith

-- so a shared declaration begins among the words of the first text
shared_front : (first : Table) (d : Declared) (i : ℕ) → shared_with first d ≡ some i → first_word first i < total_words first
shared_front first d i e =
    let f = found first d i e in
    let c = f.carrier in
    let s = (and_both (same_storage c d) (same_shape c d) f.same).0 in
    let stored = (and_both (is_storage_of c) _ s).0 in
    omega (arith, first_fits first i c f.declared, some_word c.target c.bits c.words stored)

module _ (first : Table) (d : Declared) (ds : Table) where
  adds_so : (free : ℕ) (o : Option ℕ) → shared_with first d ≡ o → total_words first ≤ free
      → own_words (total_words first) (first_or first o free) (words_of d) ≡ adds_by o (words_of d)
  adds_so free none e past = rw (own_words, le-ltb free (total_words first) past)
  adds_so free (some i) e past = rw (own_words, lt-ltb (first_word first i) (total_words first) (shared_front first d i e))

  module _ (b : List ℕ) {free n r : ℕ} (bits : count_shown (shown_bits d.bits) ≡ n) where
    long_passed : (o : Option ℕ) → shared_with first d ≡ o → Sought b free (free + adds_by o (words_of d)) n r → free + adds_by o (words_of d) ≤ r
        → long_rest first b free (d ∷ ds) ≡ long_rest first b (free + adds_by o (words_of d)) ds
    unfolding unshared
    long_passed none e s l = rw (unshared, e) (declaration_passed b d (unshared first ds) bits s refl l)
    long_passed (some i) e s l = let z : free + 0 ≡ free = omega arith in rw (unshared, e, z)

    long_here : (o : Option ℕ) → shared_with first d ≡ o → Sought b free (free + adds_by o (words_of d)) n r → r < free + adds_by o (words_of d)
        → long_rest first b free (d ∷ ds) ≡ some (8 * r)
    unfolding unshared
    long_here none e s l = rw (unshared, e) (declaration_long b d (unshared first ds) bits s refl l)
    long_here (some i) e s l = absurd (omega (arith, s.least))

-- one declaration more
module _ {first second : Table} {b : List ℕ} {free k own : ℕ} (s : Judged first second b free k) {d : Declared}
    (next : drop k second ≡ d ∷ drop (suc k) second)
    (adds : own ≡ own_words (total_words first) (get_or (first_words first (total_words first) second) k 0) (words_of d)) where
  opened : drop k (first_words first (total_words first) second)
      ≡ first_or first (shared_with first d) free ∷ first_words first (free + adds_by (shared_with first d) (words_of d)) (drop (suc k) second)
  opened = s.rest ∙ ap (first_words first free) next ∙ firsts_on first d (drop (suc k) second) free (shared_with first d) refl

  adds_is : own ≡ adds_by (shared_with first d) (words_of d)
  adds_is =
      adds
      ∙ ap (λ (x : ℕ). own_words (total_words first) x (words_of d))
      (element_at (first_words first (total_words first) second) k (first_or first (shared_with first d) free)
      (first_words first (free + adds_by (shared_with first d) (words_of d)) (drop (suc k) second)) opened)
      ∙ adds_so first d (drop (suc k) second) free (shared_with first d) refl s.past

  pub words_there : free + own + total_words (unshared first (drop (suc k) second)) ≡ total_words (joint first second)
  words_there =
      let w = words_on first d (drop (suc k) second) free (shared_with first d) refl in
      omega (arith, w, adds_is, s.words, ap (λ (ds : Table). total_words (unshared first ds)) next)

  module _ {n r : ℕ} (bits : count_shown (shown_bits d.bits) ≡ n) (found : Sought b free (free + own) n r) where
    sought : Sought b free (free + adds_by (shared_with first d) (words_of d)) n r
    sought = rw adds_is at found

    pub judged_more : free + own ≤ r → Judged first second b (free + own) (suc k)
    judged_more l = rw adds_is (record {
      rest = elements_behind (first_words first (total_words first) second) k (first_or first (shared_with first d) free)
          (first_words first (free + adds_by (shared_with first d) (words_of d)) (drop (suc k) second)) opened;
      words = rw adds_is at words_there;
      past = omega (arith, s.past);
      same =
          s.same
          ∙ ap (long_rest first b free) next
          ∙ long_passed first d (drop (suc k) second) b bits (shared_with first d) refl sought (rw adds_is at l);
    })

    pub judged_long : r < free + own → long_behind first second b ≡ some (8 * r)
    judged_long l =
        s.same
        ∙ ap (long_rest first b free) next
        ∙ long_here first d (drop (suc k) second) b bits (shared_with first d) refl sought (rw adds_is at l)

pub none_judged : (first second : Table) (b : List ℕ) → Judged first second b (total_words first) 0
none_judged first second b = record { rest = refl; words = sym (joint_words first second); past = omega arith; same = refl }

pub all_judged : {first second : Table} {b : List ℕ} {free k : ℕ} → Judged first second b free k → length second ≤ k → long_behind first second b ≡ none
unfolding unshared word_lengths long_word
all_judged {first} {second} {b} {free} s l =
    s.same
    ∙ ap (long_rest first b free) (drop_of_length-le second l)

-- the words that a declaration adds, by the test of its first word
module _ {words first : ℕ} (own : ℕ) where
  pub adds_none : first < words → 0 ≡ own_words words first own
  adds_none l = rw (own_words, lt-ltb first words l)

  pub adds_own : words ≤ first → own ≡ own_words words first own
  adds_own l = rw (own_words, le-ltb first words l)

-- the loop
module _ {records values decls : List ℕ} {m : ℕ} {firsts : List ℕ} {words : ℕ} {b : List ℕ} where
  pub none_judging : (first : Table) (w : Scene records values decls m) → Carried first (table_of w) firsts words b
      → Judging records values decls m firsts words b words 0
  none_judging first w h = record {
    within = omega arith;
    small = omega (arith, h.front, h.few, joint_words first (table_of w));
    judged = λ first w h. rw h.front (none_judged first (table_of w) b);
  }

  module _ {free k : ℕ} (s : Judging records values decls m firsts words b free k) where
    pub all_judging : m ≤ k → (first : Table) (w : Scene records values decls m) → Carried first (table_of w) firsts words b
        → Fits (long_behind first (table_of w) b) (Ok tt)
    all_judging l first w h = none_long (all_judged (s.judged first w h) (omega (arith, table_length w.ready)))

    module _ {p at own : ℕ} (l : k < m) (e : p ≡ cell 2 decls k) (there : at ≡ cell 2 firsts k)
        (adds : (v : View records values p) → own ≡ own_words words at (words_of (declared_of v.declaration))) where
      module _ (first : Table) (w : Scene records values decls m) (h : Carried first (table_of w) firsts words b) where
        adds_there : own
            ≡ own_words (total_words first) (get_or (first_words first (total_words first) (table_of w)) k 0) (words_of (declared_of (kth w.ready l).declaration))
        adds_there =
            adds (kth_view w.ready l e)
            ∙ ap₂ (λ (x y : ℕ). own_words x y (words_of (declared_of (kth w.ready l).declaration))) h.front
            (there ∙ h.cells k (omega (arith, table_length w.ready)))

        words_end : free + own ≤ total_words (joint first (table_of w))
        words_end = omega (arith, words_there (s.judged first w h) (kth_next w.ready l) adds_there)

      module _ {x : Names} (bits : (v : View records values p) → x ≡ shown_bits (declared_of v.declaration).bits) where
        pub to_seek : {last : ℕ} → last + 1 ≡ count_shown x → (first : Table) (w : Scene records values decls m) → Carried first (table_of w) firsts words b
            → (free ≤ free + own) × (8 * (free + own) ≤ length b) × (last < 64)
        to_seek count first w h =
            (omega arith, omega (arith, words_end first w h, h.long), short_there w.ready l e bits count)

        length_there : {n : ℕ} → n ≡ count_shown x → (w : Scene records values decls m)
            → count_shown (shown_bits (declared_of (kth w.ready l).declaration).bits) ≡ n
        length_there count w = sym (count ∙ ap count_shown (bits (kth_view w.ready l e)))

        module _ {n r : ℕ} (count : n ≡ count_shown x) (found : Sought b free (free + own) n r) where
          pub refused_61 : r < free + own → (first : Table) (w : Scene records values decls m) → Carried first (table_of w) firsts words b
              → Fits (long_behind first (table_of w) b) (Err (refusal_at 61 (8 * r)))
          refused_61 c first w h =
              one_long (judged_long (s.judged first w h) (kth_next w.ready l) (adds_there first w h) (length_there count w) found c)
              (omega (arith, words_end first w h, h.few))

          pub judging_more : free + own ≤ r → (first : Table) (w : Scene records values decls m) → Carried first (table_of w) firsts words b
              → Judging records values decls m firsts words b (free + own) (k + 1)
          judging_more c first w h = record {
            within = omega arith;
            small = omega (arith, words_end first w h, h.few);
            judged = λ first w h.
                rw add-one (judged_more (s.judged first w h) (kth_next w.ready l) (adds_there first w h) (length_there count w) found c);
          }
