-- Laws of `start`: no word before `at` is long, and the first k declarations have these words.
-- Assumes nothing.
use Prim.Native.Nat.{ℕ, suc, ◌+◌, ◌*◌, ◌<◌, ◌≤◌}
use mathlib.Core.Path.{◌≡◌, refl, sym, ap, ◌∙◌}
use mathlib.Core.List.{List, ◌∷◌}
use mathlib.Core.Option.{some}
use native.Mathlib.Omega.{arith}
use native.Mathlib.Numerals.{add-one}
use lib.ListN.{length, drop, drop_of_length-le, length-map}
use Rattle.cells.specs.Cells.{cell}
use Rattle.rules.specs.Grammar.Trees.{Tokens, Description}
use Rattle.rules.specs.Declarations.{declared_of, words_of, Table, declarations, outer_name, total_words}
use Rattle.rules.specs.Limits.{most_words}
use Rattle.rules.specs.Answers.{word_lengths, long_word}
use Rattle.table.specs.Declarations.{declaration_list, all_declared}
use Rattle.table.specs.Shown.{shown_bits}
use Rattle.table.specs.Views.{View}
use Rattle.table.specs.Ready.{Ready}
use Rattle.table.specs.declared.views.Names.{Names}
use Rattle.declare.specs.Laws.Lawful.{lawful_words}
use Rattle.spans.specs.Spans.{count_shown}
use Rattle.starts.specs.Starts.{Starts, begins, declines}
use Rattle.std.specs.Prelude.{Ok, Err}
use Rattle.rules.specs.Refusals.{refusal_at}
use Rattle.starts.specs.Sought.{Sought}
use Rattle.table.specs.Laws.Kth.{kth_view, kth_next}
use Rattle.starts.specs.Laws.Short.{short_there}
use Rattle.starts.specs.Laws.Passing.{long_from, declaration_passed, declaration_long}
use Rattle.starts.proofs.Answering.{other_length, long_refused, none_long}

-- the words of the first k declarations are the first `at`, and none of them is long
-- the declaration whose turn it is
record Here (records values : List ℕ) (ds : Table) (k p : ℕ) : Type 0 where
  pub view : View records values p
  pub next : drop k ds ≡ declared_of view.declaration ∷ drop (suc k) ds

abbrev here : {text records values decls : List ℕ} {ts : Tokens} {d : Description} {m k p : ℕ} → Ready text records values decls ts d m → k < m → p ≡ cell 2 decls k
    → Here records values (declarations d) k p
here r l e = record { view = kth_view r l e; next = kth_next r l }

pub record Passed (ds : Table) (b : List ℕ) (at k : ℕ) : Type 0 where
  pub words : at + total_words (drop k ds) ≡ total_words ds
  pub same : long_from b 0 (word_lengths ds) (total_words ds) ≡ long_from b (8 * at) (word_lengths (drop k ds)) (total_words (drop k ds))

module _ {records values b : List ℕ} {ds : Table} {at k p w n r : ℕ} {x : Names} (s : Passed ds b at k) (this : Here records values ds k p)
    (adds : (v : View records values p) → w ≡ words_of (declared_of v.declaration))
    (bits : (v : View records values p) → x ≡ shown_bits (declared_of v.declaration).bits) (count : n ≡ count_shown x) (found : Sought b at (at + w) n r) where
  length_here : count_shown (shown_bits (declared_of this.view.declaration).bits) ≡ n
  length_here = sym (count ∙ ap count_shown (bits this.view))

  end_here : at + w ≡ at + words_of (declared_of this.view.declaration)
  end_here = ap (λ (z : ℕ). at + z) (adds this.view)

  pass : at + w ≤ r → Passed ds b (at + w) (k + 1)
  unfolding total_words
  pass l = rw add-one (record {
    words = omega (arith, s.words, ap total_words this.next, adds this.view);
    same = s.same ∙ rw this.next (declaration_passed b (declared_of this.view.declaration) (drop (suc k) ds) length_here found end_here l);
  })

  stop : r < at + w → long_from b 0 (word_lengths ds) (total_words ds) ≡ some (8 * r)
  stop l = s.same ∙ rw this.next (declaration_long b (declared_of this.view.declaration) (drop (suc k) ds) length_here found end_here l)

-- the turns of the loop, whatever description is ready
pub record Walked (records values decls : List ℕ) (m : ℕ) (b : List ℕ) (at k : ℕ) : Type 0 where
  pub within : k ≤ m
  pub room : at ≤ most_words
  pub long : (text : List ℕ) (ts : Tokens) (d : Description) → Ready text records values decls ts d m → length b ≡ 8 * total_words (declarations d)
  pub passed : (text : List ℕ) (ts : Tokens) (d : Description) → Ready text records values decls ts d m → Passed (declarations d) b at k

module _ {records values decls : List ℕ} {m n : ℕ} (b : List ℕ)
    (total : ((text : List ℕ) (ts : Tokens) (d : Description) → Ready text records values decls ts d m → n ≡ total_words (declarations d)) × (n ≤ most_words)) where
  pub refused_60 : (length b ≡ 8 * n → ⊥) → (text : List ℕ) (ts : Tokens) (d : Description) → Ready text records values decls ts d m
      → Starts (declarations d) b (Err (refusal_at 60 0))
  refused_60 other text ts d r =
      declines record { refuses = other_length (declarations d) b (λ e. other (omega (arith, total.0 text ts d r))); near = omega arith }

  pub none_walked : length b ≡ 8 * n → Walked records values decls m b 0 0
  none_walked e = record {
    within = omega arith;
    room = omega arith;
    long = λ text ts d r. omega (arith, total.0 text ts d r);
    passed = λ text ts d r. record { words = omega arith; same = refl };
  }

module _ {records values decls : List ℕ} {m : ℕ} {b : List ℕ} {at k : ℕ} (walked : Walked records values decls m b at k) where
  pub all_walked : m ≤ k → (text : List ℕ) (ts : Tokens) (d : Description) → Ready text records values decls ts d m → Starts (declarations d) b (Ok tt)
  unfolding word_lengths long_word
  all_walked l text ts d r =
      let past : length (declarations d) ≤ k = omega (arith, ap length (all_declared d), length-map (declaration_list d) declared_of, r.count) in
      begins (none_long (declarations d) b (walked.long text ts d r) ((walked.passed text ts d r).same ∙ rw (drop_of_length-le (declarations d) past)))

  module _ {p w : ℕ} (l : k < m) (e : p ≡ cell 2 decls k) (adds : (v : View records values p) → w ≡ words_of (declared_of v.declaration)) where
    words_room : (text : List ℕ) (ts : Tokens) (d : Description) → Ready text records values decls ts d m → at + w ≤ total_words (declarations d)
    unfolding total_words
    words_room text ts d r =
        omega (arith, (walked.passed text ts d r).words, ap total_words (kth_next r l), adds (kth_view r l e))

    module _ {x : Names} (bits : (v : View records values p) → x ≡ shown_bits (declared_of v.declaration).bits) where
      pub to_seek : {last : ℕ} → last + 1 ≡ count_shown x → (text : List ℕ) × (ts : Tokens) × (d : Description) × Ready text records values decls ts d m
          → (at ≤ at + w) × (8 * (at + w) ≤ length b) × (last < 64)
      to_seek count (text, ts, d, r) = (omega arith, omega (arith, words_room text ts d r, walked.long text ts d r), short_there r l e bits count)

      module _ {n o : ℕ} (count : n ≡ count_shown x) (found : Sought b at (at + w) n o) where
        pub refused_61 : o < at + w → (text : List ℕ) (ts : Tokens) (d : Description) → Ready text records values decls ts d m
            → Starts (declarations d) b (Err (refusal_at 61 (8 * o)))
        refused_61 h text ts d r =
            declines record {
              refuses = long_refused (declarations d) b (walked.long text ts d r) (stop (walked.passed text ts d r) (here r l e) adds bits count found h);
              near = omega (arith, words_room text ts d r, lawful_words (outer_name d).word (declarations d) r.lawful);
            }

        pub walked_more : at + w ≤ o → (text : List ℕ) × (ts : Tokens) × (d : Description) × Ready text records values decls ts d m
            → Walked records values decls m b (at + w) (k + 1)
        walked_more h (text, ts, d, r) = record {
          within = omega arith;
          room = omega (arith, words_room text ts d r, lawful_words (outer_name d).word (declarations d) r.lawful);
          long = walked.long;
          passed = λ text ts d r. pass (walked.passed text ts d r) (here r l e) adds bits count found h;
        }
