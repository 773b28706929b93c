-- The answer to a buffer, by its length and by its first word with a bit above its length.
-- Assumes nothing.
use Prim.Native.Nat.{ℕ, ◌*◌}
use mathlib.Core.Path.{◌≡◌}
use mathlib.Core.List.{List}
use mathlib.Core.Option.{none, some}
use borrow.Author.Tests.{eq-eqb, ne_eqb}
use lib.ListN.{length}
use Rattle.rules.specs.Declarations.{Table, total_words}
use Rattle.rules.specs.Answers.{refusal, word_lengths, run_on}
use Rattle.starts.specs.Starts.{Begins}
use Rattle.buffers.specs.Laws.Buffers.{words_cells}
use Rattle.starts.specs.Laws.Passing.{long_from}

module _ (ds : Table) (b : List ℕ) where
  pub other_length : (length b ≡ 8 * total_words ds → ⊥) → (budget : ℕ) → run_on ds b budget ≡ refusal 60 0
  unfolding run_on
  other_length n budget = rw (run_on, ne_eqb (length b) (8 * total_words ds) n)

  module _ (long : length b ≡ 8 * total_words ds) where
    pub long_refused : {o : ℕ} → long_from b 0 (word_lengths ds) (total_words ds) ≡ some o → (budget : ℕ) → run_on ds b budget ≡ refusal 61 o
    unfolding run_on
    long_refused e budget = rw (run_on, eq-eqb (length b) (8 * total_words ds) long, ← words_cells (total_words ds) b, e)

    pub none_long : long_from b 0 (word_lengths ds) (total_words ds) ≡ none → Begins ds b
    unfolding run_on
    none_long e = record {
      long = long;
      runs = λ budget. rw (run_on, eq-eqb (length b) (8 * total_words ds) long, ← words_cells (total_words ds) b, e);
    }
