-- THE RESUME PROFILE, about the public call. `ProfileCall` (Calls/ of the crate `rules`) is the contract of `isps_profile` in src/lib.rt, which has no hypotheses. All words are
-- those of the crate `rules`: Paths.antt has paths, what is too early, and when an activation of the test has ended; Late.antt has `StoresLate`.
use Rattle.std.specs.Prelude.{ℕ, ◌+◌, ◌<◌, ◌≤◌, ◌≡◌, false, List, ◌↔◌, length, get_or, drop}
use Rattle.std.proofs.Math.Option.{none, some}
use Rattle.std.proofs.Math.ListN.{get_elem?}
use Rattle.rules.specs.Limits.{longest_text}
use Rattle.rules.specs.Text.Scan.{scan}
use Rattle.rules.specs.Grammar.Trees.{Description, flatten}
use Rattle.rules.specs.Declarations.{Declared, Table, declarations, body_of, words_of, first_word}
use Rattle.rules.specs.Steps.Evaluation.{Carriers}
use Rattle.rules.specs.Steps.Runs.{Conf, Steps, begin}
use Rattle.rules.specs.Faults.Whole.{main_name}
use Rattle.rules.specs.Answers.{Lawful, little_endian, refused_numbers}
use Rattle.rules.specs.Agreement.{ending_in, carriers_at}
use Rattle.rules.specs.Paths.{TooEarly, storage_of, folded, test_ended}
use Rattle.rules.specs.Calls.Memory.{Memory, Enough, answered}
use Rattle.rules.specs.Calls.Profile.{ProfileCall}
use Rattle.rules.specs.Late.{StoresLate}
use Rattle.isps.specs.Laws.Profile as laws

-- SETTLED: number, answer and work memory: two results that the contract allows are the same.
pub profile_settled : {text test output : List ℕ} {before after after' : Memory} {n n' : ℕ} → ProfileCall text test output before after n
    → ProfileCall text test output before after' n' → (n ≡ n') × (after ≡ after')
profile_settled = laws.one_profile

-- EXACT, for a text that the rules allow, a test that is a body and an output that is a storage carrier
module _ {text test output : List ℕ} {before after : Memory} {n : ℕ} (call : ProfileCall text test output before after n) (enough : Enough before)
    (short : length text ≤ longest_text) {m w : ℕ} (lawful : Lawful text m w) where
  abbrev ds : Table
  ds = declarations lawful.description

  module _ (body : ¬ (body_of ds (folded test) ≡ none)) (o : ℕ) (storage : storage_of ds (folded output) ≡ some o) where
    -- p is the lowest place at which a path writes the output too early
    abbrev Lowest : ℕ → Type 0
    Lowest p = TooEarly ds (folded test) o p × ((q : ℕ) → TooEarly ds (folded test) o q → p ≤ q)

    -- It passes exactly when no path writes the output too early,
    pub passes_exactly : (ending_in after.answer ≡ 0) ↔ ((p : ℕ) → ¬ TooEarly ds (folded test) o p)
    passes_exactly = laws.passes_exactly call enough short lawful body o storage

    pub passes_exactly_number : (n ≡ 0) ↔ ((p : ℕ) → ¬ TooEarly ds (folded test) o p)
    passes_exactly_number = laws.passes_exactly_number call enough short lawful body o storage

    -- it is refused with 92, and p is the third number of its answer, exactly when p is the lowest place at which some path does;
    pub fails_exactly : (p : ℕ) → ((n ≡ 92) × (little_endian 4 (drop 8 after.answer) ≡ p)) ↔ Lowest p
    fails_exactly = laws.fails_exactly call enough short lawful body o storage

    -- then all numbers of its answer are those of that refusal.
    pub fails_there : (p : ℕ) → Lowest p → after.answer ≡ answered (refused_numbers text 92 p) before.answer
    fails_there = laws.fails_there call enough short lawful body o storage

  -- 90 exactly when the test is no body, 91 exactly when it is one and the output is no storage carrier
  pub no_test_exactly : (n ≡ 90) ↔ (body_of ds (folded test) ≡ none)
  no_test_exactly = laws.no_test_exactly call enough short lawful

  pub no_output_exactly : (n ≡ 91) ↔ ((¬ (body_of ds (folded test) ≡ none)) × (storage_of ds (folded output) ≡ none))
  no_output_exactly = laws.no_output_exactly call enough short lawful

-- RUNS of a profile that passes: k steps of single members, in any order, from any carriers s, have come to e, which may be an end of any kind.
module _ {text test output : List ℕ} {before after : Memory} {n : ℕ} (call : ProfileCall text test output before after n) (enough : Enough before)
    (short : length text ≤ longest_text) (passed : n ≡ 0) where
  -- The text is one that the rules allow, the test is a body of its description and the output a storage carrier.
  pub passed_lawful : (m : ℕ) × (w : ℕ) × (l : Lawful text m w) × (¬ (body_of (declarations l.description) (folded test) ≡ none))
      × ((o : ℕ) × storage_of (declarations l.description) (folded output) ≡ some o)
  passed_lawful = let g = laws.passed_lawful call enough short passed in (g.0, g.1, g.2, g.3.0, g.3.1)

  module _ (d : Description) (stands : flatten d ≡ (scan text).tokens) (o : ℕ) (storage : storage_of (declarations d) (folded output) ≡ some o) where
    abbrev table : Table
    table = declarations d

    module _ (s : Carriers) (k : ℕ) (e : Conf) (q : Steps table k (begin table (main_name table) s) e) where
      -- Every step so far that stored to the output came after some activation of the test had ended,
      pub every_store_late : StoresLate table (folded test) o false k (begin table (main_name table) s) e q
      every_store_late = laws.every_store_late call enough short passed d stands o storage s k e q

      -- and as long as none has ended, each word of the output is what it was.
      pub output_unchanged : test_ended table (folded test) k (begin table (main_name table) s) e q ≡ false → (x : Declared) → get_elem? table o ≡ some x → (j : ℕ) → j < words_of x
          → get_or (carriers_at e) (first_word table o + j) 0 ≡ get_or s (first_word table o + j) 0
      output_unchanged = laws.output_unchanged call enough short passed d stands o storage s k e q
