-- THE RESUME PROFILE: what is proved of it. Definitions: Paths.antt of `rules`. The analysis: Cited/Early.antt.
use Rattle.std.specs.Prelude.{ℕ, ◌≡◌, true, false, List, ◌↔◌}
use Rattle.std.proofs.Math.Option.{some}
use Rattle.rules.specs.Text.Scan.{scan}
use Rattle.rules.specs.Grammar.Trees.{Description, flatten}
use Rattle.rules.specs.Declarations.{Word, Table, declarations}
use Rattle.rules.specs.Steps.Evaluation.{Carriers}
use Rattle.rules.specs.Steps.Control.{Live, Mv, work}
use Rattle.rules.specs.Steps.Runs.{running, Steps, step, begin}
use Rattle.rules.specs.Whole.Sets.{member}
use Rattle.laws_orders.proofs.Orders.Orderly.{Orderly}
use Rattle.rules.specs.Faults.Whole.{main_name}
use Rattle.rules.specs.Answers.{Checks, accepted}
use Rattle.laws_orders.proofs.Orders.Owners.{owner_at}
use Rattle.laws_orders.proofs.Orders.Fields.{word}
use Rattle.rules.specs.Paths.{spot, Path, outset, Writes, TooEarly, storage_of, Profile, passes, Profiles, test_ended, ProfileAnswers}
use Rattle.paths.specs.Cited.Early.{early_places, profile}
use Rattle.paths.proofs.Texts.{answer}
use Rattle.paths.proofs.Sound as sound
use Rattle.paths.proofs.Exact as exact
use Rattle.paths.proofs.Verdict as verdict
use Rattle.paths.proofs.Runs as runs
use Rattle.paths.proofs.Kept as kept
use Rattle.paths.proofs.Kept.{carriers_in}
use Rattle.paths.proofs.Texts as texts

-- SOUND and EXACT: in an orderly description the analysis lists exactly the places of the transfers that some path reaches too early.
pub listed_exactly : (ds : Table) (test : Word) (output : ℕ) → Orderly ds → (p : ℕ) → (member p (early_places ds test output) ≡ true) ↔ TooEarly ds test output p
listed_exactly ds test output o p = (exact.exact ds test output p, sound.sound ds test output o p)

-- THE VERDICT: the one that is computed is one that the definitions allow, and they allow one.
pub profile_right : (ds : Table) (test output : Word) → Orderly ds → Profiles ds test output (profile ds test output)
profile_right = verdict.right

pub one_answer : (ds : Table) (test output : Word) {x y : Profile} → Profiles ds test output x → Profiles ds test output y → x ≡ y
one_answer = verdict.one_answer

-- RUNS: any single steps of any members, from any carriers, are a path, and an activation of the test has ended on it if it has in them.
pub runs_are_paths :
    (ds : Table) (test : Word) (n : ℕ) (s t : Carriers) (r : Live) (q : Steps ds n (begin ds (main_name ds) s) (running r t))
    → Path ds test n (outset ds (main_name ds)) (spot r (test_ended ds test n (begin ds (main_name ds) s) (running r t) q))
runs_are_paths = runs.runs_are_paths

-- Of a profile that passes, whatever steps have been taken in a run (q) and whichever member steps next (m):
module _ (ds : Table) (test output : Word) (accepts : Profiles ds test output passes) (o : ℕ) (its : storage_of ds output ≡ some o) where
  in_no_path : (p : ℕ) → ¬ TooEarly ds test o p
  in_no_path p w = verdict.accepted_none ds test output accepts o its p w

  module _ (s : Carriers) (n : ℕ) (r : Live) (t : Carriers) (q : Steps ds n (begin ds (main_name ds) s) (running r t)) (m : Mv r) where
    -- if that step is a transfer to the output, an activation of the test has ended before it;
    pub no_store_before : (p : ℕ) → Writes ds o (work r m) p → test_ended ds test n (begin ds (main_name ds) s) (running r t) q ≡ true
    no_store_before = runs.no_early_store ds test o in_no_path n s t r q m

    -- and if none has, each word of the output is behind that step what it was at the start.
    pub output_unchanged : test_ended ds test n (begin ds (main_name ds) s) (running r t) q ≡ false → (i : ℕ) → owner_at ds i ≡ o → word (carriers_in (step ds r m t)) i ≡ word s i
    output_unchanged h i own = kept.kept_through ds test o in_no_path s i own n r t q h m

-- TEXTS: a description that is accepted is orderly; and a text with two names has exactly one answer, which is computed.
pub accepted_is_orderly : (text : List ℕ) (n w : ℕ) → Checks text (accepted n w) → (d : Description) → flatten d ≡ (scan text).tokens → Orderly (declarations d)
accepted_is_orderly = texts.accepted_is_orderly

pub answered : (text test output : List ℕ) → ProfileAnswers text test output (answer text test output)
answered = texts.answered

pub only_answer : (text test output : List ℕ) {x y : Profile} → ProfileAnswers text test output x → ProfileAnswers text test output y → x ≡ y
only_answer = texts.only_answer
