-- Laws of what a profile comes to, up to the whole call.
-- Assumes nothing.
use Rattle.std.specs.Prelude.{ℕ, ◌<◌, ◌≤◌, ◌≡◌, cond, List, [], ◌∷◌, ltb, length, Option as Found, Some, None}
use Rattle.std.proofs.Math.Path.{refl, ap}
use Rattle.std.proofs.Common.{sym, ◌∙◌, arith, lt-ltb, le-ltb}
use Rattle.std.proofs.Math.Option.{Option, none, some}
use Rattle.rules.specs.Limits.{longest_text}
use Rattle.rules.specs.Grammar.Trees.{Action}
use Rattle.rules.specs.Declarations.{Word, Table, body_of}
use Rattle.rules.specs.Answers.{refused_numbers}
use Rattle.rules.specs.Paths.{Profile, passes, fails, folded, storage_of, not_accepted, profiled}
use Rattle.rules.specs.Calls.Memory.{Memory, Enough, settled}
use Rattle.rules.specs.Calls.Profile.{ProfileCall, answer, profile_number, profile_numbers}
use Rattle.rules.specs.Calls.Profile as call
use Rattle.paths.specs.Cited.Early.{early_places, verdict, on_storage, on_body, profile}
use Rattle.paths.proofs.Least.{verdict_is}
use Rattle.paths.proofs.Profile.{profile_right, accepted_is_orderly}
use Rattle.lent.specs.Numbers.{numbers_of}
use Rattle.lent.specs.Measured.{Unread, short_memory, long_text, none as enough_and_short}
use Rattle.lent.specs.Settled.{Settled}
use Rattle.lent.specs.Laws.Settled.{settled_same}
use Rattle.lent.specs.declared.answers.Answer.{Answer}
use Rattle.nesting.specs.Holding.{unseen}
use Rattle.profiling.specs.declared.tasks.Task.{Task}
use Rattle.reader.specs.Parsed.{Refuses}
use Rattle.accepted.specs.Accepted.{Accepts, described_by, table_by}
use Rattle.reading.specs.Laws.Names.{number_bound}
use Rattle.reading.specs.Laws.Meanings.{table_size_lem}
use Rattle.whole.specs.Laws.Written.{reading}
use Rattle.naming.specs.Names.{Test, Output}
use Rattle.resuming.specs.Asked.{Asked, Lowest}
use Rattle.resuming.specs.Told.{Told}
use Rattle.resuming.specs.Laws.Outputs.{written_by, spelt_by}
use Rattle.resuming.specs.Laws.Near.{places_under, written_near}

-- the profile, by what the names mean
module _ (ds : Table) (test output : Word) where
  without_test : body_of ds test ≡ none → profile ds test output ≡ fails 90 0
  unfolding profile
  without_test e = ap (on_body ds test output) e

  with_test : ((body_of ds test ≡ none) → ⊥) → profile ds test output ≡ on_storage ds test (storage_of ds output)
  unfolding profile
  with_test d = by (body_of ds test) refl
    where
      by : (o : Option Action) → body_of ds test ≡ o → on_body ds test output o ≡ on_storage ds test (storage_of ds output)
      by none e = absurd (d e)
      by (some a) e = refl

module _ (test output : List ℕ) {text records values decls : List ℕ} {m words n : ℕ} (v : Accepts text records values decls m words n) {o : Found ℕ}
    (tested : Test (table_by v) (folded test) o) where
  abbrev its : Profile
  its = profile (table_by v) (folded test) (folded output)

  -- 90
  pub no_test : o ≡ None → {a : Answer} → numbers_of a ≡ refused_numbers text 90 0 → numbers_of a ≡ profile_numbers text its
  no_test e is = is ∙ ap (profile_numbers text) (sym (without_test (table_by v) (folded test) (folded output) (tested.missing e)))

  module _ {aim : ℕ} (a_test : o ≡ Some aim) {p : Found ℕ} (put : Output (table_by v) (folded output) p) where
    -- 91
    pub no_output : p ≡ None → {a : Answer} → numbers_of a ≡ refused_numbers text 91 0 → numbers_of a ≡ profile_numbers text its
    no_output e is =
        is ∙ ap (profile_numbers text) (sym (with_test (table_by v) (folded test) (folded output) (tested.there aim a_test).1
        ∙ ap (on_storage (table_by v) (folded test)) (put.missing e)))

    module _ {out : ℕ} (an_output : p ≡ Some out) where
      abbrev task : Task
      task = record { m = m; n = n; aim = aim; out = out }

      abbrev pub to_ask : Asked records decls task
      to_ask = record {
        written = spelt_by v;
        lawful = v.whole;
        test = folded test;
        aims = (tested.there aim a_test).0;
        output = omega (
          arith,
          number_bound (table_by v) out (folded output) (put.there out an_output).1,
          table_size_lem (reading (written_by v)),
          v.lawful.declares.ready.few,
        );
      }

      by_places : its ≡ verdict (early_places (table_by v) (folded test) out)
      by_places =
          with_test (table_by v) (folded test) (folded output) (tested.there aim a_test).1 ∙ ap (on_storage (table_by v) (folded test)) (put.there out an_output).0

      module _ {low : ℕ} (lowest : Lowest to_ask low) where
        by_lowest : its ≡ cond (ltb low unseen) (fails 92 low) passes
        by_lowest =
            by_places ∙ (verdict_is unseen (early_places (table_by v) (folded test) out) (places_under (described_by v) (written_near (written_by v)) (folded test) out)
            ∙ ap (λ l. cond (ltb l unseen) (fails 92 l) passes) (sym lowest))

        -- 92
        pub too_early : low < unseen → {a : Answer} → numbers_of a ≡ refused_numbers text 92 low → numbers_of a ≡ profile_numbers text its
        too_early l is = is ∙ ap (profile_numbers text) (sym (by_lowest ∙ ap (λ b. cond b (fails 92 low) passes) (lt-ltb low unseen l)))

        pub in_time : unseen ≤ low → {a : Answer} → numbers_of a ≡ 0 ∷ 0 ∷ 0 ∷ 0 ∷ 0 ∷ 0 ∷ 0 ∷ 0 ∷ [] → numbers_of a ≡ profile_numbers text its
        in_time l is = is ∙ ap (profile_numbers text) (sym (by_lowest ∙ ap (λ b. cond b (fails 92 low) passes) (le-ltb low unseen l)))

-- a text that is refused
pub refused_text : {text test output : List ℕ} {m p : ℕ} {a : Answer} → Refuses text m p → numbers_of a ≡ refused_numbers text m p → Told text test output a
refused_text {m = m} {p} r e = record { profile = fails m p; answers = not_accepted r.checks; is = e }

-- a text that is accepted
pub accepted_text : {text test output records values decls : List ℕ} {m words n : ℕ} {a : Answer} (v : Accepts text records values decls m words n)
    → numbers_of a ≡ profile_numbers text (profile (table_by v) (folded test) (folded output)) → Told text test output a
accepted_text {text} {test} {output} v e = record {
  profile = profile (table_by v) (folded test) (folded output);
  answers = profiled (described_by v) v.lawful.declares.reads v.verdict (profile_right (table_by v) (folded test) (folded output)
      (accepted_is_orderly text _ _ v.verdict (described_by v) v.lawful.declares.reads));
  is = e;
}

-- the number of an answer is the second of its numbers
number_is : (text : List ℕ) (x : Profile) (a : Answer) → numbers_of a ≡ profile_numbers text x → a.number ≡ profile_number x
number_is text passes a e = cc
number_is text (fails m p) a e = cc

-- the whole call
pub answers_call : {text test output : List ℕ} {before after : Memory} {found : Answer} → Enough before → length text ≤ longest_text → Told text test output found
    → Settled before after found → ProfileCall text test output before after found.number
answers_call {text} {before = before} {found = found} enough short t s =
    answer t.profile enough short t.answers (number_is text t.profile found t.is) (settled_same s ∙ ap (λ ns. settled ns before) t.is)

-- a call that reads no text
pub unread_call : {text test output : List ℕ} {number : ℕ} {o : Found ℕ} {m : Memory} → Unread text m o → o ≡ Some number → ProfileCall text test output m m number
unread_call (short_memory h) e = call.short_memory h (cc) refl
unread_call (long_text m h) e = call.long_text m h (cc) refl
unread_call (enough_and_short m h) e = cc
