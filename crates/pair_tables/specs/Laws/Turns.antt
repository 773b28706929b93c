-- Laws of the search for a bad turn.
-- Assumes nothing.
use Rattle.std.specs.Prelude.{ℕ, ◌+◌, ◌<◌, ◌≤◌, ◌≡◌, refl, List, length, get_or, drop}
use Rattle.std.proofs.Common.{◌∙◌, arith, drop_of_length-le, drop-cons}
use Rattle.std.proofs.Math.Option.{none}
use Rattle.std.proofs.Math.Numerals.{add-one}
use borrow.Author.Tests.{lt-ltb, le-ltb}
use Rattle.rules.specs.Pair.{fault81}
use Rattle.pair_tables.specs.Turns.{FirstBad}

-- none of the first i is bad
pub record Good (turns : List ℕ) (i : ℕ) : Type 0 where
  pub within : i ≤ length turns
  pub rest : fault81 0 turns ≡ fault81 i (drop i turns)

pub none_judged : (turns : List ℕ) → Good turns 0
none_judged turns = record { within = omega arith; rest = refl }

module _ {turns : List ℕ} {i : ℕ} (s : Good turns i) where
  pub all_good : length turns ≤ i → FirstBad turns i
  unfolding fault81
  all_good l = record { bad = λ h. absurd (omega arith); none_bad = λ h. s.rest ∙ rw (drop_of_length-le turns l, fault81) }

  module _ (l : i < length turns) where
    pub bad_here : 1 < get_or turns i 0 → FirstBad turns i
    unfolding fault81
    bad_here h = record { bad = λ k. s.rest ∙ rw (drop-cons turns i 0 l, fault81, lt-ltb 1 (get_or turns i 0) h); none_bad = λ k. absurd (omega arith) }

    pub good_more : get_or turns i 0 ≤ 1 → Good turns (i + 1)
    unfolding fault81
    good_more h = record {
      within = omega arith;
      rest = rw add-one (s.rest ∙ rw (drop-cons turns i 0 l, fault81, le-ltb 1 (get_or turns i 0) h));
    }
