-- SAY WHY (request 2): what is claimed of `isps_why`. `WhyCall` (Calls/ of the crate `rules`) is its contract in src/lib.rt, which has no hypotheses; what a reason is stands in
-- Reasons.antt of the crate `rules`, and what is true of a text and what the numbers of a reason tell in Truth.antt there.
use Rattle.std.specs.Prelude.{ℕ, ◌≤◌, ◌≡◌, List, length}
use Rattle.rules.specs.Limits.{longest_text}
use Rattle.rules.specs.Calls.Memory.{Memory}
use Rattle.rules.specs.Calls.Check.{CheckCall}
use Rattle.rules.specs.Reasons.{no_reason}
use Rattle.rules.specs.Calls.Why.{WhyMemory, WhyCall, reason_size, reasoned}
use Rattle.rules.specs.Truth.{RaceTold, ChainTold}
use Rattle.reasons.specs.Laws.Told as laws
use Rattle.reasons.specs.Laws.Unique as unique

-- Number, answer, reason and work memory are settled: two results that the contract allows are the same.
pub why_settled : {text reason left left' : List ℕ} {before after after' : Memory} {n n' : ℕ} → WhyCall text before after reason left n
    → WhyCall text before after' reason left' n' → (n ≡ n') × (after ≡ after') × (left ≡ left')
why_settled = unique.one_why

-- Where there is room for a reason, number, answer and work memory are those of Check.
pub as_check : {text reason left : List ℕ} {before after : Memory} {n : ℕ} → reason_size ≤ length reason → WhyCall text before after reason left n → CheckCall text before after n
as_check = laws.as_check

module _ {text reason left : List ℕ} {before after : Memory} (enough : WhyMemory before reason) (short : length text ≤ longest_text) where
  -- A call that returns 53 names a race of the text,
  pub race_told : WhyCall text before after reason left 53 → RaceTold text reason left
  race_told = laws.race_told enough short

  -- one that returns 51 a chain of its activations that closes or passes 16,
  pub chain_told : WhyCall text before after reason left 51 → ChainTold text reason left
  chain_told = laws.chain_told enough short

  -- and every other number, and an accepted text, has the reason of 24 zeros.
  pub nothing_more : {n : ℕ} → (n ≡ 53 → ⊥) → (n ≡ 51 → ⊥) → WhyCall text before after reason left n → left ≡ reasoned no_reason reason
  nothing_more = laws.nothing_more enough short
