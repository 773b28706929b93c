-- `values::operators::invert` meets its contract.
-- Assumes nothing.
use Rattle.std.proofs.Common.{◌≡◌, ℕ, ◌+◌, ◌-◌, ◌%◌, ◌^◌, ◌<◌, ◌≤◌, ◌∙◌, arith, rules}
use lib.Pow.{not_mod}
use Rattle.rules.specs.Values.{not_number}
use Rattle.values.proofs.operators.invert.Goals as goal

inverted : (n a r : ℕ) → n ≤ 64 → a < 2 ^ n → r ≡ (2 ^ 64 - 1 - a) % 2 ^ n → r ≡ not_number n a
unfolding not_number
inverted n a r h fits e =
    let all : 64 - n + n ≡ 64 = omega arith in
    e ∙ rw all at (not_mod (64 - n) n fits)

pub returns : goal.returns
returns c = search (rules, inverted)
