-- Counts of steps that stay at `endless` once they have come there, and the bound that such a count is.
use Rattle.std.specs.Prelude.{ℕ, ◌+◌, min, Bool, true, false, eqb}
use Rattle.rules.specs.Limits.{most_steps}
use Rattle.rules.specs.Declarations.{Word, Table}
use Rattle.rules.specs.Bound.{cost_down, turns_down, Bound, bound, no_bound}

-- one more than a budget can hold
abbrev pub endless : ℕ
endless = most_steps + 1

unfoldable pub up : ℕ → ℕ → ℕ
up x k = min (x + k) endless

-- a cost, cut; endless where a REPEAT or RESTART can be reached
unfoldable pub cut : Bool → ℕ → ℕ
cut true n = endless
cut false n = min n endless

-- the count of a body down chains of k activations
abbrev pub count_down : Table → ℕ → Word → ℕ
count_down ds k p = cut (turns_down ds k p) (cost_down ds k p)

abbrev pub bound_when : Bool → ℕ → Bound
bound_when true n = no_bound
bound_when false n = bound n

-- a count that has come to `endless` is no bound
abbrev pub bound_by_of : ℕ → Bound
bound_by_of n = bound_when (eqb n endless) n
