-- `reporting::numbers::put_numbers` meets its contract: the numbers stand pair by pair.
use Rattle.reporting.specs.Laws.Numbers.{Writing}
use Rattle.reporting.proofs.numbers.put_numbers.Given as goal

abbrev pub invariant-loop-i : goal.invariant-loop-i
invariant-loop-i l = Writing l.initial.reason l.numbers.n l.reason l.i
