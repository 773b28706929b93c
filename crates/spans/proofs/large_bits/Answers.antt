-- `spans::large_bits` meets its contract, by the variant.
-- Assumes nothing.
use borrow.Author.Rules.{rules}
use Rattle.spans.proofs.Ranges.{far_bits, many_bits}
use Rattle.spans.proofs.large_bits.Goals as goal

pub returns-then-is_far : goal.returns-then-is_far
returns-then-is_far c = search (rules, far_bits)

pub returns-else-is_far : goal.returns-else-is_far
returns-else-is_far c = search (rules, many_bits)
