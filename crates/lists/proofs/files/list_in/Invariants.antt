-- `lists::files::list_in` is safe: what is written lies within the buffer.
-- Assumes nothing.
use Rattle.std.proofs.Common.{◌≤◌, length, ◌≡◌}
use Rattle.lists.proofs.files.list_in.Given as goal

abbrev pub invariant-loop-number : goal.invariant-loop-number
invariant-loop-number l =
    goal.iterator-loop-number.can_next l.number-iterator
    × goal.iterator-loop-number.is_finite l.number-iterator
    × (length l.entries ≡ length l.initial.entries)
    × (l.count ≤ 4097)
