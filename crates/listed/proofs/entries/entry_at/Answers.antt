-- `listed::entries::entry_at` meets its contract: its numbers are those of the entry's cells.
-- Assumes nothing.
use Prim.Native.Nat.{◌/◌}
use native.Mathlib.Omega.{arith}
use lib.ListN.{length}
use Rattle.listed.specs.Laws.Entries.{entry_read, entry_within, length_entries}
use Rattle.listed.proofs.entries.entry_at.Goals as goal

pub overflow_mul-i : goal.overflow_mul-i
overflow_mul-i c = omega (arith, entry_within c.args.entries.now c.args.i c.requires)

pub get32-requires : goal.get32-requires
get32-requires c = omega (arith, entry_within c.args.entries.now c.args.i c.requires)

pub overflow_mul-i-2 : goal.overflow_mul-i-2
overflow_mul-i-2 c = omega (arith, entry_within c.args.entries.now c.args.i c.requires)

pub overflow_add-i : goal.overflow_add-i
overflow_add-i c = omega (arith, entry_within c.args.entries.now c.args.i c.requires)

pub get32-requires-2 : goal.get32-requires-2
get32-requires-2 c = omega (arith, entry_within c.args.entries.now c.args.i c.requires)

pub overflow_mul-i-3 : goal.overflow_mul-i-3
overflow_mul-i-3 c = omega (arith, entry_within c.args.entries.now c.args.i c.requires)

pub overflow_add-i-2 : goal.overflow_add-i-2
overflow_add-i-2 c = omega (arith, entry_within c.args.entries.now c.args.i c.requires)

pub get64-requires : goal.get64-requires
get64-requires c = omega (arith, entry_within c.args.entries.now c.args.i c.requires)

pub returns : goal.returns
returns c =
    let b = c.args.entries.now in
    entry_read (length b / 16) b c.args.i _ _ _ (omega (arith, length_entries (length b / 16) b, c.requires))
    c.get32.ensures c.get32-2.ensures c.get64.ensures
