-- `listing::words::put_array` meets its contract: what is appended and what is left make the whole.
-- Assumes nothing.
use Rattle.rules.specs.Declarations.{names}
use Rattle.listing.specs.Standing.{name_bytes}
use Rattle.listing.proofs.Arrays.{ArrayLeft}
use Rattle.listing.proofs.words.put_array.Given as goal

abbrev pub invariant-loop-i : goal.invariant-loop-i
invariant-loop-i l = ArrayLeft l.initial.out l.out l.at l.next (name_bytes l.text l.records l.p) (names l.left l.right) l.carriers l.w l.n l.i
