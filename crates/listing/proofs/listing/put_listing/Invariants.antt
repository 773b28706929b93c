-- `listing::listing::put_listing` meets its contract: what is appended and what is left make the whole.
-- Assumes nothing.
use Rattle.listing.proofs.Tables.{ListedTo}
use Rattle.listing.proofs.listing.put_listing.Given as goal

abbrev pub invariant-loop-k : goal.invariant-loop-k
invariant-loop-k l = ListedTo l.text l.records l.values l.decls l.carriers l.initial.out l.out l.m l.at l.next l.w l.k
