-- `spelling::letters::hash_of` meets its contract: the hash of the letters that are passed.
-- Assumes nothing.
use mathlib.Core.Path.{◌≡◌}
use Prim.Native.Nat.{◌<◌}
use Rattle.records.specs.Holds.{folded_at}
use Rattle.spelling.specs.Trees.{hash_to}
use Rattle.room.specs.Spelling.{heads}
use Rattle.spelling.proofs.letters.hash_of.Given as goal

abbrev pub invariant-loop-k : goal.invariant-loop-k
invariant-loop-k l = (l.h ≡ hash_to (folded_at l.text l.p l.n) l.k) × (l.h < heads)
