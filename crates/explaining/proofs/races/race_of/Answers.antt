-- `explaining::races::race_of` meets its contract.
use borrow.Author.Rules.{rules}
use native.Mathlib.Omega.{arith}
use Rattle.explaining.specs.Laws.Again.{sound}
use Rattle.explaining.proofs.races.race_of.Goals as goal

pub reread-requires : goal.reread-requires
reread-requires c = record { sound = (sound (omega arith) c.requires.checks.0, search rules); room_size_in_bounds = search rules }

pub race_at-requires : goal.race_at-requires
race_at-requires c = record { checks = (c.requires.checks.0, rw c.in-Ok.is at c.reread.ensures); in_bounds = search rules }

pub returns-in-Err : goal.returns-in-Err
returns-in-Err c = λ d s. absurd (let z : ⊥ = rw c.in-Err.is at c.reread.ensures in z)
