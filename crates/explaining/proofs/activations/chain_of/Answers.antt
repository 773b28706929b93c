-- `explaining::activations::chain_of` meets its contract.
use borrow.Author.Rules.{rules}
use native.Mathlib.Omega.{arith}
use Rattle.rules.specs.Reasons.{reason51}
use Rattle.rules.specs.Calls.Why.{reason_numbers}
use Rattle.explaining.specs.Laws.Again.{sound, for_all}
use Rattle.explaining.proofs.activations.chain_of.Goals as goal

pub reread-requires : goal.reread-requires
reread-requires c = record { sound = (sound (omega arith) c.requires.checks.0, search rules); room_size_in_bounds = search rules }

pub chain_reason-requires : goal.chain_reason-requires
chain_reason-requires c = (rw c.in-Ok.is at c.reread.ensures).reading

pub returns-in-Err : goal.returns-in-Err
returns-in-Err c = λ d s. absurd (let z : ⊥ = rw c.in-Err.is at c.reread.ensures in z)

pub returns-in-Ok : goal.returns-in-Ok
returns-in-Ok c = λ d s.
    let r = rw c.in-Ok.is at c.reread.ensures in
    for_all (λ ds. reason_numbers (reason51 ds c.args.place)) r (c.chain_reason.ensures r.reading) d s
