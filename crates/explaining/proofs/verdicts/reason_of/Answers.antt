-- `explaining::verdicts::reason_of` meets its contract.
use borrow.Author.Rules.{rules}
use native.Mathlib.Omega.{arith}
use Rattle.explaining.specs.Laws.Reasons.{refused_with, with_race, with_chain, without}
use Rattle.explaining.proofs.verdicts.reason_of.Goals as goal

pub race_of-requires : goal.race_of-requires
race_of-requires c = record { checks = (refused_with 53 (λ z. omega arith) c.in-53.is c.requires.judged.0, search rules); in_bounds = search rules }

pub chain_of-requires : goal.chain_of-requires
chain_of-requires c = record { checks = (refused_with 51 (λ z. omega arith) c.in-51.is c.requires.judged.0, search rules); in_bounds = search rules }

pub returns-in-53 : goal.returns-in-53
returns-in-53 c = with_race c.in-53.is c.race_of.ensures c.race_numbers.ensures

pub returns-in-51 : goal.returns-in-51
returns-in-51 c = with_chain c.in-51.is c.chain_of.ensures

pub returns-in_default : goal.returns-in_default
returns-in_default c = without c.in_default.in_default-own.rest.0.1 c.in_default.in_default-own.rest.1 c.nothing_more.ensures
