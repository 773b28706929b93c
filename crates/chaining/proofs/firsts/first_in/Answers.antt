-- `chaining::firsts::first_in` meets its contract.
use borrow.Author.Rules.{rules}
use mathlib.Core.Path.{refl}
use Prim.Native.Nat.{◌-◌}
use Rattle.reading.specs.Laws.Reading.{kinded}
use Rattle.chaining.specs.Laws.Firsts.{chosen_none, choice_name, choices_fewer, chosen, choose_on}
use Rattle.chaining.proofs.firsts.first_in.Goals as goal

pub loop-level-init : goal.loop-level-init
loop-level-init c = record { shallow = search rules; counted = search rules; reading = search rules; left = λ v. refl }

pub next_call-call-requires : goal.next_call-call-requires
next_call-call-requires c = search (rules, kinded)

pub returns-then-n-name : goal.returns-then-n-name
returns-then-n-name c = search (rules, chosen_none)

pub in_level-requires : goal.in_level-requires
in_level-requires c = search (rules, choice_name)

pub returns-then-in_level : goal.returns-then-in_level
returns-then-in_level c = search (rules, chosen)

pub loop-level-smaller : goal.loop-level-smaller
loop-level-smaller c = search (rules, choices_fewer)

pub loop-level-preserved : goal.loop-level-preserved
loop-level-preserved c = search (rules, choose_on)
