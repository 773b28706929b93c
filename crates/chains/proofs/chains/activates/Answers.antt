-- `chains::chains::activates` meets its contract.
use borrow.Author.Rules.{rules}
use mathlib.Core.Path.{refl}
use Prim.Native.Nat.{◌-◌}
use Rattle.reading.specs.Laws.Reading.{kinded}
use Rattle.chains.specs.Laws.Chains.{asked_all, called_name, fewer_left, asked_one, ask_on}
use Rattle.chains.proofs.chains.activates.Goals as goal

pub loop-level-init : goal.loop-level-init
loop-level-init c = record { shallow = search rules; counted = search rules; reading = search rules; left = λ v. refl }

pub next_call-call-requires : goal.next_call-call-requires
next_call-call-requires c = search (rules, kinded)

pub returns-then-n-name : goal.returns-then-n-name
returns-then-n-name c = search (rules, asked_all)

pub in_level-requires : goal.in_level-requires
in_level-requires c = search (rules, called_name)

pub returns-then-in_level : goal.returns-then-in_level
returns-then-in_level c = search (rules, asked_one)

pub loop-level-smaller : goal.loop-level-smaller
loop-level-smaller c = search (rules, fewer_left)

pub loop-level-preserved : goal.loop-level-preserved
loop-level-preserved c = search (rules, ask_on)
