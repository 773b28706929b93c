-- `whole::fault50` meets its contract.
use borrow.Author.Rules.{rules}
use Rattle.whole.specs.Laws.Written.{reading}
use Rattle.whole.specs.Laws.Whole.{short_chains, told_first, told_last}
use Rattle.whole.proofs.fault50.Goals as goal

pub main_key-requires : goal.main_key-requires
main_key-requires c = search (rules, reading)

pub chain_key-requires : goal.chain_key-requires
chain_key-requires c = search (rules, reading)

pub returns-then-first : goal.returns-then-first
returns-then-first c = search (rules, told_first)

pub gather_in-requires : goal.gather_in-requires
gather_in-requires c = search (rules, reading, short_chains)

pub returns : goal.returns
returns c = told_last c.main_key.ensures c.chain_key.ensures c.earlier-first.ensures c.if-first.false c.groups_key.ensures
