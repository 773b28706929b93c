-- `declare::finding::find` meets its contract: each turn writes one declaration, and the rest of the list is that of the tree that is left.
-- Assumes nothing.
use borrow.Author.Rules.{rules}
use native.Mathlib.Omega.{arith}
use Prim.Native.Nat.{◌+◌}
use Rattle.declare.proofs.Gathering.{Turn, Placed, nothing_gathered, beginning, naming, turn, end_turn, gathered_all, gathered_more}
use Rattle.declare.proofs.finding.find.Goals.{After-end_of-e, After-name_from-p}
use Rattle.declare.proofs.finding.find.Goals as goal

-- the numbers where the name is found, and where the end is
named : (c : After-name_from-p) →
    Turn c.args.records.now c.loop-i.decls c.loop-i.i c.loop-i.m c.name_from-p.result
named c = turn c.requires.most_tokens_in_bounds c.loop-i.invariant c.name_from-p.ensures c.requires.by_index

ended : (c : After-end_of-e) →
    Placed c.args.records.now (c.name_from-p.result + 1) c.end_of-e.result
ended c =
    end_turn c.requires.most_tokens_in_bounds c.loop-i.invariant c.name_from-p.ensures c.end_of-e.ensures c.requires.by_index

pub loop-i-init : goal.loop-i-init
loop-i-init c = nothing_gathered

pub name_from-p-requires : goal.name_from-p-requires
name_from-p-requires c = search (rules, beginning)

pub overflow_cast-p : goal.overflow_cast-p
overflow_cast-p c = omega (arith, named (goal.at.overflow_cast-p c).After-name_from-p)

pub put16-requires : goal.put16-requires
put16-requires c = omega (arith, named (goal.at.put16-requires c).After-name_from-p)

pub overflow_add-m : goal.overflow_add-m
overflow_add-m c = omega (arith, named (goal.at.overflow_add-m c).After-name_from-p)

pub end_of-e-requires : goal.end_of-e-requires
end_of-e-requires c = search (rules, naming)

pub kind_at-requires : goal.kind_at-requires
kind_at-requires c = omega (arith, ended (goal.at.kind_at-requires c).After-end_of-e)

pub returns-then-kind_at-eq-END : goal.returns-then-kind_at-eq-END
returns-then-kind_at-eq-END c = search (rules, gathered_all)

pub overflow_add-i : goal.overflow_add-i
overflow_add-i c = omega (arith, ended (goal.at.overflow_add-i c).After-end_of-e)

pub loop-i-smaller : goal.loop-i-smaller
loop-i-smaller c = omega (arith, named (goal.at.loop-i-smaller c).After-name_from-p, ended (goal.at.loop-i-smaller c).After-end_of-e)

pub loop-i-preserved : goal.loop-i-preserved
loop-i-preserved c = search (rules, gathered_more)
