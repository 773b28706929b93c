-- `gathering::gathering::gather_all` meets its contract.
use borrow.Author.Rules.{rules}
use native.Mathlib.Omega.{arith}
use mathlib.Core.Path.{refl}
use Rattle.gathering.specs.Laws.Filling.{collect_none, collected, name_inside, name_kind, name_short, collect_more}
use Rattle.gathering.proofs.gathering.gather_all.Goals as goal

pub loop-k-init : goal.loop-k-init
loop-k-init c =
    collect_none c.requires.0
    (omega (arith, c.requires.1.0, c.note_carriers.auto.memo))
    c.requires.1.1 refl c.note_carriers.ensures.0
    c.note_carriers.ensures.1

pub gather-requires : goal.gather-requires
gather-requires c = let inv = c.loop-k.invariant in let l = c.loop-k-test.true in let at = c.get16.ensures in (inv.fillable, (name_inside l at inv.fillable.reading, (name_kind l at inv.fillable.reading, (search rules, name_short inv l at))))

pub loop-k-preserved : goal.loop-k-preserved
loop-k-preserved c =
    collect_more c.loop-k.invariant c.loop-k-test.true
    c.get16.ensures c.gather.auto.memo c.gather.ensures

pub returns : goal.returns
returns c = search (rules, collected)
