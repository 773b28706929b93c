-- `ways::prefixes::behind_prefixes` meets its contract: one after the other.
-- Assumes nothing.
use native.Mathlib.Omega.{arith}
use mathlib.Core.Path.{sym, ◌∙◌}
use Rattle.ways.specs.Laws.Standing.{starts, within}
use Rattle.ways.specs.Laws.Prefixes.{prefixed_none, prefixed_then}
use Rattle.ways.proofs.prefixes.behind_prefixes.Goals as goal

pub loop-records-init : goal.loop-records-init
loop-records-init c = record { left = λ g depth v. prefixed_none v }

pub is_prefix-requires : goal.is_prefix-requires
is_prefix-requires c = let (g, depth, v) = c.requires in (g, starts (c.loop-records.invariant.left g depth v).now)

pub prefix-s-requires : goal.prefix-s-requires
prefix-s-requires c =
    let (g, depth, v) = c.requires in
    let p = c.loop-records.invariant.left g depth v in
    (g, depth, p.now, sym (c.is_prefix.ensures g (starts p.now)) ∙ c.loop-records-test.true)

pub loop-records-smaller : goal.loop-records-smaller
loop-records-smaller c =
    let (g, depth, v) = c.requires in
    let p = c.loop-records.invariant.left g depth v in
    let q = c.prefix-s.ensures g depth p.now (sym (c.is_prefix.ensures g (starts p.now)) ∙ c.loop-records-test.true) in
    omega (arith, (within p.now).1, q.0.kept.long, q.1)

pub loop-records-preserved : goal.loop-records-preserved
loop-records-preserved c =
    record {
      left = λ g depth v.
          let p = c.loop-records.invariant.left g depth v in
          prefixed_then v p (c.prefix-s.ensures g depth p.now (sym (c.is_prefix.ensures g (starts p.now)) ∙ c.loop-records-test.true)).0;
    }

pub returns : goal.returns
returns c =
    λ g depth v. let p = c.loop-records.invariant.left g depth v in
    record { passed = p; bare = sym (c.is_prefix.ensures g (starts p.now)) ∙ c.loop-records-test.false }
