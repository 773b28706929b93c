-- `explaining::races::race_at` meets its contract.
use native.Mathlib.Omega.{arith}
use Rattle.rules.specs.Reasons.{reason53}
use Rattle.explaining.specs.Laws.Again.{raced_at, no_chains, not_before, for_all}
use Rattle.explaining.proofs.races.race_at.Goals as goal

pub main_key-requires : goal.main_key-requires
main_key-requires c = c.requires.checks.1.reading

pub chain_key-requires : goal.chain_key-requires
chain_key-requires c = c.requires.checks.1.reading

pub returns-then-first : goal.returns-then-first
returns-then-first c =
    λ d s. absurd (not_before c.main_key.ensures c.chain_key.ensures c.earlier-first.ensures c.if-first.true
    (raced_at c.requires.checks.0 c.requires.checks.1))

pub gather_all-requires : goal.gather_all-requires
gather_all-requires c = (
  c.requires.checks.1.reading,
  (
    omega (arith, c.requires.in_bounds, c.requires.checks.1.reading.ready.few),
    no_chains c.main_key.ensures c.chain_key.ensures c.earlier-first.ensures c.if-first.false,
  ),
)

pub race_reason-requires : goal.race_reason-requires
race_reason-requires c = (
  c.requires.checks.1.reading,
  (
    omega (arith, c.requires.in_bounds, c.requires.checks.1.reading.ready.few, c.gather_all.auto.memo),
    c.gather_all.ensures,
  ),
)

pub returns : goal.returns
returns c = λ d s. for_all (λ ds. reason53 ds c.args.place) c.requires.checks.1 (c.race_reason.ensures c.requires.checks.1.reading) d s
