-- `chaining::walks::chain_reason` meets its contract.
use native.Mathlib.Omega.{arith}
use Rattle.chains.specs.Laws.Chains.{level_all}
use Rattle.chaining.specs.Laws.Walks.{level_above, body_there, last_listed}
use Rattle.chaining.proofs.walks.chain_reason.Goals as goal

pub descend-above-requires : goal.descend-above-requires
descend-above-requires c = (c.requires, (omega arith, level_above _ _ _ (λ v. level_all _ _) c.next_level-bodies.ensures))

pub step-walk-requires : goal.step-walk-requires
step-walk-requires c = (c.requires, (omega arith, body_there c.requires c.descend-above.ensures))

pub returns-in-None : goal.returns-in-None
returns-in-None c = (c.step-walk.ensures _ (λ v. level_all _ _) c.descend-above.ensures).ended c.in-None.is

pub with_body-requires : goal.with_body-requires
with_body-requires c = (
  c.requires,
  (
    body_there c.requires (c.step-walk.ensures _ (λ v. level_all _ _) c.descend-above.ensures) _ c.in-Some.is,
    (omega arith, omega arith),
  ),
)

pub returns-in-Some : goal.returns-in-Some
returns-in-Some c = last_listed _ c.in-Some.is (c.step-walk.ensures _ (λ v. level_all _ _) c.descend-above.ensures) c.with_body.ensures
