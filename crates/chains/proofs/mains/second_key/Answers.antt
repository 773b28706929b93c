-- `chains::mains::second_key` meets its contract.
use native.Mathlib.Omega.{arith}
use Rattle.chains.specs.Laws.Mains.{second_none, second_first, second_small, second_again}
use Rattle.chains.proofs.mains.second_key.Goals as goal

pub returns-in_default : goal.returns-in_default
returns-in_default c = second_none _ c.args.at c.in_default.is

pub place_at-requires : goal.place_at-requires
place_at-requires c = omega (arith, c.requires.1 _ c.in-Some.is, c.requires.0.count, c.requires.0.ready.holds.record_room)

pub number_key-requires : goal.number_key-requires
number_key-requires c = (omega arith, second_small c.args.seen c.args.at c.in-Some.is (c.requires.1 _ c.in-Some.is) c.place_at.ensures c.requires.0)

pub returns-then-seen : goal.returns-then-seen
returns-then-seen c = second_again _ c.args.at c.in-Some.is (c.requires.1 _ c.in-Some.is) c.place_at.ensures c.if-seen.true c.number_key.ensures

pub returns : goal.returns
returns c = second_first _ c.args.at c.if-seen.false
