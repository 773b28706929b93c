-- `whole::groups::member_key` meets its contract.
use mathlib.Core.Path.{sym, ◌∙◌}
use Rattle.rules.specs.Whole.Sets.{race}
use Rattle.whole.specs.Laws.GroupKeys.{stopped_key, raced_key, sound_key}
use Rattle.whole.proofs.groups.member_key.Goals as goal

pub returns-then-own : goal.returns-then-own
returns-then-own c = λ a b x y. stopped_key c.requires c.if-own.true c.number_key.ensures (race a b)

pub returns-then-races : goal.returns-then-races
returns-then-races c =
    λ a b x y. raced_key c.requires c.if-own.false
    (sym (c.races.ensures a b x y) ∙ c.if-races.true) c.number_key-then-races.ensures

pub returns : goal.returns
returns c = λ a b x y. sound_key _ c.if-own.false (sym (c.races.ensures a b x y) ∙ c.if-races.false)
