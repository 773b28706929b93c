-- `spelling::spell` meets its contract: the tokens that are passed are spelled.
-- Assumes nothing.
use borrow.Author.Rules.{rules}
use Rattle.spelling.proofs.Steps.{begun, next_token, one_spelled, room_left, tokens_spelled}
use Rattle.spelling.proofs.spell.Goals as goal

pub loop-i-init : goal.loop-i-init
loop-i-init c = search (rules, begun)

pub spell_one-requires : goal.spell_one-requires
spell_one-requires c = search (rules, next_token, room_left)

pub loop-i-preserved : goal.loop-i-preserved
loop-i-preserved c = search (rules, one_spelled)

pub returns : goal.returns
returns c = let r = tokens_spelled c.loop-i.invariant c.loop-i-test.false in record { kept = r.0; spelled = r.1 }
