-- `whole::walks::body_key` meets its contract.
use borrow.Author.Rules.{rules}
use mathlib.Core.Path.{refl}
use Rattle.whole.specs.Laws.Written.{reading}
use Rattle.whole.specs.Laws.WalkKeys.{no_body_key, some_body_key}
use Rattle.whole.proofs.walks.body_key.Goals as goal

pub body_at-requires : goal.body_at-requires
body_at-requires c = search (rules, reading)

pub returns-in_default : goal.returns-in_default
returns-in_default c = no_body_key _ c.in_default.ensures

pub walk_key-requires : goal.walk_key-requires
walk_key-requires c = (c.requires.0, (c.requires.1.0, (c.in-Some.ensures (reading c.requires.0)).past refl))

pub returns : goal.returns
returns c = some_body_key _ c.in-Some.ensures c.walk_key.ensures
