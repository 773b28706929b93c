-- `whole::walks::turn_in` meets its contract.
use Rattle.whole.specs.Laws.WalkKeys.{all_labels, turned_in}
use Rattle.whole.proofs.walks.turn_in.Goals as goal

pub turn-requires : goal.turn-requires
turn-requires c = rw (all_labels c.args.room.now) c.requires.0

pub returns : goal.returns
returns c =
    turned_in _ _ c.requires.1 c.turn.auto.labels
    c.turn.ensures
