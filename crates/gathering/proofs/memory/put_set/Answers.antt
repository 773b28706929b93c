-- `gathering::memory::put_set` meets its contract.
use Rattle.gathering.specs.Laws.Memory.{put_words}
use Rattle.gathering.proofs.memory.put_set.Goals as goal

pub returns : goal.returns
returns c = put_words _ c.put_word.ensures c.put_word-2.ensures c.put_word-3.ensures c.put_word-4.ensures
