-- `explaining::rereading::reread` meets its contract.
use borrow.Author.Rules.{rules}
use Rattle.explaining.specs.Laws.Again.{no_refusal, rescanned}
use Rattle.explaining.proofs.rereading.reread.Goals as goal

pub declared-requires : goal.declared-requires
declared-requires c =
    record {
      rescanned = rescanned c.requires.sound.0 c.scan.ensures.value c.args.records.now c.args.values.now c.requires.sound.1.0 c.requires.sound.1.1.0
          c.requires.sound.1.1.1 c.scan.ensures.records_after c.scan.ensures.values_after c.in_ok-n.was;
      room_size_in_bounds = search rules;
    }

pub returns-in_err-n : goal.returns-in_err-n
returns-in_err-n c = absurd (no_refusal c.requires.sound.0 c.scan.ensures.value c.in_err-n.was)
