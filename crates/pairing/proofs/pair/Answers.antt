-- `pairing::pair` meets its contract.
-- Assumes nothing.
use Rattle.lent.specs.Laws.Settled.{settled_from}
use Rattle.pairing.specs.Laws.Unread.{unread_call, goes_on}
use Rattle.pairing.specs.Laws.Outcome.{pair_call, all_zeros_lem}
use Rattle.pairing.proofs.pair.Goals as goal

pub returns-in-Some : goal.returns-in-Some
returns-in-Some c = unread_call c.unread_pair.ensures c.in-Some.is

pub pair_texts-found-requires : goal.pair_texts-found-requires
pair_texts-found-requires c =
    let g = goes_on c.unread_pair.ensures c.in_default.is in
    let m = g.0 in
    record { text0_len_bound = (g.1, g.2); in_bounds = (m.enough.work_a, (m.enough.work_b, (m.enough.work_c, (m.work_d, (m.work_e, m.work_f))))) }

pub settle-requires : goal.settle-requires
settle-requires c = (goes_on c.unread_pair.ensures c.in_default.is).0.enough.answer

pub returns : goal.returns
returns c =
    let g = goes_on c.unread_pair.ensures c.in_default.is in
    pair_call g.0 g.1 g.2 c.pair_texts-found.ensures (settled_from c.settle.ensures c.pair_texts-found.auto.a c.pair_texts-found.auto.b c.pair_texts-found.auto.c)
    (all_zeros_lem c.args.d.now c.args.e.now c.args.f.now c.clear.ensures c.clear-2.ensures c.clear-3.ensures c.pair_texts-found.auto.d c.pair_texts-found.auto.e c.pair_texts-found.auto.f)
