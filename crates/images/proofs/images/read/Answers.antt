-- `images::images::read` meets its contract: the payloads of the blocks passed stand in the carriers.
-- Assumes nothing.
use borrow.Author.Rules.{rules}
use native.Mathlib.Omega.{arith}
use Rattle.images.specs.Laws.Turns.{none_read, payload_room, more_read, all_read}
use Rattle.images.proofs.images.read.Goals as goal

pub loop-i-init : goal.loop-i-init
loop-i-init c = search (rules, none_read)

pub copy-requires : goal.copy-requires
copy-requires c = payload_room c.loop-i.invariant (omega arith) _ c.used_in.ensures

pub loop-i-preserved : goal.loop-i-preserved
loop-i-preserved c = more_read c.loop-i.invariant (omega arith) _ c.used_in.ensures _ c.copy.ensures

pub returns : goal.returns
returns c = all_read c.loop-i.invariant (omega arith)
