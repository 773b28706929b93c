-- `links::mains::main_start` meets its contract: MAIN's name leads to the first instruction of its body.
-- Assumes nothing.
use native.Mathlib.Omega.{arith}
use Rattle.links.specs.Laws.Mains.{name_fits, main_leads}
use Rattle.links.proofs.mains.main_start.Goals as goal

pub link_at-requires : goal.link_at-requires
link_at-requires c = omega (arith, (name_fits c.main_name.ensures c.requires).0)

pub returns : goal.returns
returns c = main_leads c.main_name.ensures c.link_at.ensures
