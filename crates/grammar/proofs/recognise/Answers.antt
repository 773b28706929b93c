-- `grammar::recognise` meets its contract: the table passes the test of the rows.
-- Assumes nothing.
use Rattle.laws_grammar.specs.Cited.Rows.{lookup}
use Rattle.grammar.proofs.Entries.{ruled}
use Rattle.grammar.proofs.recognise.Goals as goal

pub walk-requires : goal.walk-requires
unfolding lookup
walk-requires c = record { ruled = ruled _ tt; records = c.requires }
