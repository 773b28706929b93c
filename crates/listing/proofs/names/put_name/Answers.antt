-- `listing::names::put_name` meets its contract: the name lies in the text.
-- Assumes nothing.
use Rattle.listing.proofs.Spelling.{name_put}
use Rattle.listing.proofs.names.put_name.Goals as goal

pub returns : goal.returns
returns c = name_put c.requires.name_stands c.place_at-place.ensures c.size_at-size.ensures c.put_run.ensures
