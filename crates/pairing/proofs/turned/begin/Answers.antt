-- `pairing::turned::begin` meets its contract: the first table is completed, the view is filled, the second is completed.
-- Assumes nothing.
use native.Mathlib.Omega.{arith}
use Rattle.pairing.proofs.turned.begin.Goals as goal

pub prepare-first-requires : goal.prepare-first-requires
prepare-first-requires c = record { by_index = (c.requires.by_index.0, c.requires.by_index.2); in_bounds = (c.requires.in_bounds.0, c.requires.in_bounds.1.1.0) }

pub fill_view-words-requires : goal.fill_view-words-requires
fill_view-words-requires c =
    record { by_index = (_, _, _, c.requires.by_index.3.lawful.declares.ready); m_in_bounds = (c.requires.in_bounds.1.1.1.1.room, omega (arith, c.requires.in_bounds.0, c.prepare-first.auto.room), c.requires.in_bounds.1.1.1.1.small) }

pub prepare-second-requires : goal.prepare-second-requires
prepare-second-requires c = record { by_index = (c.requires.by_index.1, c.requires.by_index.3); in_bounds = (c.requires.in_bounds.1.0, c.requires.in_bounds.1.1.1.0) }

pub returns : goal.returns
returns c = λ words₀ words₁ v u.
    record {
      first = c.prepare-first.ensures words₀ v;
      second = c.prepare-second.ensures words₁ u;
      filled = c.fill_view-words.ensures _ _ _ u.lawful.declares.ready;
    }
