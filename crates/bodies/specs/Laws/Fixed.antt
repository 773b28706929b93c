-- The tables of a scanned text are ready for the bodies: a constant without `?` leaves no bit free.
-- Assumes nothing.
use Rattle.std.specs.Prelude.{ℕ, ◌*◌, ◌≤◌, refl, List, length}
use Rattle.rules.specs.Text.Tokens.{Name, tk}
use Rattle.rules.specs.Text.Scan.{plain_info, scan}
use Rattle.rules.specs.Grammar.Trees.{Description}
use Rattle.laws_accepted.proofs.Accepted.Scanned.{scanned_each}
use Rattle.table.specs.Ready.{Ready}
use Rattle.spelling.specs.Spelled.{Spelled}
use Rattle.room.specs.Bodies.{index_end}
use Rattle.bodies.specs.Bodies.{BodiesView}

abbrev pub ready_bodies : {text records values decls room : List ℕ} {d : Description} {m : ℕ} → Ready text records values decls (scan text).tokens d m → Spelled records (scan text).tokens
    → 2 * index_end ≤ length room → BodiesView text records values decls room m
ready_bodies {text} {d = d} {m = m} r spelled large = record {
  stage = record { tokens = (scan text).tokens; description = d; declared = m; ready = r; spelled = spelled; fixed = λ i l e. (scanned_each text (tk Name (plain_info 0)) i l e).1 };
  count = refl;
  large = large;
}
