-- What an action has around it: the table, the labels, and where control goes behind it.
use Rattle.std.specs.Prelude.{ℕ, ◌*◌, ◌<◌, ◌≤◌, ◌≡◌, List, length}
use Rattle.laws_orders.specs.Cited.Flat.{Link, Labels}
use Rattle.promise.specs.Instructions.{link_no}
use Rattle.ways.specs.Seeking.{Ground, Stands}
use Rattle.ways.specs.Stack.{LabelsHold}
use Rattle.room.specs.Links.{hints_end}
use Rattle.ways.specs.Standing.{Meant}

pub record Setting (g : Ground) (records labels : List ℕ) (at link count : ℕ) : Type 0 where
  pub holds : Stands g records
  pub around : Labels
  pub held : LabelsHold labels g count around
  pub room : 2 * hints_end ≤ length labels
  pub few : 2 * count ≤ at
  pub behind : Link
  pub link_is : link ≡ link_no behind
  pub link_fits : link < 65536
  pub means : Meant g records at
