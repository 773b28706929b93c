-- Steps of which each that stores to the output comes behind one that ended an activation of the test.
use Rattle.std.specs.Prelude.{ℕ, zero, suc, ◌≡◌, Bool, true, ◌||◌}
use Rattle.rules.specs.Declarations.{Word, Table}
use Rattle.rules.specs.Steps.Control.{work}
use Rattle.rules.specs.Steps.Runs.{Conf, running, finished, stopped, failed, perform, step, Steps}
use Rattle.rules.specs.Paths.{Writes, ends_by}

module _ (ds : Table) (test : Word) (o : ℕ) where
  -- k steps, with whether an activation has ended before them all
  abbrev pub StoresLate : Bool → (k : ℕ) (c e : Conf) → Steps ds k c e → Type 0
  StoresLate ended zero c e q = Unit {0}
  StoresLate ended (suc k) (running r s) e q =
      ((p : ℕ) → Writes ds o (work r q.0) p → ended ≡ true)
      × StoresLate (ended || ends_by ds test r q.0 (perform ds (work r q.0) s)) k (step ds r q.0 s) e q.1
  StoresLate ended (suc k) (finished s) e q = Unit {0}
  StoresLate ended (suc k) (stopped s) e q = Unit {0}
  StoresLate ended (suc k) (failed m p s) e q = Unit {0}
