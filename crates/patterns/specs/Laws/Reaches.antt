-- A pattern and a range, by the highest bit: what each case of the bounds leaves to be seen.
-- Assumes nothing.
use Rattle.std.specs.Prelude.{ℕ, suc, ◌-◌, ◌%◌, ◌^◌, ◌<◌, ◌≤◌, ◌≡◌, ◌&&◌}
use borrow.Author.Tests.{lt-ltb, le-ltb, le-leb, lt-leb}
use Rattle.rules.specs.Faults.Bodies.{reaches}
use Rattle.patterns.specs.Reaches.{may, either_way}

module _ (n v f l h : ℕ) where
  pub both_have : 2 ^ n ≤ l → reaches (suc n) v f l h ≡ may 1 n v f && reaches n (v % 2 ^ n) (f % 2 ^ n) (l - 2 ^ n) (h - 2 ^ n)
  unfolding reaches
  both_have le = rw (reaches, le-leb (2 ^ n) l le)

  pub neither_has : l < 2 ^ n → h < 2 ^ n → reaches (suc n) v f l h ≡ may 0 n v f && reaches n (v % 2 ^ n) (f % 2 ^ n) l h
  unfolding reaches
  neither_has lt lt' = rw (reaches, lt-leb (2 ^ n) l lt, lt-ltb h (2 ^ n) lt')

  pub one_has : l < 2 ^ n → 2 ^ n ≤ h → reaches (suc n) v f l h ≡ either_way (may 0 n v f) (may 1 n v f) (v % 2 ^ n) (f % 2 ^ n) l (h - 2 ^ n)
  unfolding reaches
  one_has lt le = rw (reaches, lt-leb (2 ^ n) l lt, le-ltb h (2 ^ n) le)
