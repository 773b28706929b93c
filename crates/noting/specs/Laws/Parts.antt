-- The parts of a transfer told one by one are the transfer told at once; and a part at an entry, by what stands there.
-- Assumes nothing.
use Rattle.std.specs.Prelude.{ℕ, zero, suc, ◌≤◌, ◌<◌, ◌≡◌, refl, Bool, true, false, cond, [], ◌∷◌, ◌++◌, eqb, length, get_or, set}
use Rattle.std.proofs.Common.{sym, ◌∙◌, ap, arith}
use Rattle.std.proofs.Math.Option.{Option, none, some}
use Rattle.rules.specs.Stores.{Entry}
use Rattle.traces.specs.Cited.Entries.{same_entry, Block}
use Rattle.traces.specs.Cited.Marking.{Pos, at, never, raise, lower, lesser_n, lesser, Cells, Marked, marked, behind, fit, here, put}
use Rattle.traces.specs.Cited.Events.{stores}
use Rattle.matching.specs.Matching.{Matching, matching, with, told, fit_at, told_part}

lesser_n_assoc : (a b c : ℕ) → lesser_n (lesser_n a b) c ≡ lesser_n a (lesser_n b c)
unfolding lesser_n
lesser_n_assoc zero b c = refl
lesser_n_assoc (suc a) zero c = refl
lesser_n_assoc (suc a) (suc b) zero = refl
lesser_n_assoc (suc a) (suc b) (suc c) = ap suc (lesser_n_assoc a b c)

lesser_assoc : (p q r : Pos) → lesser (lesser p q) r ≡ lesser p (lesser q r)
lesser_assoc (at a) (at b) (at c) = ap at (lesser_n_assoc a b c)
lesser_assoc (at a) (at b) never = refl
lesser_assoc (at a) never r = refl
lesser_assoc never q r = refl

pub never_lesser : (p : Pos) → lesser p never ≡ p
never_lesser (at n) = refl
never_lesser never = refl

raise_lesser : (p q : Pos) → lesser (raise p) (raise q) ≡ raise (lesser p q)
unfolding lesser_n
raise_lesser (at n) (at m) = refl
raise_lesser (at n) never = refl
raise_lesser never p = refl

-- one part more behind a marking
abbrev onward : Pos → Entry → Marked → Marked
onward (at k) y r = let s = fit_at k y r.cells in marked s.cells s.floor (lesser r.bad s.bad)
onward never y r = r

abbrev more_of : Entry → Marked → Marked
more_of y r = onward r.floor y r

more_behind : (y : Entry) (o : Option Entry) (r : Marked) → more_of y (behind o r) ≡ behind o (more_of y r)
unfolding fit_at
more_behind y o r = by r.floor refl
  where
    by : (f : Pos) → r.floor ≡ f → more_of y (behind o r) ≡ behind o (more_of y r)
    by (at k) e = let s = fit_at k y r.cells in rw e (ap (λ b. marked (o ∷ s.cells) (raise s.floor) b) (raise_lesser r.bad s.bad))
    by never e = rw e refl

fit_more : (xs : Block) (y : Entry) (cs : Cells) → fit (xs ++ y ∷ []) cs ≡ more_of y (fit xs cs)
unfolding fit fit_at
fit_more [] y cs = refl
fit_more (x ∷ xs) y [] = refl
fit_more (x ∷ xs) y (none ∷ cs) = refl
fit_more (x ∷ xs) y (some z ∷ cs) = by (same_entry x z) (fit_more xs y cs)
  where
    by : (b : Bool) → fit (xs ++ y ∷ []) cs ≡ more_of y (fit xs cs)
        → cond b (behind none (fit (xs ++ y ∷ []) cs)) (marked (some z ∷ cs) never (at 0)) ≡ more_of y (cond b (behind none (fit xs cs)) (marked (some z ∷ cs) never (at 0)))
    by true ih = ap (behind none) ih ∙ sym (more_behind y none (fit xs cs))
    by false ih = refl

put_more : (x : Entry) (xs : Block) (y : Entry) (f : Pos) (cs : Cells) → put x (xs ++ y ∷ []) f cs ≡ more_of y (put x xs f cs)
unfolding put
put_more x xs y f [] = refl
put_more x xs y f (none ∷ cs) = ap (behind none) (put_more x xs y (lower f) cs) ∙ sym (more_behind y none (put x xs (lower f) cs))
put_more x xs y f (some z ∷ cs) = by (eqb z.word x.word) (put_more x xs y (lower f) cs)
  where
    here_more : (f : Pos) → here x (xs ++ y ∷ []) f (some z ∷ cs) ≡ more_of y (here x xs f (some z ∷ cs))
    here_more (at zero) = fit_more (x ∷ xs) y (some z ∷ cs)
    here_more (at (suc n)) = refl
    here_more never = refl

    by : (b : Bool) → put x (xs ++ y ∷ []) (lower f) cs ≡ more_of y (put x xs (lower f) cs)
        → cond b (here x (xs ++ y ∷ []) f (some z ∷ cs)) (behind (some z) (put x (xs ++ y ∷ []) (lower f) cs))
        ≡ more_of y (cond b (here x xs f (some z ∷ cs)) (behind (some z) (put x xs (lower f) cs)))
    by true ih = here_more f
    by false ih = ap (behind (some z)) ih ∙ sym (more_behind y (some z) (put x xs (lower f) cs))

with_more : (y : Entry) (r : Marked) (z : Matching) → told_part y (with r z) ≡ with (more_of y r) z
with_more y r z = by r.floor refl
  where
    by : (f : Pos) → r.floor ≡ f → told_part y (with r z) ≡ with (more_of y r) z
    by (at k) e = let s = fit_at k y r.cells in rw e (ap (λ b. matching s.cells s.floor b z.groups) (lesser_assoc z.bad r.bad s.bad))
    by never e = rw e refl

-- A part more, told by itself.
pub part_told : (x : Entry) (xs : Block) (y : Entry) (z : Matching) → told_part y (told (stores x xs) z) ≡ told (stores x (xs ++ y ∷ [])) z
part_told x xs y z = with_more y (put x xs z.floor z.cells) z ∙ ap (λ r. with r z) (sym (put_more x xs y z.floor z.cells))

-- a part at the entry k: behind all of them, at one that is taken, at another one, at one like it
pub fit_past : (k : ℕ) (x : Entry) (cs : Cells) → length cs ≤ k → fit_at k x cs ≡ marked cs never never
unfolding fit_at fit
fit_past zero x [] h = refl
fit_past zero x (c ∷ cs) h = absurd (omega arith)
fit_past (suc k) x [] h = refl
fit_past (suc k) x (c ∷ cs) h = ap (behind c) (fit_past k x cs (omega arith))

pub fit_taken : (k : ℕ) (x : Entry) (cs : Cells) → k < length cs → get_or cs k none ≡ none → fit_at k x cs ≡ marked cs never (at k)
unfolding fit_at fit
fit_taken k x [] h e = absurd (omega arith)
fit_taken zero x (c ∷ cs) h e = rw e refl
fit_taken (suc k) x (c ∷ cs) h e = ap (behind c) (fit_taken k x cs (omega arith) e)

pub fit_other : (k : ℕ) (x y : Entry) (cs : Cells) → get_or cs k none ≡ some y → same_entry x y ≡ false → fit_at k x cs ≡ marked cs never (at k)
unfolding fit_at fit
fit_other k x y [] e o = let z : ◌≡◌ {A = ℕ} 0 1 = cc in absurd (omega arith)
fit_other zero x y (c ∷ cs) e o = rw (e, o) refl
fit_other (suc k) x y (c ∷ cs) e o = ap (behind c) (fit_other k x y cs e o)

pub fit_same : (k : ℕ) (x y : Entry) (cs : Cells) → get_or cs k none ≡ some y → same_entry x y ≡ true → fit_at k x cs ≡ marked (set cs k none) (at (suc k)) never
unfolding fit_at fit
fit_same k x y [] e o = let z : ◌≡◌ {A = ℕ} 0 1 = cc in absurd (omega arith)
fit_same zero x y (c ∷ cs) e o = rw (e, o) refl
fit_same (suc k) x y (c ∷ cs) e o = ap (behind c) (fit_same k x y cs e o)
