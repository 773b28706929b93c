-- What is passed and what is told go together: passings lead from some open groups to others, and have their events.
use Rattle.std.specs.Prelude.{ℕ, suc, ◌≡◌, true, false}
use Rattle.std.proofs.Math.Path.{refl, sym, ap}
use Rattle.std.proofs.Common.{◌∙◌, ap₂, subst}
use mathlib.Core.List.{List, [], ◌∷◌, ◌++◌, append_assoc, map}
use Rattle.traces.specs.Cited.Events.{Event}
use Rattle.telling.specs.Cited.Passing.{Grouping, Passing, opened, turned, closed, pair_events, all_pairs}
use Rattle.telling.proofs.Passages.{into, Lasts, Firsts}

module _ (M : Grouping) where
  -- Passings from the members w, the innermost first, to the members v: a group begins with its first member, turns from a member to the next, ends with its last.
  abbrev pub Follows : List ℕ → List Passing → List ℕ → Type 0
  Follows w [] v = w ≡ v
  Follows w (opened y ∷ ps) v = (M.before y ≡ 0) × (M.last y ≡ false) × Follows (y ∷ w) ps v
  Follows w (turned y ∷ ps) v =
      (x : ℕ) × (u : List ℕ) × (w ≡ x ∷ u) × (M.last x ≡ false) × (M.before y ≡ suc (M.before x)) × Follows (y ∷ u) ps v
  Follows w (closed z ∷ ps) v = (u : List ℕ) × (w ≡ z ∷ u) × (M.last z ≡ true) × Follows u ps v

  pub follows_append : (ps qs : List Passing) (w v u : List ℕ) → Follows w ps v → Follows v qs u → Follows w (ps ++ qs) u
  follows_append [] qs w v u h k = subst (λ z. Follows z qs u) (sym h) k
  follows_append (opened y ∷ ps) qs w v u h k = (h.0, h.1, follows_append ps qs (y ∷ w) v u h.2 k)
  follows_append (turned y ∷ ps) qs w v u h k = (h.0, h.1, h.2, h.3, h.4, follows_append ps qs (y ∷ h.1) v u h.5 k)
  follows_append (closed z ∷ ps) qs w v u h k = (h.0, h.1, h.2, follows_append ps qs h.0 v u h.3 k)

  pub pairs_append : (ps qs : List Passing) → all_pairs M (ps ++ qs) ≡ all_pairs M ps ++ all_pairs M qs
  unfolding all_pairs
  pairs_append [] qs = refl
  pairs_append (p ∷ ps) qs = ap (λ z. pair_events M p ++ z) (pairs_append ps qs) ∙ sym (append_assoc (pair_events M p) (all_pairs M ps) (all_pairs M qs))

  pub record Moves (w : List ℕ) (es : List Event) (ps : List Passing) (v : List ℕ) : Type 0 where
    pub events : es ≡ all_pairs M ps
    pub follows : Follows w ps v

  pub moves_none : (w : List ℕ) → Moves w [] [] w
  unfolding all_pairs
  moves_none w = record { events = refl; follows = refl }

  pub moves_append :
      {w v u : List ℕ} {es fs : List Event} {ps qs : List Passing} → Moves w es ps v → Moves v fs qs u → Moves w (es ++ fs) (ps ++ qs) u
  moves_append {w} {v} {u} {es} {fs} {ps} {qs} a b =
      record {
        events = ap₂ ◌++◌ a.events b.events ∙ sym (pairs_append ps qs);
        follows = follows_append ps qs w v u a.follows b.follows;
      }

  closed_follows : (xs w : List ℕ) → Lasts M xs → Follows (xs ++ w) (map closed xs) w
  closed_follows [] w h = refl
  closed_follows (x ∷ xs) w h = (xs ++ w, refl, h.1, closed_follows xs w h.2)

  opened_follows : (ys w : List ℕ) → Firsts M ys → Follows w (map opened ys) (into ys w)
  unfolding into
  opened_follows [] w h = refl
  opened_follows (y ∷ ys) w h = (h.0, h.1, opened_follows ys (y ∷ w) h.2)

  pub moves_closed : (xs w : List ℕ) → Lasts M xs → Moves (xs ++ w) (all_pairs M (map closed xs)) (map closed xs) w
  moves_closed xs w h = record { events = refl; follows = closed_follows xs w h }

  pub moves_opened : (ys w : List ℕ) → Firsts M ys → Moves w (all_pairs M (map opened ys)) (map opened ys) (into ys w)
  moves_opened ys w h = record { events = refl; follows = opened_follows ys w h }

  pub moves_as :
      {w v v' : List ℕ} {es es' : List Event} {ps ps' : List Passing} → es' ≡ es → ps' ≡ ps → v ≡ v' → Moves w es ps v → Moves w es' ps' v'
  moves_as {w} {v} {v'} {es} {es'} {ps} {ps'} e p q a =
      record {
        events = e ∙ (a.events ∙ ap (all_pairs M) (sym p));
        follows = subst (λ z. Follows w ps' z) q (subst (λ z. Follows w z v) (sym p) a.follows);
      }
