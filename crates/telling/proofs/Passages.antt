-- What is passed where an action has ended and another begins, or the next member of a group.
use Prim.Native.Nat.{ℕ, zero, suc, ◌+◌, ◌-◌}
use Rattle.std.specs.Prelude.{◌≡◌, true, false}
use Rattle.std.proofs.Math.Path.{refl, ap, ap₂}
use Rattle.std.proofs.Common.{◌∙◌, arith, eq-eqb, ne_eqb}
use mathlib.Core.List.{List, [], ◌∷◌, ◌++◌, append-nil, map}
use Rattle.std.proofs.Math.ListN.{length, length-append}
use Rattle.laws_orders.proofs.Orders.Tests.{impossible}
use Rattle.telling.specs.Cited.Passing.{Grouping, Passing, opened, turned, closed, meeting, meet, climb, leave_deeper, passage}

-- inside members that are entered one after the other
unfoldable pub into : List ℕ → List ℕ → List ℕ
into [] c = c
into (y ∷ ys) c = into ys (y ∷ c)

pub into_append : (ys c d : List ℕ) → into ys (c ++ d) ≡ into ys c ++ d
unfolding into
into_append [] c d = refl
into_append (y ∷ ys) c d = into_append ys (y ∷ c) d

into_into : (ys c d : List ℕ) → into (into ys c) d ≡ into c (ys ++ d)
unfolding into
into_into [] c d = refl
into_into (y ∷ ys) c d = into_into ys (y ∷ c) d

module _ (M : Grouping) where
  -- last members of their groups
  abbrev pub Lasts : List ℕ → Type 0
  Lasts [] = Unit {0}
  Lasts (z ∷ zs) = ((j : ℕ) × (M.before z ≡ suc j)) × (M.last z ≡ true) × Lasts zs

  -- first ones
  abbrev pub Firsts : List ℕ → Type 0
  Firsts [] = Unit {0}
  Firsts (y ∷ ys) = (M.before y ≡ 0) × (M.last y ≡ false) × Firsts ys

  firsts_into : (ys c : List ℕ) → Firsts ys → Firsts c → Firsts (into ys c)
  unfolding into
  firsts_into [] c h k = k
  firsts_into (y ∷ ys) c h k = firsts_into ys (y ∷ c) h.2 (h.0, h.1, k)

  -- the way up is over: in one member, or from a member to the next
  abbrev Over : List ℕ → List ℕ → List Passing → Type 0
  Over xs ys ps = (to : List ℕ) → meet M xs ys to ≡ ps ++ map opened to

  over_same : (c : List ℕ) → Over c c []
  unfolding meet
  over_same [] to = refl
  over_same (x ∷ c) to = ap (λ b. meeting M b (M.before x) x x to (meet M c c (x ∷ to))) (eq-eqb x x refl)

  over_next : (x y : ℕ) (c : List ℕ) → M.before y ≡ suc (M.before x) → Over (x ∷ c) (y ∷ c) (turned y ∷ [])
  unfolding meet
  over_next x y c e to =
      ap₂ (λ b j. meeting M b j x y to (meet M c c (y ∷ to))) (ne_eqb x y (λ q. impossible (omega (arith, e, ap M.before q)))) e

  module _ (c d : List ℕ) (ps : List Passing) (over : Over c d ps) where
    meets :
        (xs ys to : List ℕ) → length xs ≡ length ys → Lasts xs → Firsts ys
        → meet M (xs ++ c) (ys ++ d) to ≡ map closed xs ++ (ps ++ map opened (into ys to))
    unfolding meet into
    meets [] [] to l h k = over to
    meets [] (y ∷ ys) to l h k = impossible (omega (arith, l))
    meets (x ∷ xs) [] to l h k = impossible (omega (arith, l))
    meets (x ∷ xs) (y ∷ ys) to l h k =
        ap₂ (λ b j. meeting M b j x y to (meet M (xs ++ c) (ys ++ d) (y ∷ to)))
        (ne_eqb x y (λ q. impossible (omega (arith, h.0.1, k.0, ap M.before q)))) k.0
        ∙ ap (λ z. closed x ∷ z) (meets xs ys (y ∷ to) (omega (arith, l)) h.2 k.2)

    climbs :
        (e : ℕ) (xs ys to : List ℕ) → length ys ≡ e + length xs → Lasts xs → Firsts ys
        → climb M e (xs ++ c) (ys ++ d) to ≡ map closed xs ++ (ps ++ map opened (into ys to))
    unfolding climb into
    climbs zero xs ys to l h k = meets xs ys to (omega (arith, l)) h k
    climbs (suc e) xs [] to l h k = impossible (omega (arith, l))
    climbs (suc e) xs (y ∷ ys) to l h k = climbs e xs ys (y ∷ to) (omega (arith, l)) h k.2

    leaves :
        (a e : ℕ) (xs ys : List ℕ) (j : ℕ) → length xs ≡ a + j → length ys ≡ e + j → Lasts xs → Firsts ys
        → leave_deeper M a e (xs ++ c) (ys ++ d) ≡ map closed xs ++ (ps ++ map opened (into ys []))
    unfolding leave_deeper
    leaves zero e xs ys j l m h k = climbs e xs ys [] (omega (arith, l, m)) h k
    leaves (suc a) e [] ys j l m h k = impossible (omega (arith, l))
    leaves (suc a) e (x ∷ xs) ys j l m h k = ap (λ z. closed x ∷ z) (leaves a e xs ys j (omega (arith, l)) m h.2 k)

    -- from behind last members to inside first ones
    passes :
        length c ≡ length d → (xs ys : List ℕ) → Lasts xs → Firsts ys
        → passage M (xs ++ c) (into ys d) ≡ map closed xs ++ (ps ++ map opened ys)
    unfolding passage into
    passes l xs ys h k =
        let v : List ℕ = into ys [] in
        let a : ℕ = length (xs ++ c) - length (v ++ d) in
        let e : ℕ = length (v ++ d) - length (xs ++ c) in
        let p = length-append xs c in
        let q = length-append v d in
        let back : into v [] ≡ ys = into_into ys [] [] ∙ append-nil ys in
        ap (passage M (xs ++ c)) (into_append ys [] d)
        ∙ (leaves a e xs v (length xs - a) (omega (arith, l, p, q)) (omega (arith, l, p, q)) h (firsts_into ys [] k tt)
        ∙ ap (λ z. map closed xs ++ (ps ++ map opened z)) back)

  -- from behind last members, out of them and inside first ones
  pub passage_on : (c xs ys : List ℕ) → Lasts xs → Firsts ys → passage M (xs ++ c) (into ys c) ≡ map closed xs ++ map opened ys
  passage_on c = passes c c [] (over_same c) refl

  -- to the next member of a group
  pub passage_next :
      (x y : ℕ) (c xs ys : List ℕ) → M.before y ≡ suc (M.before x) → Lasts xs → Firsts ys
      → passage M (xs ++ x ∷ c) (into ys (y ∷ c)) ≡ map closed xs ++ turned y ∷ map opened ys
  passage_next x y c xs ys e = passes (x ∷ c) (y ∷ c) (turned y ∷ []) (over_next x y c e) refl xs ys
