-- Laws of carriers in conflict: by the words that hold the sets, and the first one.
use Rattle.std.specs.Prelude.{ℕ, zero, suc, ◌+◌, ◌<◌, ◌≤◌, ◌≡◌, refl, Bool, true, false, List, [], ◌∷◌, length}
use Rattle.std.proofs.Math.Path.{sym, ap₂}
use Rattle.std.proofs.Common.{ap, ◌∙◌, arith}
use Rattle.std.proofs.Math.Bool.{◌&&◌, ◌||◌}
use Rattle.std.proofs.Math.Option.{none, some}
use Rattle.std.proofs.Math.Decide.{dec_lt}
use Rattle.std.proofs.Math.ListN.{get_elem?}
use Rattle.rules.specs.Declarations.{Declared, Table}
use Rattle.rules.specs.Whole.Sets.{Sets}
use Rattle.laws_orders.proofs.Orders.Tests.{member_append}
use Rattle.reading.specs.Bits.{holds}
use Rattle.whole.specs.GroupKeys.{Holding}
use Rattle.rules.specs.Reasons.{conflict, first_conflict, writers, writers_by}
use Rattle.sharing.specs.Shared.{Shared}

-- the test in the order of the code: the first writes, the second reads, the second writes, the first reads
conflict_by : Bool → Bool → Bool → Bool → Bool
conflict_by true true v r = true
conflict_by true false v r = v
conflict_by false s true r = r
conflict_by false s false r = false

by_cases : (w s v r : Bool) → ((w && (s || v)) || (v && (r || w))) ≡ conflict_by w s v r
unfolding conflict_by
by_cases true true v r = refl
by_cases true false true r = refl
by_cases true false false r = refl
by_cases false s true true = refl
by_cases false s true false = refl
by_cases false s false r = refl

module _ (r₁ w₁ r₂ w₂ : List ℕ) (k : ℕ) where
  conflict_is : (a b : Sets) → Holding r₁ w₁ a → Holding r₂ w₂ b → conflict_by (holds w₁ k) (holds r₂ k) (holds w₂ k) (holds r₁ k) ≡ conflict a b k
  unfolding conflict
  conflict_is a b x y =
      sym (ap₂ ◌||◌
      (ap₂ ◌&&◌ (sym (x.writing k)) (member_append k b.reads b.writes ∙ ap₂ ◌||◌ (sym (y.reading k)) (sym (y.writing k))))
      (ap₂ ◌&&◌ (sym (y.writing k)) (member_append k a.reads a.writes ∙ ap₂ ◌||◌ (sym (x.reading k)) (sym (x.writing k))))
      ∙ by_cases (holds w₁ k) (holds r₂ k) (holds w₂ k) (holds r₁ k))

  module _ {p : Bool} (e : p ≡ holds w₁ k) where
    pub both_touch : {q : Bool} → p ≡ true → q ≡ holds r₂ k → q ≡ true → (a b : Sets) → Holding r₁ w₁ a → Holding r₂ w₂ b → true ≡ conflict a b k
    unfolding conflict_by
    both_touch t f u a b x y = ap₂ (λ (i j : Bool). conflict_by i j (holds w₂ k) (holds r₁ k)) (sym t ∙ e) (sym u ∙ f) ∙ conflict_is a b x y

    pub second_writes : {q o : Bool} → p ≡ true → q ≡ holds r₂ k → q ≡ false → o ≡ holds w₂ k → (a b : Sets) → Holding r₁ w₁ a → Holding r₂ w₂ b → o ≡ conflict a b k
    unfolding conflict_by
    second_writes t f u g a b x y = g ∙ (ap₂ (λ (i j : Bool). conflict_by i j (holds w₂ k) (holds r₁ k)) (sym t ∙ e) (sym u ∙ f) ∙ conflict_is a b x y)

    pub first_reads : {q o : Bool} → p ≡ false → q ≡ holds w₂ k → q ≡ true → o ≡ holds r₁ k → (a b : Sets) → Holding r₁ w₁ a → Holding r₂ w₂ b → o ≡ conflict a b k
    unfolding conflict_by
    first_reads t f u g a b x y = g ∙ (ap₂ (λ (i j : Bool). conflict_by i (holds r₂ k) j (holds r₁ k)) (sym t ∙ e) (sym u ∙ f) ∙ conflict_is a b x y)

    pub none_writes : {q : Bool} → p ≡ false → q ≡ holds w₂ k → q ≡ false → (a b : Sets) → Holding r₁ w₁ a → Holding r₂ w₂ b → false ≡ conflict a b k
    unfolding conflict_by
    none_writes t f u a b x y = ap₂ (λ (i j : Bool). conflict_by i (holds r₂ k) j (holds r₁ k)) (sym t ∙ e) (sym u ∙ f) ∙ conflict_is a b x y

    -- who writes
    pub writers_are : {q : Bool} (b c : Bool) → p ≡ b → q ≡ holds w₂ k → q ≡ c → (x y : Sets) → Holding r₁ w₁ x → Holding r₂ w₂ y → writers_by b c ≡ writers x y k
    unfolding writers
    writers_are b c t f u x y h i = ap₂ writers_by (sym t ∙ (e ∙ h.writing k)) (sym u ∙ (f ∙ i.writing k))

-- the search for the first
pub record Sharing (r₁ w₁ r₂ w₂ : List ℕ) (m k : ℕ) : Type 0 where
  pub within : k ≤ m
  pub before : (a b : Sets) → Holding r₁ w₁ a → Holding r₂ w₂ b → (i : ℕ) → i < k → conflict a b i ≡ false

pub share_starts : (r₁ w₁ r₂ w₂ : List ℕ) (m : ℕ) → Sharing r₁ w₁ r₂ w₂ m 0
share_starts r₁ w₁ r₂ w₂ m = record { within = omega arith; before = λ a b x y i l. absurd (omega arith) }

module _ {r₁ w₁ r₂ w₂ : List ℕ} {m k : ℕ} (inv : Sharing r₁ w₁ r₂ w₂ m k) where
  pub share_over : m ≤ k → Shared r₁ w₁ r₂ w₂ m m
  share_over h = record { within = omega arith; before = λ a b x y i l. inv.before a b x y i (omega (arith, inv.within)); one = λ l a b x y. absurd (omega arith) }

  module _ (h : k < m) {t : Bool} (is : (a b : Sets) → Holding r₁ w₁ a → Holding r₂ w₂ b → t ≡ conflict a b k) where
    pub share_found : t ≡ true → Shared r₁ w₁ r₂ w₂ m k
    share_found e = record { within = omega arith; before = inv.before; one = λ l a b x y. sym (is a b x y) ∙ e }

    pub share_on : t ≡ false → Sharing r₁ w₁ r₂ w₂ m (k + 1)
    share_on e = record { within = omega arith; before = λ a b x y i l. by a b x y i l (dec_lt i k) }
      where
        by : (a b : Sets) → Holding r₁ w₁ a → Holding r₂ w₂ b → (i : ℕ) → i < k + 1 → Dec (i < k) → conflict a b i ≡ false
        by a b x y i l (yes z) = inv.before a b x y i z
        by a b x y i l (no z) = ap (conflict a b) (let q : i ≡ k = omega arith in q) ∙ (sym (is a b x y) ∙ e)

-- the first of a table
pub first_none : (a b : Sets) (j : ℕ) (ds : Table) → ((i : ℕ) → i < j + length ds → conflict a b i ≡ false) → first_conflict a b j ds ≡ none
unfolding first_conflict
first_none a b j [] h = refl
first_none a b j (d ∷ ds) h = rw (h j (omega arith), first_conflict) (first_none a b (suc j) ds (λ i l. h i (omega arith)))

pub first_one : (a b : Sets) (j k : ℕ) (ds : Table) (d : Declared) → get_elem? ds k ≡ some d → ((i : ℕ) → i < j + k → conflict a b i ≡ false) → conflict a b (j + k) ≡ true
    → first_conflict a b j ds ≡ some (record { number = j + k; place = d.name.place })
unfolding first_conflict
first_one a b j k [] d e h t = absurd (let z : ◌≡◌ {A = ℕ} 0 1 = cc in omega arith)
first_one a b j zero (x ∷ ds) d e h t =
    let same : x ≡ d = cc in
    let z : j + 0 ≡ j = omega arith in
    rw (ap (conflict a b) (sym z) ∙ t, first_conflict) (ap₂ (λ (i : ℕ) (y : Declared). some (record { number = i; place = y.name.place })) (sym z) same)
first_one a b j (suc k) (x ∷ ds) d e h t =
    let z : j + suc k ≡ suc j + k = omega arith in
    rw (h j (omega arith), first_conflict)
    (first_one a b (suc j) k ds d e (λ i l. h i (omega arith)) (ap (conflict a b) (sym z) ∙ t) ∙ ap (λ (i : ℕ). some (record { number = i; place = d.name.place })) (sym z))
