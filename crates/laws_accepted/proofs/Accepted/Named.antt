-- Names: what the tests on them mean, and where the declaration of a name stands in a table.
use Rattle.std.specs.Prelude.{ℕ, suc, ◌+◌, ◌≡◌, refl, Bool, true, false, ◌&&◌, List, [], ◌∷◌, eqb}
use Rattle.std.proofs.Common.{sym, ◌∙◌, ap, ap₂, subst, arith, eqb-true, eq-eqb}
use Rattle.std.proofs.lemmas.Bool.{false≢true}
use Rattle.std.proofs.Math.Option.{Option, none, some}
use Rattle.std.proofs.Math.ListN.{get_elem?}
use Rattle.rules.specs.Text.Scan.{same_bytes}
use Rattle.rules.specs.Grammar.Trees.{Action}
use Rattle.rules.specs.Declarations.{Word, Declared, Table, number_from, number_of, body_number, body_of}
use Rattle.rules.specs.Faults.Declared.{is_known}
use Rattle.laws_orders.proofs.Orders.Tests.{impossible}

pub and_both : (a b : Bool) → (a && b) ≡ true → (a ≡ true) × (b ≡ true)
and_both true b e = (refl, e)
and_both false b e = absurd (false≢true e)

pub same_equal : (x y : Word) → same_bytes x y ≡ true → x ≡ y
unfolding same_bytes
same_equal [] [] e = refl
same_equal [] (c ∷ cs) e = absurd (false≢true e)
same_equal (b ∷ bs) [] e = absurd (false≢true e)
same_equal (b ∷ bs) (c ∷ cs) e =
    let h = and_both (eqb b c) (same_bytes bs cs) e in ap₂ (λ (x : ℕ) (xs : Word). x ∷ xs) (eqb-true b c h.0) (same_equal bs cs h.1)

pub same_itself : (x : Word) → same_bytes x x ≡ true
unfolding same_bytes
same_itself [] = refl
same_itself (b ∷ bs) = ap₂ ◌&&◌ (eq-eqb b b refl) (same_itself bs)

-- every one of some names is among the known ones
abbrev pub AllKnown : List Word → List Word → Type 0
AllKnown ls [] = Unit {0}
AllKnown ls (k ∷ ks) = (is_known k ls ≡ true) × AllKnown ls ks

pub none_known : (ks : List Word) → AllKnown [] ks → ks ≡ []
unfolding is_known
none_known [] h = refl
none_known (k ∷ ks) h = absurd (false≢true h.0)

-- a declaration that stands in a table under a name
pub record Found (ds : Table) (n : Word) (i : ℕ) : Type 0 where
  pub declared : Declared
  pub there : get_elem? ds i ≡ some declared
  pub named : declared.name.word ≡ n

found_from : (i : ℕ) (n : Word) (ds : Table) (j : ℕ) → number_from i n ds ≡ some j → (k : ℕ) × (j ≡ i + k) × Found ds n k
unfolding number_from
found_from i n [] j e = impossible (cc)
found_from i n (d ∷ ds) j e = by (same_bytes d.name.word n) refl (found_from (suc i) n ds j) e
  where
    by :
        (b : Bool) → same_bytes d.name.word n ≡ b → (number_from (suc i) n ds ≡ some j → (k : ℕ) × (j ≡ suc i + k) × Found ds n k)
        → (elim b [ true ↦ some i | false ↦ number_from (suc i) n ds ]) ≡ some j → (k : ℕ) × (j ≡ i + k) × Found (d ∷ ds) n k
    by true q ih z = let y : i ≡ j = cc in (0, omega arith, record { declared = d; there = refl; named = same_equal d.name.word n q })
    by false q ih z =
        let r = ih z in
        let y = r.1 in
        (suc r.0, omega arith, record { declared = r.2.declared; there = r.2.there; named = r.2.named })

-- the number of a name is that of a declaration of it
pub found : (ds : Table) (n : Word) (i : ℕ) → number_of ds n ≡ some i → Found ds n i
unfolding number_of
found ds n i e = let r = found_from 0 n ds i e in let q : r.0 ≡ i = omega (arith, r.1) in subst (Found ds n) q r.2

-- the body of a name is that of a declaration of it
pub record FoundBody (ds : Table) (n : Word) (a : Action) : Type 0 where
  pub number : ℕ
  pub declared : Declared
  pub there : get_elem? ds number ≡ some declared
  pub named : declared.name.word ≡ n
  pub its : declared.body ≡ some a

pub found_body : (ds : Table) (n : Word) (a : Action) → body_of ds n ≡ some a → FoundBody ds n a
unfolding body_of body_number
found_body ds n a e = by (number_of ds n) refl e
  where
    at : (i : ℕ) (o : Option Declared) → get_elem? ds i ≡ o → Found ds n i → (elim o [ none ↦ none | some d ↦ d.body ]) ≡ some a → FoundBody ds n a
    at i none h f z = impossible (cc)
    at i (some d) h f z =
        let q : f.declared ≡ d = cc f.there in
        record { number = i; declared = d; there = h; named = ap (λ (x : Declared). x.name.word) (sym q) ∙ f.named; its = z }

    by : (o : Option ℕ) → number_of ds n ≡ o → body_number ds o ≡ some a → FoundBody ds n a
    by none h z = impossible (cc)
    by (some i) h z = at i (get_elem? ds i) refl (found ds n i h) z
