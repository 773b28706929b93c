-- Laws of names: how large their numbers are, and each way in which a storage carrier lies under one, or none.
use Rattle.std.specs.Prelude.{ℕ, suc, ◌+◌, ◌<◌, ◌≡◌, refl, Bool, true, false, [], ◌∷◌, length}
use Rattle.std.proofs.Math.Path.{ap}
use Rattle.std.proofs.Common.{◌∙◌, arith}
use Rattle.std.proofs.lemmas.Bool.{false≢true}
use Rattle.std.proofs.Math.Option.{Option, none, some, none-ne-some, some-injective}
use Rattle.std.proofs.Math.ListN.{get_elem?}
use Rattle.rules.specs.Text.Scan.{same_bytes}
use Rattle.rules.specs.Declarations.{Word, Names, BitNames, Target, Declared, Table, number_from, number_of, reach, reach_number, reach_of, reach_storage, reach_under, reach_on}
use Rattle.rules.specs.Whole.Sets.{owner, owner_in}
use Rattle.rules.specs.Faults.Declared.{fits, good_target, declared_at}
use Rattle.laws_accepted.specs.Cited.Declared.{Declares}
use Rattle.laws_accepted.proofs.Accepted.Declared.{good_target_lem}

-- a number of a name is that of a declaration
number_from_lem : (ds : Table) (i k : ℕ) (n : Word) → number_from i n ds ≡ some k → k < i + length ds
unfolding number_from
number_from_lem [] i k n e = absurd (none-ne-some k e)
number_from_lem (d ∷ ds) i k n e = by (same_bytes d.name.word n) (λ h. number_from_lem ds (suc i) k n h) e
  where
    by : (b : Bool) → (number_from (suc i) n ds ≡ some k → k < suc i + length ds) → elim b [ true ↦ some i | false ↦ number_from (suc i) n ds ] ≡ some k → k < i + suc (length ds)
    by true rest h = omega (arith, some-injective i k h)
    by false rest h = omega (arith, rest h)

pub number_bound : (ds : Table) (k : ℕ) (n : Word) → number_of ds n ≡ some k → k < length ds
unfolding number_of
number_bound ds k n e = omega (arith, number_from_lem ds 0 k n e)

-- what a good target is
record GoodTarget (ds : Table) (own : Option BitNames) (s : Names) (q : Option ℕ) : Type 0 where
  number : ℕ
  is : q ≡ some number
  under : Declared
  found : get_elem? ds number ≡ some under
  last : under.target ≡ none
  own_bits : BitNames
  own_are : own ≡ some own_bits
  bits : BitNames
  are : under.bits ≡ some bits

target_of : (ds : Table) (own : Option BitNames) (s : Names) (q : Option ℕ) → good_target own s (declared_at ds q) ≡ true → GoodTarget ds own s q
target_of ds own s none e = absurd (false≢true e)
target_of ds own s (some u) e = by (get_elem? ds u) refl e
  where
    by : (x : Option Declared) → get_elem? ds u ≡ x → good_target own s x ≡ true → GoodTarget ds own s (some u)
    by none f h = absurd (false≢true h)
    by (some d) f h = words d.words d.target d.bits own refl refl refl h
      where
        words : (w : Option Names) (t : Option Target) (b c : Option BitNames) → d.target ≡ t → d.bits ≡ b → own ≡ c
            → elim w [ none ↦ elim t [ none ↦ fits b c s | some x ↦ false ] | some x ↦ false ] ≡ true → GoodTarget ds own s (some u)
        words (some _) t b c et eb ec h = absurd (false≢true h)
        words none (some _) b c et eb ec h = absurd (false≢true h)
        words none none none c et eb ec h = absurd (false≢true h)
        words none none (some b) none et eb ec h = absurd (false≢true h)
        words none none (some b) (some c) et eb ec h =
            record { number = u; is = refl; under = d; found = f; last = et; own_bits = c; own_are = ec; bits = b; are = eb }

owner_under : (ds : Table) (own : Option BitNames) (s : Names) (q : Option ℕ) (b : BitNames) (g : GoodTarget ds own s q) → owner_in (reach_under ds b s q)
    ≡ g.number ∷ []
unfolding reach_under reach_on
owner_under ds own s q b g = rw (g.is, reach_under, g.found, g.last, reach_on, g.are)

module _ (ds : Table) (w : Word) where
  pub owner_unknown : number_of ds w ≡ none → owner ds w ≡ []
  unfolding owner reach reach_number
  owner_unknown e = rw (e, reach, reach_number)

  -- the declaration d of the name, which has the number k
  module _ (k : ℕ) (d : Declared) (number : number_of ds w ≡ some k) (found : get_elem? ds k ≡ some d) where
    reach_declared : reach ds w ≡ reach_of ds k d d.target
    unfolding reach reach_number
    reach_declared = rw (number, reach_number, found)

    pub owner_bare : d.target ≡ none → d.bits ≡ none → owner ds w ≡ []
    unfolding owner reach_of reach_storage
    owner_bare t b = ap owner_in reach_declared ∙ rw (t, reach_of, b)

    pub owner_storage : (b : BitNames) → d.target ≡ none → d.bits ≡ some b → owner ds w ≡ k ∷ []
    unfolding owner reach_of reach_storage
    owner_storage b t e = ap owner_in reach_declared ∙ rw (t, reach_of, e, reach_storage)

    -- a mapping's target is storage, since the 33s are passed
    module _ (outer : Word) (t : Target) (mapped : d.target ≡ some t) (lawful : Declares outer ds) where
      pub owner_mapped : (u : ℕ) × (number_of ds t.name.word ≡ some u) × (owner ds w ≡ u ∷ [])
      unfolding owner reach_of
      owner_mapped =
          let q = number_of ds t.name.word in
          let g = target_of ds d.bits t.bits q (good_target_lem lawful k d found t mapped) in (
            g.number,
            g.is,
            ap owner_in reach_declared ∙ (ap (λ (x : Option Target). owner_in (reach_of ds k d x)) mapped
                ∙ (ap (λ (x : Option BitNames). owner_in (elim x [ none ↦ none | some b ↦ reach_under ds b t.bits q ])) g.own_are ∙ owner_under ds
                d.bits t.bits q g.own_bits g)),
          )
