-- Laws of the storage carrier of a name: each way in which there is one, or none.
-- Assumes nothing.
use Rattle.std.specs.Prelude.{ℕ, ◌<◌, ◌≤◌, List, [], ◌∷◌}
use Rattle.std.proofs.Math.Path.{◌≡◌, refl, sym, ap}
use Rattle.std.proofs.Common.{◌∙◌, arith}
use Rattle.std.proofs.Math.Bool.{true, false}
use Rattle.std.proofs.Math.Option.{Option, none, some}
use Rattle.std.proofs.lemmas.Bool.{not-false}
use Rattle.std.proofs.Math.ListN.{get_elem?}
use Rattle.rules.specs.Text.Scan.{same_bytes}
use Rattle.rules.specs.Declarations.{Names as Span-of, BitNames, Target, Declared, Table, Word, declared_of, number_of, reach, reach_number, reach_of, reach_storage, reach_under, reach_on}
use Rattle.rules.specs.Faults.Declared.{declared_at, good_target, fits, bad_mapping}
use Rattle.rules.specs.Whole.Sets.{owner_in}
use Rattle.records.specs.Holds.{inside_cell}
use Rattle.table.specs.Meaning.{outer_only}
use Rattle.accesses.specs.Laws.Tests.{either_false}
use Rattle.accesses.specs.Scene.{outer_of, table_of}
use Rattle.accesses.specs.Laws.Lookups.{Found, declared, numberless, good_mapping}
use Rattle.destinations.specs.Owners.{owners_of, NameHere}

-- what 33 says of a target: it is declared, is no mapping, and it and the mapping have bits
pub record OnStorage (ds : Table) (d : Declared) (t : Target) : Type 0 where
  pub number : ℕ
  pub under : Declared
  pub numbers : number_of ds t.name.word ≡ some number
  pub listed : get_elem? ds number ≡ some under
  pub plain : under.target ≡ none
  pub bits : BitNames
  pub has_bits : under.bits ≡ some bits
  pub own : BitNames
  pub has_own : d.bits ≡ some own

module _ (outer : Word) (ds : Table) (d : Declared) (t : Target) where
  storage : bad_mapping outer ds d (some t) ≡ false → OnStorage ds d t
  unfolding bad_mapping
  storage e = by_number (number_of ds t.name.word) refl (not-false _ (either_false (same_bytes outer t.name.word) _ e).1)
    where
      clash : {A : Type 0} → false ≡ true → A
      clash z = absurd (let q : ◌≡◌ {A = ℕ} 0 1 = cc in omega arith)

      by_bits : (k : ℕ) (u : Declared) → number_of ds t.name.word ≡ some k → get_elem? ds k ≡ some u → u.target ≡ none
          → (b own : Option BitNames) → u.bits ≡ b → d.bits ≡ own → fits b own t.bits ≡ true → OnStorage ds d t
      by_bits k u n l p none own eb eo z = clash z
      by_bits k u n l p (some c) none eb eo z = clash z
      by_bits k u n l p (some c) (some o) eb eo z =
          record { number = k; under = u; numbers = n; listed = l; plain = p; bits = c; has_bits = eb; own = o; has_own = eo }

      by_parts : (k : ℕ) (u : Declared) → number_of ds t.name.word ≡ some k → get_elem? ds k ≡ some u
          → (w : Option Span-of) (g : Option Target) → u.target ≡ g
          → elim w [ none ↦ elim g [ none ↦ fits u.bits d.bits t.bits | some x ↦ false ] | some x ↦ false ] ≡ true → OnStorage ds d t
      by_parts k u n l (some w) g p z = clash z
      by_parts k u n l none (some g) p z = clash z
      by_parts k u n l none none p z = by_bits k u n l p u.bits d.bits refl refl z

      by_declared : (k : ℕ) (e : Option Declared) → number_of ds t.name.word ≡ some k → get_elem? ds k ≡ e → good_target d.bits t.bits e ≡ true → OnStorage ds d t
      by_declared k none n l z = clash z
      by_declared k (some u) n l z = by_parts k u n l u.words u.target refl z

      by_number : (n : Option ℕ) → number_of ds t.name.word ≡ n → good_target d.bits t.bits (declared_at ds n) ≡ true → OnStorage ds d t
      by_number none n z = clash z
      by_number (some k) n z = by_declared k (get_elem? ds k) n refl z

  -- so a mapping reaches the carrier under it
  reach_storage_lem : (s : OnStorage ds d t) (k : ℕ) → owner_in (reach_of ds k d (some t)) ≡ s.number ∷ []
  unfolding reach_of reach_under reach_on
  reach_storage_lem s k =
      ap (λ (b : Option BitNames). owner_in (elim b [ none ↦ none | some b ↦ reach_under ds b t.bits (number_of ds t.name.word) ])) s.has_own
      ∙ ap (λ n. owner_in (reach_under ds s.own t.bits n)) s.numbers
      ∙ ap (λ (u : Option Declared). owner_in (elim u [ none ↦ none | some u ↦ reach_on ds s.own t.bits s.number u.target u.bits ])) s.listed
      ∙ ap (λ g. owner_in (reach_on ds s.own t.bits s.number g s.under.bits)) s.plain
      ∙ ap (λ b. owner_in (reach_on ds s.own t.bits s.number none b)) s.has_bits

-- by what the name's cell says, and by the declaration of that number
module _ {records values decls : List ℕ} {i : ℕ} (v : NameHere records values decls i) where
  pub owner_none : outer_only ≤ inside_cell records i → [] ≡ owners_of v
  unfolding reach reach_number
  owner_none h = rw (numberless v.scene i v.name v.within v.here h)

  module _ {k : ℕ} (e : k ≡ inside_cell records i) (h : k < outer_only) where
    known : (number_of (table_of v.scene) v.name.word ≡ some k) × Found v.scene k
    known = declared v.scene i v.name v.within v.here k e (λ z. omega arith) (λ z. omega arith)

    pub owner_found : Found v.scene k
    owner_found = known.1

    abbrev own : Declared
    own = declared_of owner_found.declaration

    reached : owners_of v ≡ owner_in (reach_of (table_of v.scene) k own own.target)
    unfolding reach reach_number
    reached =
        ap (λ n. owner_in (reach_number ds n)) known.0
        ∙ ap (λ (o : Option Declared). owner_in (elim o [ none ↦ none | some d ↦ reach_of ds k d d.target ])) owner_found.listed
      where
        outer : Word
        outer = outer_of v.scene

        ds : Table
        ds = table_of v.scene

    -- a carrier of its own, or a body
    pub owner_bitless : own.target ≡ none → own.bits ≡ none → [] ≡ owners_of v
    unfolding reach_of reach_storage
    owner_bitless t b = sym (reached ∙ rw (t, b))

    pub owner_own : own.target ≡ none → (b : BitNames) → own.bits ≡ some b → k ∷ [] ≡ owners_of v
    unfolding reach_of reach_storage
    owner_own t b q = sym (reached ∙ rw (t, q))

    -- a mapping
    module _ {t : Target} (q : own.target ≡ some t) where
      pub owner_storage : OnStorage (table_of v.scene) own t
      owner_storage = storage (outer_of v.scene) (table_of v.scene) own t (ap (bad_mapping (outer_of v.scene) (table_of v.scene) own) (sym q) ∙ good_mapping v.scene owner_found)

      pub owner_under : owner_storage.number ∷ [] ≡ owners_of v
      owner_under =
          sym (reached ∙ ap (λ g. owner_in (reach_of (table_of v.scene) k own g)) q
          ∙ reach_storage_lem (outer_of v.scene) (table_of v.scene) own t owner_storage k)
