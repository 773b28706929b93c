-- What a name's cell says: the name is unknown, it is the outer name alone, or a declaration of that number stands in the table, lawful by the 30s.
-- Assumes nothing.
use Prim.Native.Nat.{ℕ, zero, suc, ◌+◌, ◌*◌, ◌<◌, ◌≤◌}
use Rattle.std.proofs.Math.Path.{◌≡◌, refl, ap}
use Rattle.std.proofs.Common.{sym, ◌∙◌, arith}
use Rattle.std.specs.Prelude.{Bool, ◌||◌, length}
use Rattle.std.proofs.Math.Bool.{true, false}
use mathlib.Core.List.{List, [], ◌∷◌, ◌++◌, map, append-eq-nil_iff}
use Rattle.std.proofs.Math.Option.{Option, none, some}
use Rattle.std.proofs.Math.ListN.{get_elem?}
use Rattle.cells.specs.Cells.{cell}
use Rattle.rules.specs.Text.Tokens.{Name, Info, Token, tk}
use Rattle.rules.specs.Text.Scan.{same_bytes}
use Rattle.rules.specs.Grammar.Trees.{Declaration}
use Rattle.rules.specs.Declarations.{Word, Declared, Table, declared_of, number_from, number_of}
use Rattle.rules.specs.Faults.Fault.{Fault, when}
use Rattle.rules.specs.Faults.Declared.{large, large_bits, large_words, too_many, twice, bad_mapping, mappings, faults30}
use Rattle.table.specs.Kth.{map_found}
use Rattle.table.specs.Laws.Kth.{table_length}
use Rattle.records.specs.Holds.{token_at, inside_cell}
use Rattle.table.specs.Declarations.{DeclaredAt, declaration_list, all_declared}
use Rattle.table.specs.Views.{View}
use Rattle.table.specs.Meaning.{meaning_by, meaning_of, outer_only, unknown_name}
use Rattle.accesses.specs.Laws.Tests.{either_false}
use Rattle.accesses.specs.Scene.{Scene, outer_of, table_of}

-- the number of a name is that of an entry
pub record Entered {A : Type 0} (l : List A) (k : ℕ) : Type 0 where
  pub item : A
  pub at : get_elem? l k ≡ some item
  pub below : k < length l

later : {A : Type 0} (a : A) (l : List A) (k : ℕ) → Entered l k → Entered (a ∷ l) (suc k)
later a l k e = record { item = e.item; at = e.at; below = let b = e.below in omega arith }

found : (i : ℕ) (n : Word) (ds : Table) (k : ℕ) → number_from i n ds ≡ some k → (j : ℕ) × (k ≡ i + j) × Entered ds j
unfolding number_from
found i n [] k e = absurd (let z : ◌≡◌ {A = ℕ} 0 1 = cc in omega arith)
found i n (d ∷ ds) k e = go (same_bytes d.name.word n) e (found (suc i) n ds k)
  where
    go : (b : Bool) → elim b [ true ↦ some i | false ↦ number_from (suc i) n ds ] ≡ some k
        → (number_from (suc i) n ds ≡ some k → (j : ℕ) × (k ≡ suc i + j) × Entered ds j) → (j : ℕ) × (k ≡ i + j) × Entered (d ∷ ds) j
    go true e more = (0, (let z : i ≡ k = cc in omega arith), record { item = d; at = refl; below = omega arith })
    go false e more = let m = more e in let q = m.1 in (suc m.0, omega arith, later d ds m.0 m.2)

entered : (n : Word) (ds : Table) (k : ℕ) → number_of ds n ≡ some k → Entered ds k
unfolding number_of
entered n ds k e = let m = found 0 n ds k e in let q : m.0 ≡ k = (let z = m.1 in omega arith) in rw q at m.2

mapped : (l : List Declaration) (k : ℕ) → Entered (map declared_of l) k → (d : Declaration) × (get_elem? l k ≡ some d)
mapped [] k e = absurd (let b = e.below in omega arith)
mapped (d ∷ l) zero e = (d, refl)
mapped (d ∷ l) (suc k) e = mapped l k (record { item = e.item; at = e.at; below = let b = e.below in omega arith })

-- the cell of a name that is not declared tells which it is, and is no declaration's number
told : (o b : Bool) → meaning_by none o ≡ meaning_by none b → b ≡ o
told true true e = refl
told true false e = absurd (omega arith)
told false true e = absurd (omega arith)
told false false e = refl

no_number : (o : Bool) → 256 < meaning_by none o
no_number true = omega arith
no_number false = omega arith

module _ {records values decls : List ℕ} (s : Scene records values decls) where
  few_declared : length (table_of s) ≤ 256
  few_declared =
      omega (arith, table_length s.ready, s.ready.few)

  -- the declaration of the number k, where its name stands
  pub record Found (k : ℕ) : Type 0 where
    pub declaration : Declaration
    pub listed : get_elem? (table_of s) k ≡ some (declared_of declaration)
    pub small : k < 256
    pub room : 2 * k + 2 ≤ length decls
    pub stands : DeclaredAt s.tokens (cell 2 decls k) declaration

  abbrev pub view_of : {k d : ℕ} → d ≡ cell 2 decls k → Found k → View records values d
  view_of e f = record { text = s.text; tokens = s.tokens; holds = s.ready.holds; declaration = f.declaration; stands = rw e f.stands }

  pub found_at : (k : ℕ) → Entered (table_of s) k → Found k
  found_at k e =
      let all = all_declared s.description in
      let m = mapped (declaration_list s.description) k (rw all at e) in
      let b = e.below in
      record {
        declaration = m.0;
        listed = ap (λ l. get_elem? l k) all ∙ map_found (declaration_list s.description) k m.0 m.1;
        small = let f = few_declared in omega arith;
        room = omega (arith, s.ready.declared.room, s.ready.count, table_length s.ready);
        stands = s.ready.declared.each k m.0 m.1;
      }

  -- a name at the token i, and what its cell says
  module _ (i : ℕ) (x : Info) (within : i < length s.tokens) (here : token_at s.tokens i ≡ tk Name x) where
    means : inside_cell records i ≡ meaning_of (outer_of s) (table_of s) x.word
    means =
        s.ready.means.means i within (ap (λ (t : Token). t.kind) here)
        ∙ ap (λ (t : Token). meaning_of (outer_of s) (table_of s) t.info.word) here

    -- not declared: o says whether it is the outer name
    pub undeclared : (o : Bool) → inside_cell records i ≡ meaning_by none o → (number_of (table_of s) x.word ≡ none) × (same_bytes (outer_of s) x.word ≡ o)
    unfolding meaning_of
    undeclared o e = go (number_of (table_of s) x.word) (same_bytes (outer_of s) x.word) (sym e ∙ means) (entered x.word (table_of s))
      where
        go : (n : Option ℕ) (b : Bool) → meaning_by none o ≡ meaning_by n b → ((k : ℕ) → n ≡ some k → Entered (table_of s) k) → (n ≡ none) × (b ≡ o)
        go none b q f = (refl, told o b q)
        go (some k) b q f = absurd (omega (arith, no_number o, (f k refl).below, few_declared))

    pub declared : (k : ℕ) → k ≡ inside_cell records i → (k ≡ unknown_name → ⊥) → (k ≡ outer_only → ⊥)
        → (number_of (table_of s) x.word ≡ some k) × Found k
    unfolding meaning_of
    declared k e u o = go (number_of (table_of s) x.word) (same_bytes (outer_of s) x.word) (e ∙ means) (entered x.word (table_of s))
      where
        go : (n : Option ℕ) (b : Bool) → k ≡ meaning_by n b → ((j : ℕ) → n ≡ some j → Entered (table_of s) j) → (n ≡ some k) × Found k
        go none true q f = absurd (o q)
        go none false q f = absurd (u q)
        go (some j) b q f = (ap some (sym q), found_at k (rw q (f j refl)))

    -- no declaration's number, so none
    pub numberless : outer_only ≤ inside_cell records i → number_of (table_of s) x.word ≡ none
    unfolding meaning_of
    numberless h = go (number_of (table_of s) x.word) (same_bytes (outer_of s) x.word) means (entered x.word (table_of s))
      where
        go : (n : Option ℕ) (b : Bool) → inside_cell records i ≡ meaning_by n b → ((k : ℕ) → n ≡ some k → Entered (table_of s) k) → n ≡ none
        go none b q f = refl
        go (some k) b q f = absurd (omega (arith, (f k refl).below, few_declared))

    pub numbered : (k : ℕ) → number_of (table_of s) x.word ≡ some k → (inside_cell records i ≡ k) × (k < 256)
    unfolding meaning_of
    numbered k e =
        (means ∙ ap (λ n. meaning_by n (same_bytes (outer_of s) x.word)) e, omega (arith, (entered x.word (table_of s) k e).below, few_declared))

-- the 30s: no declaration has one
when_none : (b : Bool) (n p : ℕ) (fs : List Fault) → when b n p ++ fs ≡ [] → (b ≡ false) × (fs ≡ [])
when_none true n p fs e = absurd (let z : ◌≡◌ {A = ℕ} 0 1 = cc in omega arith)
when_none false n p fs e = (refl, e)

-- a rule of the 30s that is judged declaration by declaration
module _ (bad : Declared → Bool) (n : ℕ) where
  each_faults : Table → List Fault
  each_faults [] = []
  each_faults (d ∷ ds) = when (bad d) n d.name.place ++ each_faults ds

  each_good : (ds : Table) → each_faults ds ≡ [] → (k : ℕ) (d : Declared) → get_elem? ds k ≡ some d → bad d ≡ false
  unfolding each_faults
  each_good [] e k d l = absurd (let z : ◌≡◌ {A = ℕ} 0 1 = cc in omega arith)
  each_good (c ∷ ds) e zero d l = let q : c ≡ d = cc in rw q at (when_none (bad c) n c.name.place (each_faults ds) e).0
  each_good (c ∷ ds) e (suc k) d l = each_good ds (when_none (bad c) n c.name.place (each_faults ds) e).1 k d l

abbrev too_large : Declared → Bool
too_large d = large_bits d.bits || large_words d.words

large_each : (ds : Table) → large ds ≡ each_faults too_large 31 ds
unfolding large each_faults
large_each [] = refl
large_each (d ∷ ds) = ap (λ fs. when (too_large d) 31 d.name.place ++ fs) (large_each ds)

mappings_each : (outer : Word) (all ds : Table) → mappings outer all ds ≡ each_faults (λ d. bad_mapping outer all d d.target) 33 ds
unfolding mappings each_faults
mappings_each outer all [] = refl
mappings_each outer all (d ∷ ds) = ap (λ fs. when (bad_mapping outer all d d.target) 33 d.name.place ++ fs) (mappings_each outer all ds)

module _ {records values decls : List ℕ} (s : Scene records values decls) {k : ℕ} (f : Found s k) where
  parts : (twice (outer_of s ∷ []) (table_of s) ≡ []) × (large (table_of s) ++ (too_many 0 0 (table_of s) ++ mappings (outer_of s) (table_of s) (table_of s)) ≡ [])
  unfolding faults30
  parts = append-eq-nil_iff.0 s.ready.lawful

  -- "over 64 bits, or a declared bit or word name over 4,095" does not hold
  pub short_bits : large_bits (declared_of f.declaration).bits ≡ false
  short_bits =
      let e = each_good too_large 31 (table_of s) (sym (large_each (table_of s)) ∙ ((append-eq-nil_iff {p = large (table_of s)}).0 parts.1).0) k _ f.listed in
      (either_false (large_bits (declared_of f.declaration).bits) (large_words (declared_of f.declaration).words) e).0

  pub good_mapping : bad_mapping (outer_of s) (table_of s) (declared_of f.declaration) (declared_of f.declaration).target ≡ false
  good_mapping =
      each_good (λ d. bad_mapping (outer_of s) (table_of s) d d.target) 33 (table_of s)
      (sym (mappings_each (outer_of s) (table_of s) (table_of s)) ∙ ((append-eq-nil_iff {p = too_many 0 0 (table_of s)}).0 ((append-eq-nil_iff {p = large (table_of s)}).0 parts.1).1).1) k _ f.listed
