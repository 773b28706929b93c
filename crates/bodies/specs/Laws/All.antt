-- All bodies as a loop over the declarations: what those left come to.
-- Assumes nothing.
use Rattle.std.specs.Prelude.{ℕ, zero, suc, ◌+◌, ◌*◌, ◌<◌, ◌≤◌, min, ◌≡◌, List, map, drop}
use Rattle.std.proofs.Math.Path.{ap}
use Rattle.std.proofs.Math.Option.{some}
use native.Mathlib.Omega.{arith}
use Rattle.std.proofs.Common.{add-one, drop_of_length-le}
use Rattle.std.proofs.Math.ListN.{length, get_elem?}
use Rattle.cells.specs.Cells.{cell}
use Rattle.rules.specs.Grammar.Trees.{Declaration, Declarations, declared_all, declared_also, Description, description}
use Rattle.rules.specs.Limits.{deepest}
use Rattle.rules.specs.Declarations.{declared_of}
use Rattle.rules.specs.Faults.Fault.{Fault}
use Rattle.rules.specs.Faults.Bodies.{faults40}
use Rattle.laws_grammar.specs.Cited.Nesting.{declaration_nest, declarations_nest, nest}
use Rattle.table.specs.Declarations.{following_list, declaration_list, all_declared}
use Rattle.keys.specs.Keys.{key, no_key, least_by, least_key}
use Rattle.keys.specs.Laws.Keys.{least_append, least_bounded}
use Rattle.table.specs.Lookups.{Nth, nth}
use Rattle.plain.specs.Stage.{outer_of, table_of}
use Rattle.bodies.specs.Bodies.{BodyView, faults_of_body, BodiesView, faults_of_bodies}

-- no declaration nests deeper than the whole
following_nest : (ds : Declarations) (k : ℕ) (d : Declaration) → get_elem? (following_list ds) k ≡ some d → declaration_nest d ≤ declarations_nest ds
unfolding following_list
following_nest (declared_all e) k d q = absurd (let z : ◌≡◌ {A = ℕ} 0 1 = cc in omega arith)
following_nest (declared_also c h x ds) zero d q = let s : x ≡ d = cc in omega (arith, ap declaration_nest s)
following_nest (declared_also c h x ds) (suc k) d q = omega (arith, following_nest ds k d q)

listed_nest : (w : Description) (k : ℕ) (d : Declaration) → get_elem? (declaration_list w) k ≡ some d → declaration_nest d ≤ nest w
listed_nest (description n e b h x ds) zero d q = let s : x ≡ d = cc in omega (arith, ap declaration_nest s)
listed_nest (description n e b h x ds) (suc k) d q = omega (arith, following_nest ds k d q)

module _ {text records values decls room₀ : List ℕ} {m : ℕ} (v : BodiesView text records values decls room₀ m) where
  abbrev listed : List Declaration
  listed = declaration_list v.stage.description

  -- the faults of those behind the first k
  abbrev faults_past : ℕ → List Fault
  faults_past k = faults40 (outer_of v.stage) (table_of v.stage) (map declared_of (drop k listed))

  -- with what is found so far, those left come to the whole
  pub record Left (a k : ℕ) : Type 0 where
    pub least : a ≤ no_key
    pub same_key : min a (least_key (faults_past k)) ≡ least_key (faults_of_bodies v)

  pub all_left : Left no_key 0
  all_left = record {
    least = omega arith;
    same_key =
        omega (
          arith,
          least_bounded key (faults_past 0),
          ap (λ ds. least_key (faults40 (outer_of v.stage) (table_of v.stage) ds)) (all_declared v.stage.description),
        );
  }

  pub none_left : {a k : ℕ} → Left a k → m ≤ k → a ≡ least_key (faults_of_bodies v)
  unfolding faults40 least_by
  none_left {a} {k} h l =
      let past : length listed ≤ k = omega (arith, v.count, v.stage.ready.count) in
      let f = h.least in
      omega (arith, h.same_key, ap (λ ds. least_key (faults40 (outer_of v.stage) (table_of v.stage) (map declared_of ds))) (drop_of_length-le listed past))

  -- the declaration of number k
  module _ {k : ℕ} (l : k < m) where
    pub cell_room : 2 * k + 2 ≤ length decls
    cell_room = omega (arith, v.stage.ready.declared.room, v.count, v.stage.ready.count)

    abbrev pub here_declared : Nth listed k
    here_declared = nth listed k (omega (arith, v.count, v.stage.ready.count))

    pub here_nest : declaration_nest here_declared.declaration ≤ deepest
    here_nest = omega (arith, v.stage.ready.shallow, listed_nest v.stage.description k here_declared.declaration here_declared.found)

    abbrev pub here_view : {room : List ℕ} {i : ℕ} → length room ≡ length room₀ → i ≡ cell 2 decls k → BodyView text records values decls room i
    here_view long e = record {
      stage = v.stage;
      declaration = here_declared.declaration;
      stands = rw e (v.stage.ready.declared.each k here_declared.declaration here_declared.found);
      shallow = here_nest;
      large = let r = v.large in omega (arith, long);
    }

    pub one_less : {room : List ℕ} {i a r a' : ℕ} → length room ≡ length room₀ → i ≡ cell 2 decls k → Left a k
        → ((w : BodyView text records values decls room i) → r ≡ least_key (faults_of_body w)) → a' ≡ min a r → Left a' (k + 1)
    unfolding faults40
    one_less {room} {i} {a} {r} {a'} long e h answers is_key =
        let w = here_view {room = room} {i = i} long e in
        record {
          least = let f = h.least in omega arith;
          same_key =
              omega (
                arith,
                h.same_key,
                answers w,
                least_append key (faults_of_body w) (faults_past (suc k)),
                ap (λ n. least_key (faults_past n)) (add-one k),
                ap (λ ds. least_key (faults40 (outer_of v.stage) (table_of v.stage) (map declared_of ds))) here_declared.split,
              );
        }
