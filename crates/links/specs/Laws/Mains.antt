-- Laws of the search for MAIN's body.
-- Assumes nothing.
use Rattle.std.specs.Prelude.{ℕ, zero, suc, ◌+◌, ◌*◌, ◌<◌, ◌≤◌, ◌≡◌, refl, true, List, [], ◌∷◌, ◌++◌, map, length, Option as Found, is_some}
use Rattle.std.proofs.Common.{sym, ap, ◌∙◌, subst, arith}
use Rattle.std.proofs.Math.Bool.{false}
use Rattle.std.proofs.Math.Option.{Option, none, some}
use Rattle.std.proofs.Math.Decide.{dec_lt}
use Rattle.std.proofs.Math.ListN.{get_elem?}
use Rattle.cells.specs.Cells.{cell}
use Rattle.rules.specs.Text.Tokens.{Info, Token, kind_no}
use Rattle.rules.specs.Grammar.Trees.{Action, body, mapped, carrier, given, words, with_bits, bare_body, Declaration, plain, main}
use Rattle.rules.specs.Declarations.{declared_of, declarations}
use Rattle.rules.specs.Faults.Fault.{Fault, when}
use Rattle.rules.specs.Faults.Whole.{mains, main_name, chains, groups_faults, faults50}
use Rattle.laws_orders.proofs.Orders.Tests.{impossible}
use Rattle.laws_accepted.proofs.Accepted.Faultless.{both_empty}
use Rattle.records.specs.Holds.{link_cell}
use Rattle.table.specs.Laws.Positions.{record_within}
use Rattle.table.specs.Declarations.{DeclaredAt, declaration_list, all_declared}
use Rattle.table.specs.Lookups.{Nth, nth}
use Rattle.table.specs.Views.{View, MainAt}
use Rattle.table.specs.Laws.Views.{name_token, no_main, a_main}
use Rattle.links.specs.Mains.{MainIn, MainNamed, MainFound}

-- none of the first k declarations is MAIN's
abbrev Passed : List Declaration → ℕ → Type 0
Passed list k = (j : ℕ) (x : Declaration) → get_elem? list j ≡ some x → j < k → (declared_of x).mainly ≡ none

main_named : (list : List Declaration) (k : ℕ) (x : Declaration) (i : Info) → Passed list k → get_elem? list k ≡ some x → (declared_of x).mainly ≡ some i
    → (declared_of x).name.word ≡ main_name (map declared_of list)
unfolding main_name
main_named [] k x i p h e = impossible (cc)
main_named (y ∷ list) zero x i p h e =
    let q : y ≡ x = cc in
    let its : (declared_of y).mainly ≡ some i = ap (λ (z : Declaration). (declared_of z).mainly) q ∙ e in
    ap (λ (z : Declaration). (declared_of z).name.word) (sym q)
    ∙ sym (ap (λ (o : Option Info). elim o [ none ↦ main_name (map declared_of list) | some i ↦ (declared_of y).name.word ]) its)
main_named (y ∷ list) (suc k) x i p h e =
    let not_this = p 0 y refl (omega arith) in
    main_named list k x i (λ j z g l. p (suc j) z g (omega arith)) h e
    ∙ sym (ap (λ (o : Option Info). elim o [ none ↦ main_name (map declared_of list) | some i ↦ (declared_of y).name.word ]) not_this)

some_main : (list : List Declaration) → Passed list (length list) → mains false (map declared_of list) ≡ [] → ⊥
unfolding mains
some_main [] p e = impossible (cc)
some_main (y ∷ list) p e =
    let rest = map declared_of list in
    let not_this = ap {B = List Fault} (λ (o : Option Info). elim o as (λ x. List Fault) [ none ↦ mains false rest | some i ↦ when false 50 i.place ++ mains true rest ])
    (p 0 y refl (omega arith)) in
    some_main list (λ j x h l. p (suc j) x h (omega arith)) (sym not_this ∙ e)

main_body : (x : Declaration) (i : Info) → (declared_of x).mainly ≡ some i → (a : Action) × ((declared_of x).body ≡ some a)
main_body (plain n (words l f c t r b o)) i e = impossible (cc)
main_body (plain n (with_bits l o carrier)) i e = impossible (cc)
main_body (plain n (with_bits l o (given g (body b a m)))) i e = impossible (cc)
main_body (plain n (with_bits l o (given g (mapped t b c r)))) i e = impossible (cc)
main_body (plain n (bare_body g b a m)) i e = impossible (cc)
main_body (main k n o g b a m) i e = (_, refl)

-- the loop: MAIN's declaration lies further on
pub record Searching (records decls : List ℕ) (m k : ℕ) : Type 0 where
  pub few : k ≤ m
  pub passed : (v : MainIn records decls m) → Passed (declaration_list v.description) k

pub start_searching : (records decls : List ℕ) (m : ℕ) → Searching records decls m 0
start_searching records decls m = record { few = omega arith; passed = λ v j x h l. absurd (omega arith) }

module _ {records decls : List ℕ} {m k : ℕ} (s : Searching records decls m k) where
  pub main_exists : m ≤ k → (v : MainIn records decls m) → ⊥
  unfolding faults50
  main_exists l v =
      let ds = declarations v.description in
      let e = (both_empty (mains false ds) (chains ds ds ++ groups_faults ds ds) v.of50).0 in
      some_main (declaration_list v.description) (λ j x h q. s.passed v j x h (omega (arith, v.count)))
      (ap (mains false) (sym (all_declared v.description)) ∙ e)

  module _ (more : k < m) where
    pub cell_room : MainIn records decls m → 2 * k + 2 ≤ length decls
    cell_room v = omega (arith, v.declared.room, v.count)

    module _ {name : ℕ} (e : name ≡ cell 2 decls k) where
      abbrev there : (v : MainIn records decls m) → Nth (declaration_list v.description) k
      there v = nth (declaration_list v.description) k (omega (arith, v.count))

      abbrev pub view_at : (v : MainIn records decls m) → View records v.values name
      view_at v = record {
        text = v.text;
        tokens = v.tokens;
        holds = v.holds;
        declaration = (there v).declaration;
        stands = subst (λ i. DeclaredAt v.tokens i (there v).declaration) (sym e) (v.declared.each k (there v).declaration (there v).found);
      }

      module _ (r : Found ℕ) (says : (v : MainIn records decls m) → MainAt v.tokens r (declared_of (there v).declaration).mainly) where
        pub main_here : is_some r ≡ true → (v : MainIn records decls m) → MainNamed v name
        main_here n v =
            let i = a_main v.tokens r (declared_of (there v).declaration).mainly (says v) n in
            let b = main_body (there v).declaration i.0 i.1 in
            let here = name_token (view_at v).stands in
            let first = main_named (declaration_list v.description) k (there v).declaration i.0 (s.passed v) (there v).found i.1
            ∙ ap main_name (sym (all_declared v.description)) in
            record {
              within = here.0;
              kind = (v.holds.entry name here.0).kind ∙ ap (λ (t : Token). kind_no t.kind) here.1;
              named = ap (λ (t : Token). t.info.word) here.1 ∙ first;
              number = k;
              declaration = (there v).declaration;
              found = (there v).found;
              declared = first;
              body = b.0;
              its = b.1;
              stands = e;
            }

        pub main_later : is_some r ≡ false → Searching records decls m (k + 1)
        main_later z = record { few = omega arith; passed = λ v j x h l. by v j x h (dec_lt j k) (omega arith) }
          where
            by : (v : MainIn records decls m) (j : ℕ) (x : Declaration) → get_elem? (declaration_list v.description) j ≡ some x → Dec (j < k) → j ≤ k
                → (declared_of x).mainly ≡ none
            by v j x h (yes l) q = s.passed v j x h l
            by v j x h (no l) q =
                let same : j ≡ k = omega arith in
                let found : get_elem? (declaration_list v.description) k ≡ some x = subst (λ i. get_elem? (declaration_list v.description) i ≡ some x) same h in
                let is : (there v).declaration ≡ x = cc (there v).found in
                ap (λ (y : Declaration). (declared_of y).mainly) (sym is) ∙ no_main v.tokens r (declared_of (there v).declaration).mainly (says v) z

-- where it begins
module _ {records decls : List ℕ} {m name : ℕ} (found : (v : MainIn records decls m) → MainNamed v name) where
  pub name_fits : (v : MainIn records decls m) → (8 * name + 8 ≤ length records) × (name < 8192)
  name_fits v = (record_within v.holds name (found v).within, omega (arith, (found v).within, v.holds.few))

  pub main_leads : {x : ℕ} → x ≡ link_cell records name → (v : MainIn records decls m) → MainFound v x
  main_leads q v =
      let f = found v in
      record { number = f.number; declaration = f.declaration; found = f.found; named = f.declared; body = f.body; its = f.its; leads = q ∙ ap (link_cell records) f.stands }
