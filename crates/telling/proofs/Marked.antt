-- Cells that are marked for a description have its members.
use Prim.Native.Nat.{ℕ, zero, suc, ◌+◌, ◌-◌, ◌/◌, ◌%◌, ◌≤◌, ◌<◌}
use Rattle.std.specs.Prelude.{◌≡◌, Bool, true, false, not, eqb, length}
use Rattle.std.proofs.Math.Path.{refl, ap₂}
use Rattle.std.proofs.Common.{sym, ◌∙◌, ap, subst, eq-eqb, ne_eqb}
use mathlib.Core.List.{List, [], ◌∷◌}
use Rattle.std.proofs.Math.Option.{Option, none, some}
use native.Mathlib.Omega.{arith}
use Rattle.std.proofs.Math.ListN.{get_elem?}
use Rattle.rules.specs.Grammar.Trees.{Action, block, labelled, if_then, decode, repeat, leave, restart, activate, stop, no_op, transfer, Members, end, also, next, Alternatives, counted, selected, Counted, counted_end, counted_more, Selected, select, otherwise, SelectedMore, selected_end, selected_more}
use Rattle.rules.specs.Grammar.Trees.{body, mapped, carrier, given, words, with_bits, bare_body, Declaration, plain, main, Declarations, declared_all, declared_also, Description, description}
use Rattle.rules.specs.Declarations.{Declared, declared_of, rest_of, declarations}
use Rattle.rules.specs.Limits.{deepest}
use Rattle.laws_grammar.specs.Cited.Nesting.{action_nest, members_nest, alternatives_nest, counted_nest, selected_nest, selected_more_nest, declaration_nest, declarations_nest, nest}
use Rattle.laws_orders.proofs.Orders.Tests.{impossible}
use Rattle.laws_code.specs.Cited.Code.{action_size, selector_size, behind_test}
use Rattle.laws_code.specs.Cited.Placed.{body_starts}
use Rattle.telling.specs.Cited.Grouped.{followed, within, Member, Grouped, MembersGrouped, AlternativesGrouped, CountedGrouped, SelectedGrouped, MoreGrouped, BodyGrouped, AllGrouped}
use Rattle.telling.specs.Cited.Cells.{Cells, rank_of, inner, member_of, up_from, cell_grouping, MemberMarked, Marked, MembersMarked, AlternativesMarked, CountedMarked, SelectedMarked, MoreMarked, BodyMarked, AllMarked}

-- how deep a body nests
abbrev Shallow : ℕ → Option Action → Type 0
Shallow n none = Unit {0}
Shallow n (some a) = action_nest a ≤ n

shallow_more : (n m : ℕ) (o : Option Action) → n ≤ m → Shallow n o → Shallow m o
shallow_more n m none l h = tt
shallow_more n m (some a) l h = omega (arith, l, h)

declaration_shallow : (d : Declaration) → Shallow (declaration_nest d) (declared_of d).body
declaration_shallow (plain n (words l f c t r b o)) = tt
declaration_shallow (plain n (with_bits l o carrier)) = tt
declaration_shallow (plain n (with_bits l o (given x (body b a m)))) = omega arith
declaration_shallow (plain n (with_bits l o (given x (mapped t b c r)))) = tt
declaration_shallow (plain n (bare_body x b a m)) = omega arith
declaration_shallow (main k n o x b a m) = omega arith

at_first : (n : ℕ) (d : Declaration) (x : Declared) → some (declared_of d) ≡ some x → declaration_nest d ≤ n → Shallow n x.body
at_first n d x e l =
    let q : declared_of d ≡ x = cc in
    subst (λ (y : Declared). Shallow n y.body) q (shallow_more (declaration_nest d) n (declared_of d).body l (declaration_shallow d))

rest_shallow : (ds : Declarations) (n i : ℕ) (x : Declared) → declarations_nest ds ≤ n → get_elem? (rest_of ds) i ≡ some x → Shallow n x.body
unfolding rest_of
rest_shallow (declared_all e) n i x l h = impossible (cc)
rest_shallow (declared_also c g d ds) n zero x l h = at_first n d x h (omega (arith, l))
rest_shallow (declared_also c g d ds) n (suc i) x l h = rest_shallow ds n i x (omega (arith, l)) h

bodies_shallow : (d : Description) (i : ℕ) (x : Declared) → get_elem? (declarations d) i ≡ some x → Shallow (nest d) x.body
unfolding declarations
bodies_shallow (description n e b g d ds) zero x h = at_first _ d x h (omega arith)
bodies_shallow (description n e b g d ds) (suc i) x h = rest_shallow ds _ i x (omega arith) h

module _ (K : Cells) where
  -- the members from x on
  abbrev pub Chain : List ℕ → ℕ → Type 0
  Chain [] x = x ≡ 0
  Chain (y ∷ c) x = (x ≡ y) × (0 < y) × Chain c (K.up y)

  pub chain_from : (c : List ℕ) (x f : ℕ) → Chain c x → length c ≤ f → up_from K f x ≡ c
  unfolding up_from
  chain_from [] x zero h l = refl
  chain_from [] x (suc f) h l = rw h
  chain_from (y ∷ c) x zero h l = impossible (omega (arith, l))
  chain_from (y ∷ c) zero (suc f) h l = let p = h.1 in impossible (omega (arith, h.0))
  chain_from (y ∷ c) (suc x) (suc f) h l = ap₂ ◌∷◌ h.0 (ap (λ z. up_from K f (K.up z)) h.0 ∙ chain_from c (K.up y) f h.2 (omega (arith, l)))

  rank_before : (i j : ℕ) (more : Bool) → K.rank i ≡ rank_of j more → (K.rank i - 1) / 2 ≡ j
  rank_before i j true e = omega (arith, e)
  rank_before i j false e = omega (arith, e)

  rank_last : (i j : ℕ) (more : Bool) → K.rank i ≡ rank_of j more → eqb ((K.rank i - 1) % 2) 1 ≡ not more
  rank_last i j true e = ne_eqb ((K.rank i - 1) % 2) 1 (λ q. impossible (omega (arith, e, q)))
  rank_last i j false e = eq-eqb ((K.rank i - 1) % 2) 1 (omega (arith, e))

  pub from_few : (f x : ℕ) → length (up_from K f x) ≤ f
  unfolding up_from
  from_few zero x = omega arith
  from_few (suc f) zero = omega arith
  from_few (suc f) (suc x) = omega (arith, from_few f (K.up (suc x)))

  -- the member x around an action that nests d deep, and the members around x
  record Inside (c : List ℕ) (x d : ℕ) : Type 0 where
    chain : Chain c x
    few : length c + d ≤ deepest

  less : {c : List ℕ} {x d : ℕ} → Inside c x d → (e : ℕ) → e ≤ d → Inside c x e
  less n e l = record { chain = n.chain; few = omega (arith, n.few) }

  here : (c : List ℕ) (x i d : ℕ) → Inside c x d → member_of K i ≡ x → (cell_grouping K).around i ≡ c
  here c x i d n e = ap (up_from K deepest) e ∙ chain_from c x deepest n.chain (omega (arith, n.few))

  is_member : (x i j : ℕ) (more : Bool) → MemberMarked K x i j more → Member (cell_grouping K) i j more
  is_member x i zero false h = tt
  is_member x i zero true h = (rank_before i 0 true h.0, rank_last i 0 true h.0)
  is_member x i (suc j) more h = (rank_before i (suc j) more h.0, rank_last i (suc j) more h.0)

  -- inside the member at the token behind i
  step_in : {c : List ℕ} {x d : ℕ} (i : ℕ) → Inside c x (suc d) → K.up (suc i) ≡ x → Inside (suc i ∷ c) (suc i) d
  step_in {c} {x} {d} i n e = record { chain = (refl, omega arith, subst (Chain c) (sym e) n.chain); few = omega (arith, n.few) }

  inside_member : {c : List ℕ} {x d : ℕ} (i j : ℕ) (more : Bool) → Inside c x (suc d) → MemberMarked K x (suc i) j more
      → Inside (within c (suc i) j more) (inner x (suc i) j more) d
  inside_member {c} {x} {d} i zero false n h = less n d (omega arith)
  inside_member {c} {x} {d} i zero true n h = step_in i n h.1
  inside_member {c} {x} {d} i (suc j) more n h = step_in i n h.1

  mutual
    marked_grouped : (a : Action) (c : List ℕ) (x i : ℕ) → Inside c x (action_nest a) → Marked K x i a → Grouped (cell_grouping K) c i a
    marked_grouped (block b a m) c x i n h =
        let k = followed m in (
          is_member x (suc i) 0 k h.0,
          marked_grouped a (within c (suc i) 0 k) (inner x (suc i) 0 k) (suc i) (inside_member i 0 k (less n (suc (action_nest a)) (omega arith)) h.0) h.1,
          members_grouped m c x (suc i + action_size a) 0 (less n (suc (members_nest m)) (omega arith)) h.2,
        )
    marked_grouped (labelled y b a) c x i n h = marked_grouped a c x (suc (suc i)) n h
    marked_grouped (if_then y o t w a) c x i n h =
        (here c x i (action_nest (if_then y o t w a)) n h.0, marked_grouped a c x (behind_test i o t) (less n (action_nest a) (omega arith)) h.1)
    marked_grouped (decode y o t w b v) c x i n h =
        (here c x i (action_nest (decode y o t w b v)) n h.0, alternatives_grouped v c x (suc (behind_test i o t)) (less n (alternatives_nest v) (omega arith)) h.1)
    marked_grouped (repeat y a) c x i n h = (here c x i (action_nest a) n h.0, marked_grouped a c x (suc i) n h.1)
    marked_grouped (leave y l) c x i n h = here c x i 0 n h
    marked_grouped (restart y l) c x i n h = here c x i 0 n h
    marked_grouped (activate y l r) c x i n h = here c x i 1 n h
    marked_grouped (stop y l r) c x i n h = here c x i 1 n h
    marked_grouped (no_op y l r) c x i n h = here c x i 1 n h
    marked_grouped (transfer y s b j e o t) c x i n h = here c x i (action_nest (transfer y s b j e o t)) n h

    members_grouped : (m : Members) (c : List ℕ) (x i j : ℕ) → Inside c x (suc (members_nest m)) → MembersMarked K x i j m → MembersGrouped (cell_grouping K) c i j m
    members_grouped (end y) c x i j n h = tt
    members_grouped (also y a m) c x i j n h =
        let k = followed m in (
          is_member x (suc i) (suc j) k h.0,
          marked_grouped a (within c (suc i) (suc j) k) (inner x (suc i) (suc j) k) (suc i) (inside_member i (suc j) k (less n (suc (action_nest a)) (omega arith)) h.0) h.1,
          members_grouped m c x (suc i + action_size a) (suc j) (less n (suc (members_nest m)) (omega arith)) h.2,
        )
    members_grouped (next y a m) c x i j n h =
        let k = followed m in (
          is_member x (suc i) 0 k h.0,
          marked_grouped a (within c (suc i) 0 k) (inner x (suc i) 0 k) (suc i) (inside_member i 0 k (less n (suc (action_nest a)) (omega arith)) h.0) h.1,
          members_grouped m c x (suc i + action_size a) 0 (less n (suc (members_nest m)) (omega arith)) h.2,
        )

    alternatives_grouped : (v : Alternatives) (c : List ℕ) (x i : ℕ) → Inside c x (alternatives_nest v) → AlternativesMarked K x i v → AlternativesGrouped (cell_grouping K) c i v
    alternatives_grouped (counted a t) c x i n h =
        (marked_grouped a c x i (less n (action_nest a) (omega arith)) h.0, counted_grouped t c x (i + action_size a) (less n (counted_nest t) (omega arith)) h.1)
    alternatives_grouped (selected s) c x i n h = selected_grouped s c x i n h

    counted_grouped : (t : Counted) (c : List ℕ) (x i : ℕ) → Inside c x (counted_nest t) → CountedMarked K x i t → CountedGrouped (cell_grouping K) c i t
    counted_grouped (counted_end y) c x i n h = tt
    counted_grouped (counted_more y a t) c x i n h = (
      marked_grouped a c x (suc i) (less n (action_nest a) (omega arith)) h.0,
      counted_grouped t c x (suc i + action_size a) (less n (counted_nest t) (omega arith)) h.1,
    )

    selected_grouped : (s : Selected) (c : List ℕ) (x i : ℕ) → Inside c x (selected_nest s) → SelectedMarked K x i s → SelectedGrouped (cell_grouping K) c i s
    selected_grouped (select s b a m) c x i n h =
        let j = suc (i + selector_size s) in
        (marked_grouped a c x j (less n (action_nest a) (omega arith)) h.0, more_grouped m c x (j + action_size a) (less n (selected_more_nest m) (omega arith)) h.1)
    selected_grouped (otherwise y b a e) c x i n h = marked_grouped a c x (suc (suc i)) n h

    more_grouped : (m : SelectedMore) (c : List ℕ) (x i : ℕ) → Inside c x (selected_more_nest m) → MoreMarked K x i m → MoreGrouped (cell_grouping K) c i m
    more_grouped (selected_end y) c x i n h = tt
    more_grouped (selected_more y s) c x i n h = selected_grouped s c x (suc i) n h

  no_member : (d : ℕ) → d ≤ deepest → Inside [] 0 d
  no_member d l = record { chain = refl; few = omega (arith, l) }

  body_grouped : (i : ℕ) (o : Option Action) → Shallow deepest o → BodyMarked K i o → BodyGrouped (cell_grouping K) i o
  body_grouped i none s h = tt
  body_grouped i (some a) s h = marked_grouped a [] 0 i (no_member (action_nest a) s) h

  -- the cells have the members of every body
  pub all_grouped : (d : Description) (e : ℕ) → nest d ≤ deepest → AllMarked K d e → AllGrouped (cell_grouping K) d e
  all_grouped d e s h =
      record {
        bodies = λ i x p. body_grouped (body_starts d i) x.body (shallow_more (nest d) deepest x.body s (bodies_shallow d i x p)) (h.bodies i x p);
        outside = here [] 0 e 0 (no_member 0 (omega arith)) h.outside;
      }
