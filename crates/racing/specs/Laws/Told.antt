-- Laws of the reason of 53: what is found in the table is what the rules say.
use Rattle.std.specs.Prelude.{ℕ, ◌+◌, ◌<◌, ◌≤◌, ◌≡◌, Bool, List, drop, Some, None}
use Rattle.std.proofs.Math.Path.{refl, sym, ap, ap₂, subst}
use Rattle.std.proofs.Common.{◌∙◌}
use Rattle.std.proofs.Math.Option.{some}
use native.Mathlib.Omega.{arith}
use Rattle.std.proofs.Math.ListN.{get_elem?}
use Rattle.rules.specs.Grammar.Trees.{Tokens}
use Rattle.rules.specs.Declarations.{Declared, declared_of}
use Rattle.rules.specs.Whole.Sets.{Sets}
use Rattle.reading.specs.Groups.{place_of}
use Rattle.reading.specs.Reading.{Reading, table_of}
use Rattle.reading.specs.Meanings.{declares}
use Rattle.reading.specs.Laws.Meanings.{table_size_lem}
use Rattle.gathering.specs.Shown.{Gathers}
use Rattle.gathering.specs.Filling.{Complete}
use Rattle.whole.specs.GroupKeys.{Holding}
use Rattle.whole.specs.Laws.GroupKeys.{action_held}
use Rattle.rules.specs.Reasons.{conflict, race_among, first_conflict, writers, no_reason, racing, race_on, race_reason, reason53, groups_of}
use Rattle.rules.specs.Reasons.{Reason as Said}
use Rattle.racing.specs.Groups.{member_here, groups_here, race_here}
use Rattle.racing.specs.declared.members.Pair.{Pair}
use Rattle.racing.specs.Found.{member_at, race_of, InTokens}
use Rattle.sharing.specs.Shared.{Shared}
use Rattle.racing.specs.Laws.Alike.{Matches, matched_races, alike_reason}
use Rattle.racing.specs.Laws.Bridge.{all_match}
use Rattle.sharing.specs.Laws.Shared.{first_none, first_one}

module _ {records decls : List ℕ} {m n : ℕ} (v : Reading records decls m n) where
  -- the race in the tokens gives the reason
  pub by_tokens : (place : ℕ) → race_reason (table_of v) (race_here (table_of v) place (drop 3 v.tokens)) ≡ reason53 (table_of v) place
  unfolding reason53 race_here
  by_tokens place =
      let d = v.description in
      let match : Matches (groups_here (table_of v) (drop 3 v.tokens)) (groups_of (table_of v) (table_of v)) =
      subst (λ (ts : Tokens). Matches (groups_here (table_of v) (drop 3 ts)) (groups_of (table_of v) (table_of v))) v.ready.stands (all_match (table_of v) d) in
      alike_reason (table_of v) (race_among place (groups_here (table_of v) (drop 3 v.tokens))) (race_among place (groups_of (table_of v) (table_of v)))
      (matched_races place (groups_here (table_of v) (drop 3 v.tokens)) (groups_of (table_of v) (table_of v)) match)

module _ {records decls : List ℕ} {m n place : ℕ} where
  pub no_race : InTokens records decls m n 3 place None → (v : Reading records decls m n) → no_reason ≡ reason53 (table_of v) place
  no_race f v = sym (ap (race_reason (table_of v)) (f.found.nothing refl v)) ∙ by_tokens v place

  pub with_race : {q : Pair} {said : Said} → InTokens records decls m n 3 place (Some q)
      → ((v : Reading records decls m n) → said ≡ race_reason (table_of v) (some (race_of v q.earlier q.later)))
      → (v : Reading records decls m n) → said ≡ reason53 (table_of v) place
  with_race f s v = s v ∙ (sym (ap (race_reason (table_of v)) (f.found.one refl v)) ∙ by_tokens v place)

-- what two members share
module _ {records decls memo : List ℕ} {m n : ℕ} (e l : ℕ) (r₁ w₁ : List ℕ) (s₁ : Bool) (r₂ w₂ : List ℕ) (s₂ : Bool) (c : Complete records decls memo m n)
    (g : Gathers records decls memo m n e r₁ w₁ s₁) (h : Gathers records decls memo m n l r₂ w₂ s₂) {k : ℕ} (s : Shared r₁ w₁ r₂ w₂ m k) where
  first_held : (v : Reading records decls m n) → Holding r₁ w₁ (member_at v e).touches
  unfolding member_here
  first_held v = action_held e r₁ w₁ s₁ c g v

  second_held : (v : Reading records decls m n) → Holding r₂ w₂ (member_at v l).touches
  unfolding member_here
  second_held v = action_held l r₂ w₂ s₂ c h v

  pub none_shared : m ≤ k → (v : Reading records decls m n) → no_reason ≡ race_reason (table_of v) (some (race_of v e l))
  none_shared q v =
      sym (ap (race_on (race_of v e l)) (first_none (member_at v e).touches (member_at v l).touches 0 (table_of v)
      (λ i o. s.before (member_at v e).touches (member_at v l).touches (first_held v) (second_held v) i (omega (arith, table_size_lem v, q)))))

  pub one_shared : {first second name who : ℕ} → k < m → ((v : Reading records decls m n) → first ≡ place_of (drop e v.tokens))
      → ((v : Reading records decls m n) → second ≡ place_of (drop l v.tokens))
      → ((v : Reading records decls m n) (d : Declared) → get_elem? (table_of v) k ≡ some d → name ≡ d.name.place)
      → ((a b : Sets) → Holding r₁ w₁ a → Holding r₂ w₂ b → who ≡ writers a b k)
      → (v : Reading records decls m n) → racing first second k name who ≡ race_reason (table_of v) (some (race_of v e l))
  unfolding member_here
  one_shared {first} {second} {name} {who} q p₁ p₂ pn pw v =
      let a = (member_at v e).touches in
      let b = (member_at v l).touches in
      let d = declared_of (declares v k q).declaration in
      let found = (declares v k q).found in
      let f : first_conflict a b 0 (table_of v) ≡ some (record { number = 0 + k; place = d.name.place }) =
      first_one a b 0 k (table_of v) d found (λ i o. s.before a b (first_held v) (second_held v) i (omega arith))
      (ap (conflict a b) (let z : 0 + k ≡ k = omega arith in z) ∙ s.one q a b (first_held v) (second_held v)) in
      let z : 0 + k ≡ k = omega arith in
      sym (ap (race_on (race_of v e l)) (f ∙ ap (λ (i : ℕ). some (record { number = i; place = d.name.place })) z)
      ∙ (ap₂ (λ (i j : ℕ). racing i j k d.name.place (writers a b k)) (sym (p₁ v)) (sym (p₂ v))
      ∙ ap₂ (λ (i j : ℕ). racing first second k i j) (sym (pn v d found)) (sym (pw a b (first_held v) (second_held v)))))
