-- `places::reading::behind_subscript` meets its contract: what is left to read comes to the same place.
-- Assumes nothing.
use borrow.Author.Rules.{rules}
use native.Mathlib.Omega.{arith}
use mathlib.Core.Path.{◌≡◌, refl, sym, ap, ◌∙◌}
use mathlib.Core.List.{List}
use Prim.Native.Nat.{ℕ, ◌+◌, ◌*◌, ◌<◌, ◌≤◌}
use lib.ListN.{length, drop}
use Rattle.records.specs.Holds.{kind_byte}
use Rattle.places.specs.Valued.{Valued}
use Rattle.places.specs.Laws.Valued.{few, record_there, kind_there, next_token, no_more}
use Rattle.places.specs.Brackets.{opened, past}
use Rattle.places.specs.Laws.Brackets.{past_all, past_none, past_one}
use Rattle.places.proofs.reading.behind_subscript.Invariants.{Inv}
use Rattle.places.proofs.reading.behind_subscript.Goals as goal

start : (records : List ℕ) (n p : ℕ) → p ≤ n → Inv records n p 1 p
start records n p h = record { within = h; shallow = omega arith; left = λ values v. refl }

module _ {records : List ℕ} {n p d i : ℕ} (inv : Inv records n p d i) where
  found : d ≡ 0 → (values : List ℕ) (v : Valued records values n) → drop i v.tokens ≡ past 1 (drop p v.tokens)
  found z values v = sym (past_none d (drop i v.tokens) z) ∙ inv.left values v

  passed : {k e : ℕ} → i < n → (d ≡ 0 → ⊥) → k ≡ kind_byte records i → (e ≡ opened d k) × (e ≤ d + 1) → Inv records n p e (i + 1)
  passed h z q o = record {
    within = omega arith;
    shallow = omega (arith, inv.shallow, o.1);
    left = λ values v.
        ap (λ x. past x (drop (i + 1) v.tokens)) (o.0 ∙ ap (opened d) (q ∙ kind_there v h))
        ∙ (sym (ap (past d) (next_token v h) ∙ past_one d _ _ z) ∙ inv.left values v);
  }

  ended : n ≤ i → (values : List ℕ) (v : Valued records values n) → drop n v.tokens ≡ past 1 (drop p v.tokens)
  ended h values v = no_more v {i = n} (omega arith) ∙ (sym (past_all d) ∙ (sym (ap (past d) (no_more v h)) ∙ inv.left values v))

  small : (values : List ℕ) × Valued records values n → i < n → d < 65536
  small t h = omega (arith, inv.shallow, few t.1)

  room : (values : List ℕ) × Valued records values n → i < n → 8 * i + 8 ≤ length records
  room t h = record_there t.1 h

pub loop-i-init : goal.loop-i-init
loop-i-init c = search (rules, start)

pub returns-then-d-eq0 : goal.returns-then-d-eq0
returns-then-d-eq0 c = (search rules, search (rules, found))

pub kind_at-requires : goal.kind_at-requires
kind_at-requires c = search (rules, room)

pub opened-d-requires : goal.opened-d-requires
opened-d-requires c = search (rules, small)

pub loop-i-preserved : goal.loop-i-preserved
loop-i-preserved c = passed c.loop-i.invariant c.loop-i-test.true c.if-d-eq0.false c.kind_at.ensures c.opened-d.ensures

pub returns : goal.returns
returns c = (search rules, search (rules, ended))
