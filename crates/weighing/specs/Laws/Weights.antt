-- Laws of weights: of things with and without faults, beside each other, and joined by an operator.
-- Assumes nothing.
use Rattle.std.specs.Prelude.{ℕ, ◌<◌, ◌≤◌, min, ◌≡◌, refl}
use Rattle.std.proofs.Common.{sym, ap, ap₂, ◌∙◌, arith, lt-ltb, le-ltb}
use mathlib.Core.List.{List, [], ◌∷◌, ◌++◌, append-nil, append-eq-nil_iff}
use Rattle.std.proofs.Math.Decide.{dec_lt}
use Rattle.rules.specs.Text.Tokens.{Info, Op}
use Rattle.rules.specs.Values.{op_bits}
use Rattle.rules.specs.Limits.{most_bits, longest_text}
use Rattle.rules.specs.Faults.Fault.{Fault, fault}
use Rattle.rules.specs.Faults.Bodies.{Judged, judged_as, sound_bits, over}
use Rattle.values.specs.Laws.Results.{result_some}
use Rattle.keys.specs.Keys.{key, no_key, least_by, least_key, Smalls, none_small, also_small}
use Rattle.keys.specs.Laws.Keys.{by_place, smalls_append, least_bounded, least_append, no_fault}
use Rattle.weighing.specs.Weights.{Weighs, operated}

-- faults and their least key
pub no_faults : {fs : List Fault} → Smalls fs → no_key ≤ least_key fs → fs ≡ []
no_faults {fs} s h = no_fault by_place fs s (omega (arith, least_bounded key fs))

pub none_least : {fs : List Fault} → fs ≡ [] → least_key fs ≡ no_key
unfolding least_by
none_least e = ap least_key e

-- 43: at the place of an operator, where its operands are sound and its result is too long
module _ (n p : ℕ) where
  pub over_unsound : (fs : List Fault) → least_key fs < no_key → over fs n p ≡ fs
  unfolding least_by
  over_unsound [] h = absurd (omega arith)
  over_unsound (f ∷ fs) h = append-nil (f ∷ fs)

  pub over_long : {fs : List Fault} → fs ≡ [] → most_bits < n → over fs n p ≡ fault 43 p ∷ []
  over_long e h = ap (λ fs. over fs n p) e ∙ rw (lt-ltb most_bits n h)

  pub over_short : {fs : List Fault} → fs ≡ [] → n ≤ most_bits → over fs n p ≡ []
  over_short e h = ap (λ fs. over fs n p) e ∙ rw (le-ltb most_bits n h)

pub unsound_bits : (n : ℕ) (fs : List Fault) → least_key fs < no_key → sound_bits fs n ≡ 0
unfolding least_by
unsound_bits n [] h = absurd (omega arith)
unsound_bits n (f ∷ fs) h = refl

-- a judged thing with a fault, and one without
pub weighs_fault : (fs : List Fault) (n k : ℕ) → Smalls fs → k ≡ least_key fs → k < no_key → Weighs k 0 (judged_as fs n)
weighs_fault fs n k s e h =
    let z : sound_bits fs n ≡ 0 = unsound_bits n fs (omega arith) in
    record {
      key = e;
      bits = sym z;
      fine = record { smalls = s; few = omega arith; some = λ q. absurd (omega (arith, none_least q)); empty = λ q. z };
    }

pub weighs_sound : {fs : List Fault} (n : ℕ) → fs ≡ [] → 0 < n → n ≤ most_bits → Weighs no_key n (judged_as fs n)
unfolding least_by
weighs_sound n e l h =
    rw e (record { key = refl; bits = refl; fine = record { smalls = none_small; few = h; some = λ _. l; empty = λ q. absurd (omega arith) } })

-- a sound length is kept
pub weighs_again : {k n : ℕ} {j : Judged} → Weighs k n j → Weighs k n (judged_as j.faults j.bits)
weighs_again {k} {n} {j} w = go (dec_lt k no_key)
  where
    go : Dec (k < no_key) → Weighs k n (judged_as j.faults j.bits)
    go (yes l) = rw (w.bits ∙ w.fine.empty (rw w.key at l)) (weighs_fault j.faults j.bits k w.fine.smalls w.key l)
    go (no l) =
        let e = no_faults w.fine.smalls (omega (arith, w.key)) in
        let q : k ≡ no_key = w.key ∙ none_least e in
        rw (q, w.bits) (weighs_sound j.bits e (w.fine.some e) w.fine.few)

module _ {a b : Judged} {k m l n : ℕ} (x : Weighs k m a) (y : Weighs l n b) where
  both_smalls : Smalls (a.faults ++ b.faults)
  both_smalls = smalls_append x.fine.smalls y.fine.smalls

  both_key : min k l ≡ least_key (a.faults ++ b.faults)
  both_key = ap₂ min x.key y.key ∙ sym (least_append key a.faults b.faults)

  both_sound : no_key ≤ min k l → a.faults ++ b.faults ≡ []
  both_sound h = no_faults both_smalls (omega (arith, both_key))

  -- the faults of the first count, but not its length: a subscript
  pub beside_unsound : min k l < no_key → Weighs (min k l) 0 (judged_as (a.faults ++ b.faults) b.bits)
  beside_unsound h = weighs_fault (a.faults ++ b.faults) _ _ both_smalls both_key h

  pub beside_sound : no_key ≤ min k l → Weighs (min k l) n (judged_as (a.faults ++ b.faults) b.bits)
  beside_sound h =
      let e = both_sound h in
      rw (both_key ∙ none_least e, y.bits) (weighs_sound b.bits e (y.fine.some ((append-eq-nil_iff {p = a.faults}).0 e).1) y.fine.few)

  module _ (o : Op) (i : Info) where
    result : op_bits o m n ≡ op_bits o a.bits b.bits
    result = ap₂ (op_bits o) x.bits y.bits

    pub operated_unsound : min k l < no_key → Weighs (min k l) 0 (operated o i a b)
    operated_unsound h =
        let e = over_unsound (op_bits o a.bits b.bits) i.place (a.faults ++ b.faults) (rw both_key at h) in
        rw e (weighs_fault (a.faults ++ b.faults) _ _ both_smalls both_key h)

    pub operated_long : i.place ≤ longest_text → no_key ≤ min k l → most_bits < op_bits o m n → Weighs (key (fault 43 i.place)) 0 (operated o i a b)
    unfolding least_by
    operated_long p h g =
        let e = over_long (op_bits o a.bits b.bits) i.place (both_sound h) (rw result at g) in
        let s : Smalls (fault 43 i.place ∷ []) = also_small {f = fault 43 i.place} (record { number = omega arith; place = p }) none_small in
        rw e (weighs_fault (fault 43 i.place ∷ []) (op_bits o a.bits b.bits) (key (fault 43 i.place)) s (omega arith) (omega arith))

    pub operated_short : no_key ≤ min k l → op_bits o m n ≤ most_bits → Weighs (min k l) (op_bits o m n) (operated o i a b)
    operated_short h g =
        let e = over_short (op_bits o a.bits b.bits) i.place (both_sound h) (rw result at g) in
        let l = result_some o b.bits (x.fine.some ((append-eq-nil_iff {p = a.faults}).0 (both_sound h)).0) in
        rw (both_key ∙ none_least (both_sound h), result) (weighs_sound (op_bits o a.bits b.bits) e l (rw result at g))
