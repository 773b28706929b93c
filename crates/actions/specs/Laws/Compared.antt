-- The faults of alternatives by their numbers: each by itself, and at the first overlap, come to all of them.
-- Assumes nothing.
use Rattle.std.specs.Prelude.{ℕ, ◌<◌, ◌≤◌, min, ◌≡◌, Bool, true, false, ◌||◌, List, leb}
use Rattle.std.proofs.Common.{sym, ap, ◌∙◌, arith, le-leb}
use Rattle.std.proofs.Math.Bool.{or_assoc}
use Rattle.std.proofs.Math.Decide.{dec_lt}
use Rattle.rules.specs.Limits.{longest_text}
use Rattle.rules.specs.Selectors.{Item}
use Rattle.rules.specs.Faults.Fault.{Fault, fault, when}
use Rattle.rules.specs.Faults.Bodies.{past, alternative}
use Rattle.keys.specs.Keys.{key, no_key, least_key}
use Rattle.keys.specs.Laws.Keys.{fault_key, no_fault_key, least_bounded}
use Rattle.selectors.specs.Overlaps.{earlier_items, overlaps, FirstOverlap}
use Rattle.actions.specs.Laws.Ranges.{range_faults, least_in, least_at, least_both, least_bound, when_or}

-- a fault or none is no less than the fault
when_least : (b : Bool) (n p : ℕ) → n < 128 → p ≤ longest_text → key (fault n p) ≤ least_key (when b n p)
when_least true n p h l = omega (arith, fault_key n p h l)
when_least false n p h l = omega (arith, no_fault_key n p)

module _ (items : ℕ → List Item) (place : ℕ → ℕ) (bits : ℕ) where
  -- by itself, against the earlier ones, and as the rules have it
  abbrev pub alone : ℕ → List Fault
  alone k = when (leb 64 k || past bits (items k)) 45 (place k)

  abbrev pub against : ℕ → List Fault
  against k = when (overlaps items k) 45 (place k)

  abbrev pub judged_at : ℕ → List Fault
  judged_at k = alternative bits k (place k) (earlier_items items k) (items k)

  both_tests : (k : ℕ) → least_key (judged_at k) ≡ min (least_key (alone k)) (least_key (against k))
  both_tests k =
      ap (λ b. least_key (when b 45 (place k))) (sym (or_assoc (leb 64 k) (past bits (items k)) (overlaps items k)))
      ∙ when_or (leb 64 k || past bits (items k)) (overlaps items k) 45 (place k)

  module _ (n : ℕ) (small : (k : ℕ) → k < n → place k ≤ longest_text) (rising : (j k : ℕ) → j < k → k < min n 64 → place j < place k) {later r : ℕ}
      (first : FirstOverlap items (min n 64) later) (none : later ≡ min n 64 → r ≡ no_key) (found : later < min n 64 → r ≡ key (fault 45 (place later))) where
    -- the 65th and those behind it have a fault of their own
    behind_64 : (k : ℕ) → k < n → 64 ≤ k → least_key (alone k) ≤ least_key (against k)
    behind_64 k l h =
        omega (arith, ap (λ b. least_key (when (b || past bits (items k)) 45 (place k))) (le-leb 64 k h), fault_key 45 (place k) (omega arith) (small k l), when_least (overlaps items k) 45 (place k) (omega arith) (small k l))

    before_first : (k : ℕ) → k < later → least_key (against k) ≡ no_key
    before_first k l = ap (λ b. least_key (when b 45 (place k))) (first.none_before k l) ∙ no_fault_key 45 (place k)

    from_first : later < min n 64 → (k : ℕ) → later ≤ k → k < min n 64 → r ≤ least_key (against k)
    from_first h k l m = by (dec_lt later k)
      where
        by : Dec (later < k) → r ≤ least_key (against k)
        by (yes less) = omega (arith, found h, rising later k less m, when_least (overlaps items k) 45 (place k) (omega arith) (small k (omega arith)))
        by (no less) = let e : later ≡ k = omega arith in omega (arith, found h, ap place e, when_least (overlaps items k) 45 (place k) (omega arith) (small k (omega arith)))

    each : (k : ℕ) → k < n → min (least_key (alone k)) r ≤ least_key (against k)
    each k l = by (dec_lt k 64) (dec_lt k later)
      where
        by : Dec (k < 64) → Dec (k < later) → min (least_key (alone k)) r ≤ least_key (against k)
        by (no h) _ = omega (arith, behind_64 k l (omega arith))
        by (yes h) (yes m) = omega (arith, before_first k m, least_bounded key (alone k))
        by (yes h) (no m) = omega (arith, from_first (omega arith) k (omega arith) (omega arith))

    bound : min (least_in alone 0 n) r ≤ least_in against 0 n
    bound = least_bound alone against r 0 n (λ k _ l. each k (omega arith))

    whole : least_in judged_at 0 n ≡ min (least_in alone 0 n) (least_in against 0 n)
    whole = least_both alone against judged_at both_tests 0 n

    pub all_faults : min (least_in alone 0 n) r ≡ least_in judged_at 0 n
    all_faults = by (dec_lt later (min n 64))
      where
        by : Dec (later < min n 64) → min (least_in alone 0 n) r ≡ least_in judged_at 0 n
        by (yes h) =
            let there = ap (λ b. least_key (when b 45 (place later))) (first.found h) ∙ fault_key 45 (place later) (omega arith) (small later (omega arith)) in
            omega (arith, bound, whole, least_at against 0 n later (omega arith) (omega arith), there, found h)
        by (no h) =
            let w = first.within in
            omega (arith, bound, whole, none (omega arith), least_bounded key (range_faults alone 0 n))
