-- The analysis, on trees. Control is followed from the start of an action with no activation of the test ended: which transfers to the output it comes to,
-- whether it comes to the action's end, and by which LEAVE it gets out. An activation of the test never comes back; what is inside it counts. REPEAT and
-- RESTART lead only to what is reached already.
use Rattle.std.specs.Prelude.{ℕ, zero, suc, min, Bool, true, false, cond, not, ◌||◌, ◌&&◌, List, [], ◌∷◌, ◌++◌}
use Rattle.std.proofs.Math.Option.{Option, none, some}
use Rattle.rules.specs.Text.Scan.{same_bytes}
use Rattle.rules.specs.Grammar.Trees.{Action}
use Rattle.rules.specs.Declarations.{Word, Table, body_of}
use Rattle.rules.specs.Steps.Actions.{Access, Act, seq, par, label, ins, Ins, iff, decode, repeat, leave, restart, call, stop, noop, transfer, Alts, no_alts, alt, transfer_place}
use Rattle.rules.specs.Steps.Runs.{body_act}
use Rattle.rules.specs.Whole.Sets.{member, stores}
use Rattle.rules.specs.Limits.{longest_chain}
use Rattle.rules.specs.Faults.Whole.{main_name}
use Rattle.rules.specs.Paths.{storage_of, Profile, passes, fails}

pub record Report : Type 0 where
  pub places : List ℕ
  pub ends : Bool
  pub leaves : Word → Bool

abbrev pub report : List ℕ → Bool → (Word → Bool) → Report
report p e l = record { places = p; ends = e; leaves = l }

-- nothing is reached
abbrev pub nowhere : Report
nowhere = report [] false (λ k. false)

-- the end is reached, and nothing else
abbrev pub passed : Report
passed = report [] true (λ k. false)

-- one or the other
abbrev pub either : Report → Report → Report
either x y = report (x.places ++ y.places) (x.ends || y.ends) (λ k. x.leaves k || y.leaves k)

-- what is behind is reached if the end before it is
abbrev pub in_turn : Report → Report → Report
in_turn x y = report (x.places ++ cond x.ends y.places []) (x.ends && y.ends) (λ k. x.leaves k || (x.ends && y.leaves k))

-- a group has ended when both have
abbrev pub beside : Report → Report → Report
beside x y = report (x.places ++ y.places) (x.ends && y.ends) (λ k. x.leaves k || y.leaves k)

-- a label, or a body's own name: a LEAVE of it comes to its end
abbrev pub inside : Word → Report → Report
inside l x = report x.places (x.ends || x.leaves l) (λ k. not (same_bytes k l) && x.leaves k)

-- REPEAT has no end
abbrev pub turning : Report → Report
turning x = report x.places false x.leaves

module _ (test : Word) where
  -- an activation, by the report of the body
  abbrev pub activation : Word → Report → Report
  activation p x = report x.places (not (same_bytes p test) && x.ends) (λ k. false)

abbrev pub written : Table → ℕ → List Access → List ℕ
written ds output d = cond (member output (stores ds d)) (transfer_place d ∷ []) []

module _ (ds : Table) (test : Word) (output : ℕ) where
  -- with what is known of the bodies
  module _ (known : Word → Report) where
    unfoldable mutual
      pub early : Act → Report
      early (seq a b) = in_turn (early a) (early b)
      early (par a b) = beside (early a) (early b)
      early (label l a) = inside l (early a)
      early (ins i) = early_i i

      pub early_i : Ins → Report
      early_i (iff e a) = either passed (early a)
      early_i (decode p e bs) = early_alts bs
      early_i (repeat a) = turning (early a)
      early_i (leave l) = report [] false (λ k. same_bytes k l)
      early_i (restart l) = nowhere
      early_i (call p) = activation test p (known p)
      early_i stop = nowhere
      early_i noop = passed
      early_i (transfer d e) = report (written ds output d) true (λ k. false)

      pub early_alts : Alts → Report
      early_alts no_alts = nowhere
      early_alts (alt c a bs) = either (early a) (early_alts bs)

  -- of a body, down a chain of at most k bodies
  unfoldable pub body_early : ℕ → Word → Report
  body_early zero n = nowhere
  body_early (suc k) n = inside n (early (body_early k) (body_act ds n))

  -- the places of the transfers that are too early
  unfoldable pub early_places : List ℕ
  early_places = (body_early longest_chain (main_name ds)).places

-- the lowest of them
unfoldable pub lowest : ℕ → List ℕ → ℕ
lowest p [] = p
lowest p (q ∷ qs) = lowest (min p q) qs

abbrev pub verdict : List ℕ → Profile
verdict [] = passes
verdict (p ∷ ps) = fails 92 (lowest p ps)

abbrev pub on_storage : Table → Word → Option ℕ → Profile
on_storage ds test none = fails 91 0
on_storage ds test (some o) = verdict (early_places ds test o)

abbrev pub on_body : Table → Word → Word → Option Action → Profile
on_body ds test output none = fails 90 0
on_body ds test output (some a) = on_storage ds test (storage_of ds output)

unfoldable pub profile : Table → Word → Word → Profile
profile ds test output = on_body ds test output (body_of ds test)
