-- `choices::choice_fault` meets its contract.
-- Assumes nothing.
use native.Mathlib.Omega.{arith}
use mathlib.Core.Path.{◌≡◌, sym, ap, ◌∙◌}
use mathlib.Core.Bool.{Bool, true, false}
use Prim.Native.Nat.{ℕ, ◌≤◌}
use Rattle.rules.specs.Faults.Fault.{fault, when}
use Rattle.keys.specs.Laws.Keys.{fault_key, no_fault_key}
use Rattle.keys.specs.Keys.{key, no_key, least_key}
use Rattle.choices.proofs.choice_fault.Goals as goal

faulty : (b : Bool) (p q r : ℕ) → b ≡ true → p ≡ q → q ≤ 32768 → r ≡ key (fault 45 p) → r ≡ least_key (when b 45 q)
faulty b p q r t e l f = f ∙ ap (λ (x : ℕ). key (fault 45 x)) e ∙ sym (ap (λ (x : Bool). least_key (when x 45 q)) t ∙ fault_key 45 q (omega arith) l)

lawful : (b : Bool) (q : ℕ) → b ≡ false → no_key ≡ least_key (when b 45 q)
lawful b q f = sym (ap (λ (x : Bool). least_key (when x 45 q)) f ∙ no_fault_key 45 q)

pub returns-then-number-past : goal.returns-then-number-past
returns-then-number-past c = faulty _ _ _ _ c.if-number-past.true c.place_at.ensures c.requires.1 c.fault_key.ensures

pub returns : goal.returns
returns c = lawful _ _ c.if-number-past.false
