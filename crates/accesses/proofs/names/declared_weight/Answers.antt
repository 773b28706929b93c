-- `accesses::names::declared_weight` meets its contract: an answer for each fault of an access, and one for none.
-- Assumes nothing.
use borrow.Author.Rules.{rules}
use borrow.Author.Tests.{not-true}
use mathlib.Core.Path.{◌≡◌, sym, ◌∙◌}
use mathlib.Core.Bool.{Bool, true, false, not}
use mathlib.Core.Option.{Option}
use Rattle.std.specs.Prelude.{Some, None}
use Prim.Native.Nat.{ℕ, ◌≤◌}
use Rattle.rules.specs.Limits.{longest_text}
use Rattle.rules.specs.Grammar.Trees.{Bits}
use Rattle.rules.specs.Grammar.Precedence.{Index}
use Rattle.rules.specs.Declarations.{Names as Span-of, BitNames}
use Rattle.rules.specs.Faults.Fault.{fault}
use Rattle.rules.specs.Faults.Bodies.{access_judged}
use Rattle.keys.specs.Keys.{key, no_key}
use Rattle.table.specs.declared.views.Names.{Names}
use Rattle.weighing.specs.Weights.{Weighs}
use Rattle.accesses.specs.Lengths.{Short, access_length}
use Rattle.accesses.specs.Names.{Shows, is_missing, fits_words}
use Rattle.accesses.specs.Laws.Names.{access_bitless, access_unfit, access_outside, access_sound}
use Rattle.accesses.proofs.names.declared_weight.Goals as goal

-- whatever is shown, the weight is that of the access
abbrev All : ℕ → Names → Names → Names → Bool → ℕ → ℕ → Type 0
All p words own given t k n =
    (w : Option Span-of) (b : Option BitNames) (x : Index) (g : Bits) → Shows words own given t w b x g → Weighs k n (access_judged p w b x g)

module _ (p : ℕ) (words own given : Names) (t : Bool) (l : p ≤ longest_text) {m : Bool} (em : m ≡ is_missing own) where
  bitless : m ≡ true → (k : ℕ) → k ≡ key (fault 41 p) → All p words own given t k 0
  bitless h k e w b x g s = rw e (access_bitless p s (sym em ∙ h) l)

  module _ (hm : m ≡ false) {f : Bool} (ef : f ≡ fits_words words t) where
    unfit : not f ≡ true → (k : ℕ) → k ≡ key (fault 41 p) → All p words own given t k 0
    unfit h k e w b x g s = rw e (access_unfit p s (sym em ∙ hm) (sym ef ∙ not-true f h) l)

    module _ (hf : f ≡ true) where
      outside : None ≡ access_length own given → (k : ℕ) → k ≡ key (fault 42 p) → All p words own given t k 0
      outside z k e w b x g s = rw e (access_outside p s (sym em ∙ hm) (sym ef ∙ hf) (sym z) l)

      sound : (n : ℕ) → Some n ≡ access_length own given → Short own → All p words own given t no_key n
      sound n e h w b x g s = access_sound p s (sym em ∙ hm) (sym ef ∙ hf) (sym e) h

pub returns-then-is_missing : goal.returns-then-is_missing
returns-then-is_missing c = search (rules, bitless)

pub returns-then-not-fits_words : goal.returns-then-not-fits_words
returns-then-not-fits_words c = search (rules, unfit)

pub returns-in-None : goal.returns-in-None
returns-in-None c = outside _ _ _ _ _ (c.requires.1) c.is_missing.ensures c.if-is_missing.false c.fits_words.ensures c.if-not-fits_words.false c.in-None.ensures _ c.fault_key-in-None.ensures

pub returns-in-Some : goal.returns-in-Some
returns-in-Some c = sound _ _ _ _ _ (c.requires.1) c.is_missing.ensures c.if-is_missing.false c.fits_words.ensures c.if-not-fits_words.false _ c.in-Some.ensures c.requires.0
