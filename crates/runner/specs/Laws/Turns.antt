-- Laws of where control goes behind a step: by what the step leads to, and by the newest return address.
-- Assumes nothing.
use Rattle.std.specs.Prelude.{ℕ, zero, suc, ◌+◌, ◌-◌, ◌<◌, ◌≡◌, refl, List, length, get_or, set, Result, Ok, Err}
use Rattle.std.proofs.Common.{sym, ap, ◌∙◌, length-set}
use Rattle.laws_orders.specs.Cited.Flat.{pc, return}
use Rattle.stepping.specs.declared.steps.Moved.{Moved}
use Rattle.stepping.specs.declared.steps.Moved.TheVariants.{Go, Call, Stop as Stands}
use Rattle.stepping.specs.declared.steps.Fault.{Fault}
use Rattle.stepping.specs.Steps.{returning, onward, control}
use Rattle.runner.specs.declared.turns.Turned.{Turned}
use Rattle.runner.specs.declared.turns.Turned.TheVariants.{At, Over, Stop}
use Rattle.runner.specs.Runs.{stack_of}
use Rattle.runner.specs.Turns.{turned_to, Turns}
use Rattle.runner.specs.Laws.Runs.{stack_pushed, bottom, popped, pushes}

goes : (n : ℕ) (σ : List ℕ) → (n ≡ 0 → ⊥) → onward n σ ≡ pc n σ
goes zero σ z = absurd (z refl)
goes (suc n) σ z = refl

module _ (stack : List ℕ) (depth : ℕ) where
  -- OUT OF A BODY
  pub back_over : depth ≡ 0 → turned_to (Ok Over) stack ≡ return (stack_of stack depth)
  back_over e = sym (ap return (bottom stack depth e))

  pub back_there : (depth ≡ 0 → ⊥) → turned_to (Ok (At (get_or stack (depth - 1) 0) (depth - 1))) stack ≡ return (stack_of stack depth)
  back_there n = sym (popped stack depth n)

  -- BEHIND A STEP
  module _ {moved : Result Moved Fault} where
    turned : {stack' : List ℕ} {r : Result Turned Fault} (m : Result Moved Fault) → moved ≡ m → length stack' ≡ length stack → turned_to r stack' ≡ control m (stack_of stack depth) → Turns stack moved depth stack' r
    turned m e l t = record { size = l; to = t ∙ sym (ap (λ m. control m (stack_of stack depth)) e) }

    pub faults : {f : Fault} → moved ≡ Err f → Turns stack moved depth stack (Err f)
    faults {f} e = turned (Err f) e refl refl

    pub stands : moved ≡ Ok Stands → Turns stack moved depth stack (Ok Stop)
    stands e = turned (Ok Stands) e refl refl

    pub calls_last : {f b : ℕ} → moved ≡ Ok (Call f b) → b ≡ 0 → Turns stack moved depth stack (Ok (At f depth))
    calls_last {f} {b} e z = turned (Ok (Call f b)) e refl (sym (ap (λ b. pc f (returning b (stack_of stack depth))) z))

    pub calls_more : {f b : ℕ} → moved ≡ Ok (Call f b) → (b ≡ 0 → ⊥) → depth < length stack → Turns stack moved depth (set stack depth b) (Ok (At f (depth + 1)))
    calls_more {f} {b} e z l = turned (Ok (Call f b)) e (simp length-set) (ap (pc f) (stack_pushed stack b depth l ∙ sym (pushes b (stack_of stack depth) z)))

    pub goes_there : {n : ℕ} → moved ≡ Ok (Go n) → (n ≡ 0 → ⊥) → Turns stack moved depth stack (Ok (At n depth))
    goes_there {n} e z = turned (Ok (Go n)) e refl (sym (goes n (stack_of stack depth) z))

    pub goes_back : {n : ℕ} (r : Result Turned Fault) → moved ≡ Ok (Go n) → n ≡ 0 → turned_to r stack ≡ return (stack_of stack depth) → Turns stack moved depth stack r
    goes_back {n} r e z t = turned (Ok (Go n)) e refl (t ∙ sym (ap (λ n. onward n (stack_of stack depth)) z))
