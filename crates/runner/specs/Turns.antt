-- Where control goes behind a step, by the stack of return addresses in an array.
use Rattle.std.specs.Prelude.{ℕ, ◌<◌, ◌≤◌, ◌≡◌, List, length, Result, Ok, Err}
use Rattle.rules.specs.Limits.{longest_chain}
use Rattle.laws_orders.specs.Cited.Flat.{pc, over, halt, broken}
use Rattle.laws_orders.specs.Cited.Flat as flat
use Rattle.stepping.specs.declared.steps.Moved.{Moved}
use Rattle.stepping.specs.declared.steps.Moved.TheVariants.{Call}
use Rattle.stepping.specs.declared.steps.Fault.{Fault}
use Rattle.stepping.specs.Steps.{control}
use Rattle.runner.specs.declared.turns.Turned.{Turned}
use Rattle.runner.specs.declared.turns.Turned.TheVariants.{At, Over, Stop}
use Rattle.runner.specs.Runs.{stack_of}

abbrev pub turned_to : Result Turned Fault → List ℕ → flat.At
turned_to (Ok (At n d)) stack = pc n (stack_of stack d)
turned_to (Ok Over) stack = over
turned_to (Ok Stop) stack = halt
turned_to (Err f) stack = broken f.number f.place

-- a stack that has room for the return address of a step
pub record Room (stack : List ℕ) (moved : Result Moved Fault) (depth : ℕ) : Type 0 where
  pub long : length stack ≡ longest_chain
  pub high : depth ≤ longest_chain
  pub more : (f k : ℕ) → moved ≡ Ok (Call f k) → (k ≡ 0 → ⊥) → depth < longest_chain

-- control has gone where the step leads
pub record Turns (stack : List ℕ) (moved : Result Moved Fault) (depth : ℕ) (stack' : List ℕ) (r : Result Turned Fault) : Type 0 where
  pub size : length stack' ≡ length stack
  pub to : turned_to r stack' ≡ control moved (stack_of stack depth)
