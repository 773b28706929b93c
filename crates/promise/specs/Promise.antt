-- The reader's promise to the runner: an accepted description stands in the table, every number in it is in range, every length is from 1 to 64, and
-- every link leads to an instruction or out. The runner knows nothing else.
use Rattle.std.specs.Prelude.{ℕ, ◌*◌, ◌<◌, ◌≤◌, ◌^◌, ◌≡◌, false, List, length}
use Rattle.rules.specs.Text.Tokens.{Const}
use Rattle.rules.specs.Grammar.Trees.{Tokens}
use Rattle.rules.specs.Declarations.{Word, Table, total_words}
use Rattle.rules.specs.Steps.Runs.{body_act}
use Rattle.rules.specs.Whole.Sets.{chain_over}
use Rattle.rules.specs.Limits.{most_declarations, most_words, longest_chain}
use Rattle.laws_accepted.specs.Cited.Declared.{Declares}
use Rattle.laws_orders.specs.Cited.Flat.{Code, HoldsBodies}
use Rattle.records.specs.Holds.{Holds, token_at}
use Rattle.promise.specs.Accesses.{AccessesHold}
use Rattle.promise.specs.Instructions.{InstructionHolds}
use Rattle.promise.specs.Reached.{Reached}

pub record Promise (text records values decls : List ℕ) (ts : Tokens) (outer : Word) (ds : Table) (C : Code) : Type 0 where
  pub holds : Holds text records values ts
  pub fits : (i : ℕ) → i < length ts → (token_at ts i).kind ≡ Const → (token_at ts i).info.value < 2 ^ (token_at ts i).info.bits
  pub decls_room : 2 * most_declarations ≤ length decls
  pub fixed : (i : ℕ) → i < length ts → (token_at ts i).kind ≡ Const → (token_at ts i).info.free ≡ 0
  pub declares : Declares outer ds
  pub few_words : total_words ds ≤ most_words
  pub accesses : AccessesHold values ts outer ds
  pub bodies : HoldsBodies C (body_act ds)
  pub chains : (n : Word) → chain_over ds longest_chain n ≡ false
  pub instructions : (n : ℕ) → Reached ds C n → (0 < n) × ((n < length ts) × InstructionHolds records decls ts outer ds C n (C.instr n))
