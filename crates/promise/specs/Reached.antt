-- The instructions that control can come to: the first of each body, and wherever one of them leads.
use Rattle.std.specs.Prelude.{ℕ, ◌≡◌, ◌⊎◌}
use Rattle.std.proofs.Math.Option.{some}
use Rattle.rules.specs.Grammar.Trees.{Action}
use Rattle.rules.specs.Declarations.{Word, Table, body_of}
use Rattle.laws_orders.specs.Cited.Flat.{at, Entries, no_entry, entry, Instr, if_i, decode_i, go_i, call_i, stop_i, move_i, Code}

-- an alternative begins at g
abbrev pub EntryAt : Entries → ℕ → Type 0
EntryAt no_entry g = ⊥
EntryAt (entry c f t) g = (g ≡ f) ⊎ EntryAt t g

-- an instruction leads to g: by its link, inside, or into a body
abbrev pub Leads : Code → Instr → ℕ → Type 0
Leads C (if_i e f k) g = (g ≡ f) ⊎ (k ≡ at g)
Leads C (decode_i p e t) g = EntryAt t g
Leads C (go_i k) g = k ≡ at g
Leads C (call_i p k) g = (g ≡ C.first p) ⊎ (k ≡ at g)
Leads C stop_i g = ⊥
Leads C (move_i to e k) g = k ≡ at g

module _ (ds : Table) (C : Code) where
  pub data Reached : ℕ → Type 0 where
    first : (p : Word) (a : Action) → body_of ds p ≡ some a → Reached (C.first p)
    onward : (n g : ℕ) → Reached n → Leads C (C.instr n) g → Reached g
