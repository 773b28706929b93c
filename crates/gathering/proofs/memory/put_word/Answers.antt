-- `gathering::memory::put_word` meets its contract.
use borrow.Author.Rules.{rules}
use mathlib.Core.Path.{◌≡◌, sym, subst}
use mathlib.Core.List.{List}
use Prim.Native.Nat.{ℕ, ◌+◌, ◌*◌, ◌^◌, ◌<◌, ◌≤◌}
use lib.ListN.{length}
use Rattle.cells.specs.Cells.{put_cell}
use Rattle.gathering.specs.Memory.{Put}
use Rattle.gathering.specs.Laws.Memory.{put_cell_lem}
use Rattle.gathering.proofs.memory.put_word.Goals as goal

put : {b d : List ℕ} {i v : ℕ} → 8 * i + 8 ≤ length b → v < 2 ^ 64 → d ≡ put_cell 8 b i v → Put b d i v
put {b} {d} {i} {v} h l e = subst (λ (x : List ℕ). Put b x i v) (sym e) (put_cell_lem b i v h l)

pub returns : goal.returns
returns c = search (rules, put)
