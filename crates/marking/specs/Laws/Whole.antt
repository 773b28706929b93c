-- A description in the table whose tokens have their cells is marked.
use Rattle.std.specs.Prelude.{ℕ, List, length, drop}
use Rattle.std.proofs.Common.{sym, ap, ◌∙◌, subst, arith}
use Rattle.reading.specs.Reading.{Kinded, Reading}
use Rattle.reading.specs.Laws.Reading.{kinded}
use Rattle.telling.specs.Cited.Cells.{member_by, AllMarked}
use Rattle.members.specs.Cells.{cells_in}
use Rattle.members.specs.Laws.Cells.{rank_behind, up_behind}
use Rattle.marking.specs.Machine.{outset, Follows}
use Rattle.marking.specs.Laws.Described.{bodies_marked}

pub all_marked : {records decls : List ℕ} (cells : List ℕ) {m n : ℕ} → ((v : Kinded records n) → Follows (cells_in cells n) n outset (drop 3 v.tokens)) → (v : Reading records decls m n)
    → AllMarked (cells_in cells n) v.description n
all_marked cells {n = n} told v =
    let K = cells_in cells n in
    record {
      bodies =
          bodies_marked K n v.description (v.count ∙ ap length (sym v.ready.stands)) v.ready.shallow
          (subst (λ ts. Follows K n outset (drop 3 ts)) (sym v.ready.stands) (told (kinded v)));
      outside = ap (λ r. member_by K r n) (rank_behind cells n n (omega arith)) ∙ up_behind cells n n (omega arith);
    }
