-- The carriers and the cells, laid into the fourth buffer one behind the other.
-- Assumes nothing.
use Rattle.std.specs.Prelude.{ℕ, ◌+◌, ◌-◌, ◌≤◌, ◌≡◌, List, [], ◌++◌, length, take, drop}
use Rattle.std.proofs.Common.{sym, ap, ◌∙◌, subst, append-nil, arith, length-append, length-take-le, take-take, drop-drop, drop_at}
use Rattle.std.proofs.Math.Seq.{take-length, drop-length, paste}
use Rattle.std.proofs.lemmas.List.{take-append-le}
use Rattle.std.proofs.lemmas.List.Edits.{length-paste, take-paste}
use Rattle.reading.specs.Reading.{Reading}
use Rattle.telling.specs.Cited.Cells.{AllMarked}
use Rattle.members.specs.Cells.{cells_in}
use Rattle.tracing.specs.Turns.{cells_at}
use Rattle.compared.specs.Laid.{Laid}

module _ (records carriers before middle cells : List ℕ) (n : ℕ) (short : length carriers ≤ cells_at) (long : 65536 ≤ length before)
    (copied : middle ≡ paste before 0 carriers (length carriers)) (own : length cells ≡ length middle - cells_at) where
  abbrev k : ℕ
  k = length middle - cells_at

  as_long : length middle ≡ length before
  as_long = ap length copied ∙ length-paste before 0 carriers (length carriers) (omega arith) (omega arith)

  nothing_behind : drop k (drop cells_at middle) ≡ []
  nothing_behind =
      let e : cells_at + k ≡ length middle = omega (arith, as_long) in
      drop-drop k cells_at middle ∙ ap (λ i. drop i middle) e ∙ drop-length middle

  abbrev joined : List ℕ
  joined = take cells_at middle ++ (cells ++ drop k (drop cells_at middle))

  in_front : length (take cells_at middle) ≡ cells_at
  in_front = length-take-le cells_at middle (omega (arith, as_long))

  first : length carriers ≡ 0 + length carriers
  first = omega arith

  behind : drop cells_at joined ≡ cells
  behind = drop_at (take cells_at middle) (cells ++ drop k (drop cells_at middle)) cells_at in_front ∙ ap (λ r. cells ++ r) nothing_behind ∙ append-nil cells

  pub laid : ((decls : List ℕ) (m : ℕ) (v : Reading records decls m n) → AllMarked (cells_in cells n) v.description n) → Laid records carriers before joined n
  laid marks = record {
    long = length-append (take cells_at middle) (cells ++ drop k (drop cells_at middle)) ∙ omega (arith, in_front, ap length (ap (λ r. cells ++ r) nothing_behind ∙ append-nil cells), own, as_long);
    front = take-append-le (length carriers) (take cells_at middle) (cells ++ drop k (drop cells_at middle)) (omega (arith, in_front)) ∙ take-take (length carriers) cells_at middle short
        ∙ ap (λ i. take i middle) first ∙ ap (take (0 + length carriers)) copied ∙ take-paste before 0 carriers (length carriers) (omega arith) (omega arith) ∙ take-length carriers;
    marked = λ decls m v. subst (λ b. AllMarked (cells_in b n) v.description n) (sym behind) (marks decls m v);
  }
