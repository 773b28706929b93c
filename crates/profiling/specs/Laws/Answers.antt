-- What the call needs of the table: the test by its number, and the lowest place of MAIN.
use Rattle.std.specs.Prelude.{ℕ, ◌+◌, ◌*◌, ◌<◌, ◌≡◌, refl, Bool, true, false, List, eqb}
use Rattle.std.proofs.Common.{sym, ap, ◌∙◌, arith, eq-eqb, ne_eqb}
use Rattle.std.proofs.lemmas.Bool.{false≢true}
use Rattle.std.proofs.Math.Option.{Option, none, some, some-injective}
use Rattle.cells.specs.Cells.{cell}
use Rattle.rules.specs.Text.Scan.{same_bytes}
use Rattle.rules.specs.Declarations.{Word, number_of}
use Rattle.rules.specs.Faults.Whole.{main_name}
use Rattle.laws_accepted.proofs.Accepted.Named.{same_equal, same_itself, found}
use Rattle.paths.specs.Cited.Early.{early_places}
use Rattle.paths.specs.Cited.Least.{least}
use Rattle.reading.specs.Laws.Names.{number_bound}
use Rattle.reading.specs.Laws.Meanings.{table_size_lem}
use Rattle.profiling.specs.Spelt.{SpeltDescription, whole}
use Rattle.profiling.specs.Laws.Spelt.{reading}
use Rattle.nesting.specs.Holding.{unseen}
use Rattle.reading.specs.Indexes.{number_or, index_of}
use Rattle.profiling.specs.Levels.{Aimed, Known16}
use Rattle.profiling.specs.declared.tasks.Task.{Task}

-- a declared test is known by its number
pub aimed : {records decls : List ℕ} {m n : ℕ} (v : SpeltDescription records decls m n) (test : Word) (aim : ℕ) → number_of (whole v) test ≡ some aim → Aimed v test aim
aimed v test aim e w = by (same_bytes w test) refl (number_of (whole v) w) refl
  where
    few : aim < 256
    few = omega (arith, number_bound (whole v) aim test e, table_size_lem (reading v), v.ready.few)

    by : (b : Bool) → same_bytes w test ≡ b → (o : Option ℕ) → number_of (whole v) w ≡ o → b ≡ eqb (index_of (whole v) w) aim
    by true s o q = sym (eq-eqb (index_of (whole v) w) aim (ap number_or (ap (number_of (whole v)) (same_equal w test s) ∙ e)))
    by false s none q = sym (ne_eqb (index_of (whole v) w) aim (λ z. omega (arith, few, ap number_or q)))
    by false s (some j) q =
        sym (ne_eqb (index_of (whole v) w) aim (λ z.
        let here : number_of (whole v) w ≡ some aim = q ∙ ap some (sym (ap number_or q) ∙ z) in
        let f = found (whole v) w aim here in
        let g = found (whole v) test aim e in
        let same : w ≡ test = sym f.named ∙ (ap (λ d. d.name.word) (some-injective f.declared g.declared (sym f.there ∙ g.there)) ∙ g.named) in
        false≢true (sym s ∙ (ap (λ x. same_bytes x test) same ∙ same_itself test))))

-- THE LOWEST PLACE that is too early stands in the second cell of MAIN
pub lowest_known : {records decls table : List ℕ} (t : Task) → Known16 records decls table t → (v : SpeltDescription records decls t.m t.n) (test : Word)
    → Aimed v test t.aim → (k : ℕ) → number_of (whole v) (main_name (whole v)) ≡ some k
    → cell 2 table (2 * k + 1) ≡ least unseen (early_places (whole v) test t.out)
unfolding early_places
lowest_known {table = table} t known v test aims k e = ap (λ q. cell 2 table (2 * q + 1)) (sym (ap number_or e)) ∙ (known v test aims (main_name (whole v))).low
