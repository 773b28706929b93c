-- Footprints: what a thing may read and write, as sets of cells, and what is declared so of the parts of a description. What a cell is, a word or a bit
-- of one, is left open here.
use Rattle.std.specs.Prelude.{ℕ, ◌≡◌, Bool, true, false, List}
use Rattle.std.proofs.lemmas.Bool.{false≢true}
use Rattle.rules.specs.Grammar.Precedence.{Expr}
use Rattle.rules.specs.Declarations.{Word}
use Rattle.rules.specs.Steps.Actions.{Access}
use Rattle.rules.specs.Steps.Control.{Work, moves, tests, nothing}

-- a set of cells
abbrev pub Cells : Type 0
Cells = ℕ → Bool

abbrev pub no_cells : Cells
no_cells i = false

abbrev pub Within : Cells → Cells → Type 0
Within F G = (i : ℕ) → F i ≡ true → G i ≡ true

abbrev pub Disjoint : Cells → Cells → Type 0
Disjoint F G = (i : ℕ) → F i ≡ true → G i ≡ true → ⊥

pub record Foot : Type 0 where
  pub rd : Cells
  pub wr : Cells

abbrev pub foot : Cells → Cells → Foot
foot r w = record { rd = r; wr = w }

pub record Sub (F G : Foot) : Type 0 where
  pub reads : Within F.rd G.rd
  pub writes : Within F.wr G.wr

-- neither writes what the other reads or writes
pub record Indep (F G : Foot) : Type 0 where
  pub wr_rd : Disjoint F.wr G.rd
  pub rd_wr : Disjoint F.rd G.wr
  pub wr_wr : Disjoint F.wr G.wr

pub Indep-sym : {F G : Foot} → Indep F G → Indep G F
Indep-sym d = record { wr_rd = λ i p q. d.rd_wr i q p; rd_wr = λ i p q. d.wr_rd i q p; wr_wr = λ i p q. d.wr_wr i q p }

pub Indep-sub : {F G F' G' : Foot} → Sub F' F → Sub G' G → Indep F G → Indep F' G'
Indep-sub s t d =
    record {
      wr_rd = λ i p q. d.wr_rd i (s.writes i p) (t.reads i q);
      rd_wr = λ i p q. d.rd_wr i (s.reads i p) (t.writes i q);
      wr_wr = λ i p q. d.wr_wr i (s.writes i p) (t.writes i q);
    }

pub Sub-refl : (F : Foot) → Sub F F
Sub-refl F = record { reads = λ i p. p; writes = λ i p. p }

pub Sub-trans : {F G H : Foot} → Sub F G → Sub G H → Sub F H
Sub-trans s t = record { reads = λ i p. t.reads i (s.reads i p); writes = λ i p. t.writes i (s.writes i p) }

-- what is declared: of a body its footprint and whether it may stop; of a transfer its footprint; of a test what it reads
pub record Prints : Type 0 where
  pub body : Word → Foot
  pub stops : Word → Bool
  pub move : List Access → Expr → Foot
  pub test : Expr → Cells

abbrev pub work_foot : Prints → Work → Foot
work_foot P (moves d e) = P.move d e
work_foot P (tests e) = foot (P.test e) no_cells
work_foot P nothing = foot no_cells no_cells

pub reads_only : {F : Foot} {R : Cells} → Within R F.rd → Sub (foot R no_cells) F
reads_only h = record { reads = h; writes = λ i p. absurd (false≢true p) }

pub untouched : (F : Foot) → Sub (foot no_cells no_cells) F
untouched F = reads_only (λ i p. absurd (false≢true p))
