-- What is asked of footprints over the carriers, the frame facts, and that the works of two moves with independent footprints commute.
use Rattle.std.specs.Prelude.{ℕ, ◌≡◌, refl, Bool, true, false, List, length}
use Rattle.std.proofs.Common.{sym, ◌∙◌, ap}
use Rattle.std.proofs.lemmas.Bool.{false≢true}
use Rattle.rules.specs.Grammar.Precedence.{Expr}
use Rattle.rules.specs.Values.{Value}
use Rattle.rules.specs.Declarations.{Table}
use Rattle.rules.specs.Steps.Actions.{Access}
use Rattle.rules.specs.Steps.Evaluation.{Carriers, Outcome, gives, faulty, evaluate, transferred}
use Rattle.rules.specs.Steps.Control.{Work, moves, tests, nothing}
use Rattle.rules.specs.Steps.Runs.{Worked, worked, moved, tested, perform}
use Rattle.laws_orders.proofs.Orders.Foot.{Cells, Disjoint, Indep, Prints, work_foot, Indep-sym}

abbrev pub Agree : (Carriers → ℕ → ℕ) → Cells → Carriers → Carriers → Type 0
Agree get F s u = (i : ℕ) → F i ≡ true → get s i ≡ get u i

-- Carriers are known by their number of words and by their cells. A transfer or a test that finds the same in what it reads does the same to what it
-- writes, and leaves all else.
pub record Frames (ds : Table) (P : Prints) : Type 0 where
  pub get : Carriers → ℕ → ℕ
  pub ext : (s u : Carriers) → length s ≡ length u → ((i : ℕ) → get s i ≡ get u i) → s ≡ u
  pub move_length : (d : List Access) (e : Expr) (s t : Carriers) → transferred ds s d e ≡ gives t → length t ≡ length s
  pub move_keeps : (d : List Access) (e : Expr) (s t : Carriers) → transferred ds s d e ≡ gives t → (i : ℕ) → (P.move d e).wr i ≡ false → get t i ≡ get s i
  pub move_faults :
      (d : List Access) (e : Expr) (s u : Carriers) (m p : ℕ) → Agree get (P.move d e).rd s u
      → transferred ds s d e ≡ faulty m p → transferred ds u d e ≡ faulty m p
  pub move_gives :
      (d : List Access) (e : Expr) (s u t : Carriers) → length s ≡ length u → Agree get (P.move d e).rd s u
      → transferred ds s d e ≡ gives t → (v : Carriers) × (transferred ds u d e ≡ gives v) × Agree get (P.move d e).wr t v
  pub test_agrees : (e : Expr) (s u : Carriers) → Agree get (P.test e) s u → evaluate ds s e ≡ evaluate ds u e

moved_gives : (x : Outcome Carriers) (w : Worked) → moved x ≡ gives w → (x ≡ gives w.carriers) × (0 ≡ w.number)
moved_gives (gives s) w e = (cc, cc)
moved_gives (faulty m p) w e = (cc, cc)

moved_faulty : (x : Outcome Carriers) {m p : ℕ} → moved x ≡ faulty m p → x ≡ faulty m p
moved_faulty (gives s) e = cc
moved_faulty (faulty m p) e = cc

tested_gives : (s : Carriers) (x : Outcome Value) (w : Worked) → tested s x ≡ gives w → s ≡ w.carriers
tested_gives s (gives v) w e = cc
tested_gives s (faulty m p) w e = cc

-- a test gives the same number on other carriers
retested : (s u : Carriers) (x : Outcome Value) (w : Worked) → tested s x ≡ gives w → tested u x ≡ gives (worked u w.number)
retested s u (gives v) w e = cc
retested s u (faulty m p) w e = cc

retested_faulty : (s u : Carriers) (x : Outcome Value) {m p : ℕ} → tested s x ≡ faulty m p → tested u x ≡ faulty m p
retested_faulty s u (gives v) e = cc
retested_faulty s u (faulty m p) e = cc

module _ {ds : Table} {P : Prints} (M : Frames ds P) where
  open M use {get}

  pub work_length : (o : Work) (s : Carriers) (w : Worked) → perform ds o s ≡ gives w → length w.carriers ≡ length s
  work_length (moves d e) s w h = M.move_length d e s w.carriers (moved_gives (transferred ds s d e) w h).0
  work_length (tests e) s w h = ap length (sym (tested_gives s (evaluate ds s e) w h))
  work_length nothing s w h = let q : w.carriers ≡ s = cc in ap length q

  pub work_keeps : (o : Work) (s : Carriers) (w : Worked) → perform ds o s ≡ gives w → (i : ℕ) → (work_foot P o).wr i ≡ false → get w.carriers i ≡ get s i
  work_keeps (moves d e) s w h i q = M.move_keeps d e s w.carriers (moved_gives (transferred ds s d e) w h).0 i q
  work_keeps (tests e) s w h i q = ap (λ z. get z i) (sym (tested_gives s (evaluate ds s e) w h))
  work_keeps nothing s w h i q = let z : w.carriers ≡ s = cc in ap (λ z. get z i) z

  work_faults : (o : Work) (s u : Carriers) (m p : ℕ) → Agree get (work_foot P o).rd s u → perform ds o s ≡ faulty m p → perform ds o u ≡ faulty m p
  work_faults (moves d e) s u m p a h = ap moved (M.move_faults d e s u m p a (moved_faulty (transferred ds s d e) h))
  work_faults (tests e) s u m p a h = ap (tested u) (sym (M.test_agrees e s u a)) ∙ retested_faulty s u (evaluate ds s e) h
  work_faults nothing s u m p a h = cc

  -- what a work gives on other carriers: the same number, and the same in what it writes
  pub record Again (o : Work) (w : Worked) (u : Carriers) : Type 0 where
    pub carriers : Carriers
    pub gives_so : perform ds o u ≡ gives (worked carriers w.number)
    pub agrees : Agree get (work_foot P o).wr w.carriers carriers

  pub work_gives : (o : Work) (s u : Carriers) (w : Worked) → length s ≡ length u → Agree get (work_foot P o).rd s u → perform ds o s ≡ gives w → Again o w u
  work_gives (moves d e) s u w l a h =
      let x = moved_gives (transferred ds s d e) w h in
      let y = M.move_gives d e s u w.carriers l a x.0 in
      record { carriers = y.0; gives_so = ap moved y.1 ∙ ap (λ n. gives (worked y.0 n)) x.1; agrees = y.2 }
  work_gives (tests e) s u w l a h =
      record {
        carriers = u;
        gives_so = ap (tested u) (sym (M.test_agrees e s u a)) ∙ retested s u (evaluate ds s e) w h;
        agrees = λ i p. absurd (false≢true p);
      }
  work_gives nothing s u w l a h = record { carriers = u; gives_so = cc; agrees = λ i p. absurd (false≢true p) }

  pub outside : (F G : Cells) → Disjoint F G → (i : ℕ) → G i ≡ true → F i ≡ false
  outside F G x i p = go (F i) refl
    where
      go : (b : Bool) → F i ≡ b → F i ≡ false
      go true e = absurd (x i e p)
      go false e = e

  module _ (o o' : Work) (d : Indep (work_foot P o) (work_foot P o')) (s : Carriers) where
    -- what the second work reads is as it was before the first
    unread : (w : Worked) → perform ds o s ≡ gives w → Agree get (work_foot P o').rd s w.carriers
    unread w e i p = sym (work_keeps o s w e i (outside (work_foot P o).wr (work_foot P o').rd d.wr_rd i p))

    pub later_faults : (w : Worked) (m p : ℕ) → perform ds o s ≡ gives w → perform ds o' s ≡ faulty m p → perform ds o' w.carriers ≡ faulty m p
    later_faults w m p e b = work_faults o' s w.carriers m p (unread w e) b

  -- two works of which each is done on what the other leaves
  pub record Both (o o' : Work) (w w' : Worked) : Type 0 where
    pub carriers : Carriers
    pub second_last : perform ds o' w.carriers ≡ gives (worked carriers w'.number)
    pub first_last : perform ds o w'.carriers ≡ gives (worked carriers w.number)

  module _
      (o o' : Work) (d : Indep (work_foot P o) (work_foot P o')) (s : Carriers) (w w' : Worked) (e : perform ds o s ≡ gives w) (e' : perform ds o' s ≡ gives w')
    where
      -- the second work on what the first leaves, and the first on what the second leaves
      second_after : Again o' w' w.carriers
      second_after = work_gives o' s w.carriers w' (sym (work_length o s w e)) (unread o o' d s w e) e'

      first_after : Again o w w'.carriers
      first_after = work_gives o s w'.carriers w (sym (work_length o' s w' e')) (unread o' o (Indep-sym d) s w' e') e

      same_length : length second_after.carriers ≡ length first_after.carriers
      same_length =
          (work_length o' w.carriers (worked second_after.carriers w'.number) second_after.gives_so ∙ work_length o s w e)
          ∙ (sym (work_length o' s w' e') ∙ sym (work_length o w'.carriers (worked first_after.carriers w.number) first_after.gives_so))

      second_keeps : (i : ℕ) → (work_foot P o').wr i ≡ false → get second_after.carriers i ≡ get w.carriers i
      second_keeps = work_keeps o' w.carriers (worked second_after.carriers w'.number) second_after.gives_so

      first_keeps : (i : ℕ) → (work_foot P o).wr i ≡ false → get first_after.carriers i ≡ get w'.carriers i
      first_keeps = work_keeps o w'.carriers (worked first_after.carriers w.number) first_after.gives_so

      at : (i : ℕ) (x y : Bool) → (work_foot P o).wr i ≡ x → (work_foot P o').wr i ≡ y → get second_after.carriers i ≡ get first_after.carriers i
      at i true true p q = absurd (d.wr_wr i p q)
      at i true false p q = second_keeps i q ∙ first_after.agrees i p
      at i false true p q = sym (second_after.agrees i q) ∙ sym (first_keeps i p)
      at i false false p q = (second_keeps i q ∙ work_keeps o s w e i p) ∙ (sym (work_keeps o' s w' e' i q) ∙ sym (first_keeps i p))

      same_carriers : second_after.carriers ≡ first_after.carriers
      same_carriers = M.ext second_after.carriers first_after.carriers same_length (λ i. at i ((work_foot P o).wr i) ((work_foot P o').wr i) refl refl)

      pub commute : Both o o' w w'
      commute =
          record {
            carriers = second_after.carriers;
            second_last = second_after.gives_so;
            first_last = first_after.gives_so ∙ ap (λ z. gives (worked z w.number)) (sym same_carriers);
          }
