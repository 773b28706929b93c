-- Where nothing is too early, every word of the output is as it was at the start until an activation of the test has ended, and through the step that ends it.
use Prim.Native.Nat.{ℕ, zero, suc}
use Rattle.std.specs.Prelude.{◌≡◌, refl, Bool, true, false, ◌||◌}
use Rattle.std.proofs.Common.{sym, ◌∙◌, subst}
use Rattle.std.proofs.Math.Path.{ap}
use Rattle.std.proofs.lemmas.Bool.{false≢true}
use mathlib.Core.List.{List, map}
use Rattle.rules.specs.Grammar.Precedence.{Expr}
use Rattle.rules.specs.Values.{Value, cut}
use Rattle.rules.specs.Declarations.{Word, Table}
use Rattle.rules.specs.Steps.Actions.{Access, transfer_place}
use Rattle.rules.specs.Steps.Evaluation.{Carriers, Outcome, gives, faulty, store_all, evaluate, evaluate_accesses, transferred}
use Rattle.rules.specs.Steps.Control.{Live, Work, moves, tests, nothing, Sig, ends, goes, leaves, restarts, stops, faults, Mv, work, next}
use Rattle.rules.specs.Steps.Runs.{Conf, running, finished, stopped, failed, Worked, moved, tested, perform, told, after, body_act, step, Steps, begin}
use Rattle.rules.specs.Whole.Sets.{member, stores}
use Rattle.rules.specs.Faults.Whole.{main_name}
use Rattle.laws_orders.proofs.Orders.Tests.{or_neither}
use Rattle.laws_orders.proofs.Orders.Owners.{owner_at}
use Rattle.laws_orders.proofs.Orders.Fields.{word, stores_keep}
use Rattle.laws_orders.proofs.Orders.Reading.{words_in, then_gave, accesses_land}
use Rattle.rules.specs.Paths.{Writes, TooEarly, ends_by, test_ended}
use Rattle.paths.proofs.Runs.{no_early_store}

abbrev pub carriers_in : Conf → Carriers
carriers_in (running r s) = s
carriers_in (finished s) = s
carriers_in (stopped s) = s
carriers_in (failed m p s) = s

module _ (ds : Table) (test : Word) (output : ℕ) where
  -- a transfer that goes through keeps each word that it does not store to
  transfer_keeps : (d : List Access) (e : Expr) (s t : Carriers) → transferred ds s d e ≡ gives t → (i : ℕ) → words_in ds (stores ds d) i ≡ false → word t i ≡ word s i
  unfolding transferred
  transfer_keeps d e s t h i q =
      let x = then_gave (evaluate ds s e) _ t h in
      let y = then_gave (evaluate_accesses ds s d) _ t x.2 in
      let v : List ℕ = cut (map (λ f. f.size) y.0) x.0.number in
      let z : store_all s y.0 v ≡ t = cc y.2 in
      ap (λ c. word c i) (sym z) ∙ stores_keep (words_in ds (stores ds d)) s y.0 v i (accesses_land ds s d y.0 y.1) q

  abbrev carriers_or : Carriers → Outcome Worked → Carriers
  carriers_or s (gives w) = w.carriers
  carriers_or s (faulty m p) = s

  abbrev moved_or : Carriers → Outcome Carriers → Carriers
  moved_or s (gives t) = t
  moved_or s (faulty m p) = s

  moved_carriers : (s : Carriers) (x : Outcome Carriers) → carriers_or s (moved x) ≡ moved_or s x
  moved_carriers s (gives t) = refl
  moved_carriers s (faulty m p) = refl

  tested_carriers : (s : Carriers) (x : Outcome Value) → carriers_or s (tested s x) ≡ s
  tested_carriers s (gives v) = refl
  tested_carriers s (faulty m p) = refl

  module _ (i : ℕ) (its : owner_at ds i ≡ output) where
    transfer_by : (d : List Access) (e : Expr) (s : Carriers) (x : Outcome Carriers) → transferred ds s d e ≡ x → member output (stores ds d) ≡ false → word (moved_or s x) i ≡ word s i
    transfer_by d e s (gives t) h q = transfer_keeps d e s t h i (subst (λ o. member o (stores ds d) ≡ false) (sym its) q)
    transfer_by d e s (faulty m p) h q = refl

    work_keeps : (o : Work) (s : Carriers) → ((p : ℕ) → ¬ Writes ds output o p) → word (carriers_or s (perform ds o s)) i ≡ word s i
    work_keeps (moves d e) s f =
        ap (λ c. word c i) (moved_carriers s (transferred ds s d e)) ∙ transfer_by d e s (transferred ds s d e) refl (by (member output (stores ds d)) refl)
      where
        by : (b : Bool) → member output (stores ds d) ≡ b → member output (stores ds d) ≡ false
        by true h = absurd (f (transfer_place d) (h, refl))
        by false h = h
    work_keeps (tests e) s f = ap (λ c. word c i) (tested_carriers s (evaluate ds s e))
    work_keeps nothing s f = refl

    told_keeps : (s u : Carriers) (x : Sig) → word u i ≡ word s i → word (carriers_in (told s u x)) i ≡ word s i
    told_keeps s u ends h = h
    told_keeps s u (goes r) h = h
    told_keeps s u (leaves l) h = refl
    told_keeps s u (restarts l) h = refl
    told_keeps s u stops h = h
    told_keeps s u (faults m p) h = refl

    after_keeps : (s : Carriers) (f : ℕ → Sig) (x : Outcome Worked) → word (carriers_or s x) i ≡ word s i → word (carriers_in (after s f x)) i ≡ word s i
    after_keeps s f (gives w) h = told_keeps s w.carriers (f w.number) h
    after_keeps s f (faulty m p) h = refl

    step_keeps : (r : Live) (m : Mv r) (s : Carriers) → ((p : ℕ) → ¬ Writes ds output (work r m) p) → word (carriers_in (step ds r m s)) i ≡ word s i
    step_keeps r m s f = after_keeps s (next (body_act ds) r m) (perform ds (work r m) s) (work_keeps (work r m) s f)

  -- the last of some steps
  record Last (n : ℕ) (c d : Conf) (q : Steps ds (suc n) c d) : Type 0 where
    live : Live
    carriers : Carriers
    before : Steps ds n c (running live carriers)
    move : Mv live
    lands : step ds live move carriers ≡ d
    quiet : test_ended ds test (suc n) c d q ≡ false → test_ended ds test n c (running live carriers) before ≡ false

  last : (n : ℕ) (c d : Conf) (q : Steps ds (suc n) c d) → Last n c d q
  last zero (running r s) d q = record { live = r; carriers = s; before = refl; move = q.0; lands = q.1; quiet = λ h. refl }
  last zero (finished s) d q = absurd q
  last zero (stopped s) d q = absurd q
  last zero (failed m p s) d q = absurd q
  last (suc n) (running r s) d q =
      let l = last n (step ds r q.0 s) d q.1 in
      record {
        live = l.live;
        carriers = l.carriers;
        before = (q.0, l.before);
        move = l.move;
        lands = l.lands;
        quiet = λ h.
            let E : Bool = ends_by ds test r q.0 (perform ds (work r q.0) s) in
            let e = or_neither E (test_ended ds test (suc n) (step ds r q.0 s) d q.1) h in
            ap (λ b. b || test_ended ds test n (step ds r q.0 s) (running l.live l.carriers) l.before) e.0 ∙ l.quiet e.1;
      }
  last (suc n) (finished s) d q = absurd q
  last (suc n) (stopped s) d q = absurd q
  last (suc n) (failed m p s) d q = absurd q

  module _ (none_early : (p : ℕ) → ¬ TooEarly ds test output p) (s : Carriers) (i : ℕ) (its : owner_at ds i ≡ output) where
    abbrev outset_c : Conf
    outset_c = begin ds (main_name ds) s

    -- one more step, before the test has ended
    once :
        (n : ℕ) (r : Live) (t : Carriers) (q : Steps ds n outset_c (running r t)) → test_ended ds test n outset_c (running r t) q ≡ false → (m : Mv r)
        → word (carriers_in (step ds r m t)) i ≡ word t i
    once n r t q h m = step_keeps i its r m t (λ p w. false≢true (sym h ∙ no_early_store ds test output none_early n s t r q m p w))

    pub output_kept : (n : ℕ) (c : Conf) (q : Steps ds n outset_c c) → test_ended ds test n outset_c c q ≡ false → word (carriers_in c) i ≡ word s i
    unfolding begin
    output_kept zero c q h = ap (λ x. word (carriers_in x) i) (sym q)
    output_kept (suc n) c q h =
        let l = last n outset_c c q in
        let e = l.quiet h in
        ap (λ x. word (carriers_in x) i) (sym l.lands)
        ∙ (once n l.live l.carriers l.before e l.move ∙ output_kept n (running l.live l.carriers) l.before e)

    pub kept_through :
        (n : ℕ) (r : Live) (t : Carriers) (q : Steps ds n outset_c (running r t)) → test_ended ds test n outset_c (running r t) q ≡ false → (m : Mv r)
        → word (carriers_in (step ds r m t)) i ≡ word s i
    kept_through n r t q h m = once n r t q h m ∙ output_kept n (running r t) q h
