-- Footprints by whole carriers, as the description's sets have them, and the frame facts of transfers and tests for them. A store to some bits of a word
-- keeps the others, so what is written counts as read too; that makes no race.
use Prim.Native.Nat.{ℕ}
use Rattle.std.specs.Prelude.{◌≡◌, length}
use Rattle.std.proofs.Math.Path.{refl, subst}
use Rattle.std.proofs.Common.{sym, ◌∙◌, ap, ext_get_or}
use mathlib.Core.List.{List, ◌++◌, map}
use Rattle.rules.specs.Grammar.Precedence.{Expr}
use Rattle.rules.specs.Values.{Value, cut}
use Rattle.rules.specs.Declarations.{Table}
use Rattle.rules.specs.Steps.Actions.{Access}
use Rattle.rules.specs.Steps.Evaluation.{Carriers, Outcome, gives, faulty, then, Field, store_all, evaluate, evaluate_accesses, transferred}
use Rattle.rules.specs.Whole.Sets.{Sets, sets, reads_of, subscript_reads, stores, body_sets, body_stops}
use Rattle.rules.specs.Limits.{longest_chain}
use Rattle.laws_orders.proofs.Orders.Foot.{Foot, foot, Prints}
use Rattle.laws_orders.proofs.Orders.Effect.{Agree, Frames}
use Rattle.laws_orders.proofs.Orders.Fields.{word, stores_length, stores_keep, stores_agree}
use Rattle.laws_orders.proofs.Orders.Reading.{words_in, then_gave, Alike, alike_left, alike_right, evaluate_agrees, accesses_agree, accesses_land}

module _ (ds : Table) where
  abbrev pub foot_of : Sets → Foot
  foot_of x = foot (words_in ds (x.reads ++ x.writes)) (words_in ds x.writes)

  abbrev pub move_sets : List Access → Expr → Sets
  move_sets d e = sets (reads_of ds e ++ subscript_reads ds d) (stores ds d)

  abbrev pub prints_of : Prints
  prints_of =
      record {
        body = λ n. foot_of (body_sets ds longest_chain n);
        stops = body_stops ds longest_chain;
        move = λ d e. foot_of (move_sets d e);
        test = λ e. words_in ds (reads_of ds e);
      }

  -- the values that are stored, one for each field
  abbrev pub parts : List Field → Value → List ℕ
  parts fs v = cut (map (λ f. f.size) fs) v.number

  -- a transfer that goes through, in its parts
  pub record Moved (d : List Access) (e : Expr) (s t : Carriers) : Type 0 where
    pub right_side : Value
    pub fields : List Field
    pub evaluated : evaluate ds s e ≡ gives right_side
    pub located : evaluate_accesses ds s d ≡ gives fields
    pub result : store_all s fields (parts fields right_side) ≡ t

  pub moved_by : (d : List Access) (e : Expr) (s t : Carriers) → transferred ds s d e ≡ gives t → Moved d e s t
  unfolding transferred
  moved_by d e s t h =
      let x = then_gave (evaluate ds s e) _ t h in
      let y = then_gave (evaluate_accesses ds s d) _ t x.2 in
      record { right_side = x.0; fields = y.0; evaluated = x.1; located = y.1; result = cc y.2 }

  then_faulty :
      {A B : Type 0} (x : Outcome A) (f g : A → Outcome B) (m p : ℕ) → ((a : A) → f a ≡ faulty m p → g a ≡ faulty m p)
      → then x f ≡ faulty m p → then x g ≡ faulty m p
  unfolding then
  then_faulty (gives a) f g m p h e = h a e
  then_faulty (faulty n q) f g m p h e = e

  -- on carriers that agree where the transfer reads
  module _ (d : List Access) (e : Expr) (s u : Carriers) (a : Agree word (prints_of.move d e).rd s u) where
    sources : Alike ds s u (reads_of ds e ++ subscript_reads ds d)
    sources = alike_left ds s u (reads_of ds e ++ subscript_reads ds d) (stores ds d) a

    pub targets : Alike ds s u (stores ds d)
    targets = alike_right ds s u (reads_of ds e ++ subscript_reads ds d) (stores ds d) a

    pub same_value : evaluate ds s e ≡ evaluate ds u e
    same_value = evaluate_agrees ds s u e (alike_left ds s u (reads_of ds e) (subscript_reads ds d) sources)

    pub same_fields : evaluate_accesses ds s d ≡ evaluate_accesses ds u d
    same_fields = accesses_agree ds s u d (alike_right ds s u (reads_of ds e) (subscript_reads ds d) sources)

    pub same_fault : (m p : ℕ) → transferred ds s d e ≡ faulty m p → transferred ds u d e ≡ faulty m p
    unfolding transferred
    same_fault m p h =
        rw (← same_value, ← same_fields)
        (then_faulty (evaluate ds s e) _ _ m p (λ v. then_faulty (evaluate_accesses ds s d) _ _ m p (λ fs q. cc)) h)

    pub same_stores :
        (t : Carriers) → length s ≡ length u → transferred ds s d e ≡ gives t
        → (v : Carriers) × (transferred ds u d e ≡ gives v) × Agree word (words_in ds (stores ds d)) t v
    unfolding transferred then
    same_stores t l h =
        let x : Moved d e s t = moved_by d e s t h in
        let vs : List ℕ = parts x.fields x.right_side in
        let c = stores_agree (words_in ds (stores ds d)) s u x.fields vs l (accesses_land ds s d x.fields x.located) targets in (
          store_all u x.fields vs,
          rw (← same_value, ← same_fields, x.evaluated, x.located) refl,
          subst (λ z. Agree word (words_in ds (stores ds d)) z (store_all u x.fields vs)) x.result c,
        )

  -- The frame facts of footprints by whole carriers.
  unfoldable pub frames : Frames ds prints_of
  frames =
      record {
        get = word;
        ext = λ s u l h. ext_get_or 0 s u l (λ i _. h i);
        move_length = λ d e s t h.
            let x : Moved d e s t = moved_by d e s t h in
            ap length (sym x.result) ∙ stores_length s x.fields (parts x.fields x.right_side);
        move_keeps = λ d e s t h i q.
            let x : Moved d e s t = moved_by d e s t h in
            ap (λ z. word z i) (sym x.result)
            ∙ stores_keep (words_in ds (stores ds d)) s x.fields (parts x.fields x.right_side) i (accesses_land ds s d x.fields x.located) q;
        move_faults = λ d e s u m p a h. same_fault d e s u a m p h;
        move_gives = λ d e s u t l a h. same_stores d e s u a t l h;
        test_agrees = λ e s u a. evaluate_agrees ds s u e a;
      }
