-- The code of a table holds the bodies that stand at given tokens.
use Rattle.std.specs.Prelude.{ℕ, zero, suc, ◌≡◌}
use Rattle.std.proofs.Math.Path.{refl}
use Rattle.std.proofs.Common.{subst, arith}
use mathlib.Core.List.{[], ◌∷◌}
use Rattle.std.proofs.Math.Option.{Option, none, some}
use Rattle.std.proofs.Math.ListN.{get_elem?}
use Rattle.rules.specs.Grammar.Trees.{Action}
use Rattle.rules.specs.Declarations.{Word, Declared, Table, number_of, body_number, body_of}
use Rattle.rules.specs.Steps.Runs.{act_or, body_act}
use Rattle.rules.specs.Faults.Bodies.{labels, label_faults, action_faults, declared_names, body_faults, faults40}
use Rattle.laws_orders.proofs.Orders.Tests.{impossible}
use Rattle.laws_orders.specs.Cited.Flat.{exit, Instr, go_i, Code, outer, bind, Holds, HoldsBodies}
use Rattle.laws_accepted.proofs.Accepted.Faultless.{both_empty, each_empty}
use Rattle.laws_accepted.proofs.Accepted.Named.{Found, found}
use Rattle.laws_code.specs.Cited.Code.{first_of}
use Rattle.laws_code.proofs.Links.Numbers.{Ascends, Has, has_left, has_right, fetched, fetched_past}
use Rattle.laws_code.proofs.Links.Held.{action_held}
use Rattle.laws_code.specs.Cited.Bodies.{table_code, body_code, code_of, first_in, first_at, first_number}

table_has : (f : ℕ → Instr) (ds : Table) (starts : ℕ → ℕ) (i : ℕ) (d : Declared) → get_elem? ds i ≡ some d → Has f (table_code starts ds)
    → Has f (body_code d.name.word (starts i) d.body)
unfolding table_code
table_has f [] starts i d e h = impossible (cc)
table_has f (x ∷ ds) starts zero d e h =
    let q : x ≡ d = cc in
    subst (λ (y : Declared). Has f (body_code y.name.word (starts 0) y.body)) q
    (has_left f (body_code x.name.word (starts 0) x.body) (table_code (λ i. starts (suc i)) ds) h)
table_has f (x ∷ ds) starts (suc i) d e h =
    table_has f ds (λ i. starts (suc i)) i d e (has_right f (body_code x.name.word (starts 0) x.body) (table_code (λ i. starts (suc i)) ds) h)

module _ (out : Word) (ds : Table) (starts : ℕ → ℕ) (nowhere : ℕ) (of40 : faults40 out ds ds ≡ []) (up : Ascends 0 nowhere (table_code starts ds)) where
  abbrev C : Code
  C = code_of ds starts nowhere

  body_held :
      (n : Word) (i : ℕ) (d : Declared) (a : Action) → get_elem? ds i ≡ some d → d.name.word ≡ n → d.body ≡ some a
      → Holds C (bind n (first_of (starts i) a) exit outer) (first_of (starts i) a) exit (act_or (some a))
  unfolding faults40
  body_held n i d a there named its =
      let e = each_empty (λ d. body_faults out ds d.name.word d.body) (faults40 out ds) (λ d ds. refl) ds i d of40 there in
      let q : body_faults out ds n (some a) ≡ [] = rw (its, named) at e in
      let f = both_empty (action_faults out ds (n ∷ []) a) (label_faults (declared_names out ds ds) (labels a [])) q in
      let h : Has C.instr (body_code n (starts i) (some a)) = rw (its, named) at (table_has C.instr ds starts i d there (fetched up)) in
      action_held C out ds a (bind n (first_of (starts i) a) exit outer) (starts i) exit f.0 h

  -- ASSEMBLED: the code holds every body
  pub assembled : HoldsBodies (code_of ds starts nowhere) (body_act ds)
  unfolding body_act body_of body_number
  assembled n = number (number_of ds n) refl
    where
      absent : C.instr nowhere ≡ go_i exit
      absent = fetched_past nowhere up (omega arith)

      body : (i : ℕ) (d : Declared) (o : Option Action) → get_elem? ds i ≡ some d → d.name.word ≡ n → d.body ≡ o
          → Holds C (bind n (first_in ds starts nowhere (starts i) o) exit outer) (first_in ds starts nowhere (starts i) o) exit (act_or o)
      body i d none there named its = absent
      body i d (some a) there named its = body_held n i d a there named its

      declared : (i : ℕ) (o : Option Declared) → get_elem? ds i ≡ o → Found ds n i
          → Holds C (bind n (first_at ds starts nowhere (starts i) o) exit outer) (first_at ds starts nowhere (starts i) o) exit
          (act_or (elim o [ none ↦ none | some d ↦ d.body ]))
      declared i none there f = absent
      declared i (some d) there f =
          let q : f.declared ≡ d = cc f.there in
          body i d d.body there (rw (← q) f.named) refl

      number : (o : Option ℕ) → number_of ds n ≡ o
          → Holds C (bind n (first_number ds starts nowhere o) exit outer) (first_number ds starts nowhere o) exit (act_or (body_number ds o))
      number none e = absent
      number (some i) e = declared i (get_elem? ds i) refl (found ds n i e)
