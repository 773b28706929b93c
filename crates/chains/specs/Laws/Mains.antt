-- Laws of the faults of 50: what a turn keeps while the declarations are read.
use Rattle.std.specs.Prelude.{ℕ, ◌+◌, ◌<◌, ◌≤◌, min, ◌≡◌, Bool, true, false, not, ◌||◌, List, ◌∷◌, ◌++◌, drop, Option as Found, Some, None, is_some}
use Rattle.std.proofs.Math.Path.{sym}
use Rattle.std.proofs.Common.{ap, ap₂, ◌∙◌, subst, arith, drop_of_length-le}
use Rattle.std.proofs.Math.Bool.{or-false, or-true}
use Rattle.std.proofs.Math.Option.{Option, none, some}
use Rattle.std.proofs.Math.ListN.{length}
use Rattle.cells.specs.Cells.{cell}
use Rattle.rules.specs.Text.Tokens.{Info, Token}
use Rattle.rules.specs.Declarations.{Declared, Table, declared_of}
use Rattle.rules.specs.Faults.Fault.{fault, when}
use Rattle.rules.specs.Faults.Whole.{mains}
use Rattle.records.specs.Holds.{place_cell}
use Rattle.table.specs.Views.{View, MainAt}
use Rattle.table.specs.Laws.Views.{no_main}
use Rattle.keys.specs.Keys.{no_key, number_key, least_number_key}
use Rattle.keys.specs.Laws.Keys.{least_append, least_bounded, least_none}
use Rattle.reading.specs.Reading.{Reading, table_of}
use Rattle.reading.specs.Meanings.{declares}
use Rattle.reading.specs.Laws.Meanings.{view, table_size_lem}
use Rattle.chains.specs.Laws.Least.{when_key, next_declared, name_there}
use Rattle.chains.specs.Mains.{Mainly, second_main}

pub main_there : {records decls : List ℕ} {m n k p : ℕ} (r : Found ℕ) → Reading records decls m n → k < m → p ≡ cell 2 decls k
    → ((values : List ℕ) (w : View records values p) → MainAt w.tokens r (declared_of w.declaration).mainly) → Mainly records decls m n k r
main_there {records} {decls} {m} {n} {k} {p} r x l at f = record {
  within = λ q e. by q (declared_of (declares x k l).declaration).mainly (subst (λ (y : Found ℕ). MainAt x.tokens y (declared_of (declares x k l).declaration).mainly) e (there x l));
  is = there;
}
  where
    there : (v : Reading records decls m n) (h : k < m) → MainAt v.tokens r (declared_of (declares v k h).declaration).mainly
    there v h = subst (λ (p : ℕ). (values : List ℕ) (w : View records values p) → MainAt w.tokens r (declared_of w.declaration).mainly) at f v.values
        (view v k h)

    by : (q : ℕ) (o : Option Info) → MainAt x.tokens (Some q) o → q < n
    by q none z = absurd z
    by q (some i) z = omega (arith, z.1.0, x.count)

module _ {records decls : List ℕ} {m n : ℕ} (seen : Bool) (at : Found ℕ) where
  pub second_none : at ≡ None → (v : Reading records decls m n) (x : Option Info) → MainAt v.tokens at x → no_key ≡ least_number_key (second_main seen x)
  second_none z v x h = rw (no_main v.tokens at x h (ap is_some z)) (sym (least_none number_key))

  pub second_first : seen ≡ false → (v : Reading records decls m n) (x : Option Info) → MainAt v.tokens at x → no_key ≡ least_number_key (second_main seen x)
  second_first e v none h = sym (least_none number_key)
  second_first e v (some i) h = sym (ap (λ (b : Bool). least_number_key (when b 50 i.place)) e ∙ least_none number_key)

  module _ {q p : ℕ} (there : at ≡ Some q) (within : q < n) (is : p ≡ place_cell records q) where
    pub second_small : Reading records decls m n → p ≤ 32768
    second_small v = let y = v.ready.holds.entry q (omega (arith, v.count)) in omega (arith, y.place, y.inside, v.ready.holds.short)

    pub second_again : {key : ℕ} → seen ≡ true → key ≡ number_key (fault 50 p) → (v : Reading records decls m n) (x : Option Info) → MainAt v.tokens at x
        → key ≡ least_number_key (second_main seen x)
    second_again {key} e f v x h = by x (subst (λ (y : Found ℕ). MainAt v.tokens y x) there h)
      where
        by : (o : Option Info) → MainAt v.tokens (Some q) o → key ≡ least_number_key (second_main seen o)
        by none z = absurd z
        by (some i) z =
            f ∙ (sym (when_key true 50 p (omega arith) (second_small v))
            ∙ ap₂ (λ (b : Bool) (y : ℕ). least_number_key (when b 50 y)) (sym e)
            (is ∙ ((v.ready.holds.entry q (omega (arith, v.count))).place ∙ ap (λ (t : Token). t.info.place) z.1.1)))

-- whether MAIN is seen at last
pub main_present : {seen : Bool} → seen ≡ true → no_key ≡ least_number_key (when (not seen) 50 0)
main_present e = sym (rw e (least_none number_key))

pub main_missing : {seen : Bool} {key : ℕ} → seen ≡ false → key ≡ number_key (fault 50 0) → key ≡ least_number_key (when (not seen) 50 0)
main_missing e f = f ∙ sym (rw e (when_key true 50 0 (omega arith) (omega arith)))

-- the declarations before k are read
pub record Seeing (records decls : List ℕ) (m n key : ℕ) (seen : Bool) (k : ℕ) : Type 0 where
  pub within : k ≤ m
  pub small : key ≤ no_key
  pub reading : Reading records decls m n
  pub so_far : (v : Reading records decls m n) → min key (least_number_key (mains seen (drop k (table_of v)))) ≡ least_number_key (mains false (table_of v))

pub none_seen : {records decls : List ℕ} {m n : ℕ} → Reading records decls m n → Seeing records decls m n no_key false 0
none_seen x = record { within = omega arith; small = omega arith; reading = x; so_far = λ v. omega (arith, least_bounded number_key (mains false (table_of v))) }

one_more : (seen : Bool) (at : Found ℕ) (d : Declared) (ds : Table) (ts : List Token) → MainAt ts at d.mainly
    → least_number_key (mains seen (d ∷ ds)) ≡ min (least_number_key (second_main seen d.mainly)) (least_number_key (mains (seen || is_some at) ds))
unfolding mains
one_more seen at d ds ts h = by at d.mainly h
  where
    by : (at : Found ℕ) (x : Option Info) → MainAt ts at x → least_number_key (elim x [ none ↦ mains seen ds | some i ↦ when seen 50 i.place ++ mains true ds ])
        ≡ min (least_number_key (second_main seen x)) (least_number_key (mains (seen || is_some at) ds))
    by None none z =
        let e : least_number_key (mains (seen || false) ds) ≡ least_number_key (mains seen ds) = ap (λ (b : Bool). least_number_key (mains b ds)) (or-false seen) in
        omega (arith, least_none number_key, least_bounded number_key (mains seen ds))
    by (Some p) none z = absurd z
    by None (some i) z = absurd z
    by (Some p) (some i) z =
        least_append number_key (when seen 50 i.place) (mains true ds)
        ∙ ap (λ (b : Bool). min (least_number_key (when seen 50 i.place)) (least_number_key (mains b ds))) (sym (or-true seen))

module _ {records decls : List ℕ} {m n key : ℕ} {seen : Bool} {k : ℕ} (inv : Seeing records decls m n key seen k) where
  pub see_more : (at : Found ℕ) {r next : ℕ} {s : Bool} → k < m → Mainly records decls m n k at
      → ((v : Reading records decls m n) (x : Option Info) → MainAt v.tokens at x → r ≡ least_number_key (second_main seen x))
      → next ≡ min key r → s ≡ (seen || is_some at) → Seeing records decls m n next s (k + 1)
  see_more at {r} {next} {s} h x f q e = record {
    within = omega arith;
    small = omega (arith, inv.small);
    reading = inv.reading;
    so_far = λ v.
        let d = declared_of (declares v k h).declaration in
        let rest = drop (k + 1) (table_of v) in
        let z = x.is v h in
        let l : least_number_key (mains seen (drop k (table_of v))) ≡ min r (least_number_key (mains s rest)) =
        ap (λ (l : Table). least_number_key (mains seen l)) (next_declared v k h) ∙ (one_more seen at d rest v.tokens z
        ∙ ap₂ (λ (y : ℕ) (b : Bool). min y (least_number_key (mains b rest))) (sym (f v d.mainly z)) (sym e)) in
        omega (arith, inv.so_far v);
  }

  pub all_seen : {r last : ℕ} → m ≤ k → last ≡ least_number_key (when (not seen) 50 0) → r ≡ min key last → (v : Reading records decls m n) → r ≡ least_number_key
      (mains false (table_of v))
  unfolding mains
  all_seen h e q v =
      let past : length (table_of v) ≤ k = omega (arith, table_size_lem v) in
      q ∙ (ap (min key) (e ∙ sym (ap (λ (l : Table). least_number_key (mains seen l)) (drop_of_length-le (table_of v) past))) ∙ inv.so_far v)
