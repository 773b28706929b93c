-- Laws of chains by levels: what a pass over the bodies makes of a level.
use Rattle.std.specs.Prelude.{ℕ, zero, suc, ◌+◌, ◌-◌, ◌<◌, ◌≤◌, ◌≡◌, refl, Bool, true, false, ◌||◌, ◌&&◌, List, [], ◌∷◌, eqb, ltb, length, drop, Some, None}
use Rattle.std.proofs.Math.Path.{sym, ap}
use Rattle.std.proofs.Common.{ap₂, ◌∙◌, zero-add, suc-add, arith, eq-eqb, ne_eqb, lt-ltb, le-ltb}
use Rattle.std.proofs.Math.Bool.{or-false, and-true, and-false}
use Rattle.std.proofs.Math.Option.{Option, none, some}
use Rattle.std.proofs.Math.Decide.{dec_lt}
use Rattle.rules.specs.Text.Tokens.{Name, kind_no}
use Rattle.rules.specs.Declarations.{Word, Table, number_of, body_number, body_of}
use Rattle.rules.specs.Steps.Runs.{body_act, act_or}
use Rattle.rules.specs.Whole.Sets.{calls_in, any_name, chain_over}
use Rattle.records.specs.Holds.{kind_byte, inside_cell}
use Rattle.records.specs.Words.{word_at}
use Rattle.reading.specs.Reading.{Reading, table_of}
use Rattle.reading.specs.Laws.Reading.{kinded}
use Rattle.reading.specs.Laws.Names.{number_bound}
use Rattle.reading.specs.Laws.Meanings.{means_number, means_nothing}
use Rattle.reading.specs.Events.{heard}
use Rattle.reading.specs.Calls.{calls_of, NextCall}
use Rattle.reading.specs.Bodies.{act_at, Body}
use Rattle.reading.specs.Laws.Bodies.{body_calls, bodiless_calls}
use Rattle.reading.specs.Bits.{holds}
use Rattle.chains.specs.Chains.{in_level, activates_one, Levelled, number_in}

pub in_all : {records decls : List ℕ} {m n : ℕ} (i : ℕ) (w : List ℕ) {all : Bool} → all ≡ true → (v : Reading records decls m n) → true ≡ in_level
    (table_of v) w all (word_at v.tokens i)
unfolding in_level
in_all i w a v = sym (rw a)

module _ {records decls : List ℕ} {m n i k : ℕ} (w : List ℕ) {all : Bool} (a : all ≡ false) (h : i < n) (e : kind_byte records i ≡ kind_no Name) (q : k ≡ inside_cell records i) where
  pub in_none : m ≤ k → (v : Reading records decls m n) → false ≡ in_level (table_of v) w all (word_at v.tokens i)
  unfolding in_level
  in_none l v = sym (rw (a, means_nothing v i k h e q l))

  pub in_some : {r : Bool} → k < m → r ≡ holds w k → (v : Reading records decls m n) → r ≡ in_level (table_of v) w all (word_at v.tokens i)
  unfolding in_level
  in_some l f v = f ∙ sym (rw (a, means_number v i k h e q l))

-- a walk along the activations of the action at `from`
pub record Asking (records decls : List ℕ) (m n from : ℕ) (w : List ℕ) (all : Bool) (at depth mode : ℕ) : Type 0 where
  pub shallow : depth ≤ at
  pub counted : mode ≤ at + 1
  pub reading : Reading records decls m n
  pub left : (v : Reading records decls m n)
      → any_name (in_level (table_of v) w all) (calls_of (heard 0 0 (drop from v.tokens))) ≡ any_name (in_level (table_of v) w all)
      (calls_of (heard depth mode (drop at v.tokens)))

module _ {records decls : List ℕ} {m n from : ℕ} {w : List ℕ} {all : Bool} {at depth mode name next deep new_mode : ℕ}
    (inv : Asking records decls m n from w all at depth mode) (c : NextCall records n at depth mode name next deep new_mode) where
  pub asked_all : n ≤ name → (v : Reading records decls m n) → false ≡ any_name (in_level (table_of v) w all) (calls_of (heard 0 0 (drop from v.tokens)))
  unfolding any_name
  asked_all h v = sym (inv.left v ∙ ap (any_name (in_level (table_of v) w all)) (c.nothing h (kinded v)))

  module _ (h : name < n) where
    pub called_name : kind_byte records name ≡ kind_no Name
    called_name = (c.found h).is_name

    pub fewer_left : n - next < n - at
    fewer_left = let f = c.found h in omega (arith, f.low, f.high, f.within)

    module _ {r : Bool} (e : (v : Reading records decls m n) → r ≡ in_level (table_of v) w all (word_at v.tokens name)) where
      step : (v : Reading records decls m n) → any_name (in_level (table_of v) w all) (calls_of (heard 0 0 (drop from v.tokens)))
          ≡ (r || any_name (in_level (table_of v) w all) (calls_of (heard deep new_mode (drop next v.tokens))))
      unfolding any_name
      step v =
          inv.left v ∙ (ap (any_name (in_level (table_of v) w all)) ((c.found h).calls (kinded v))
          ∙ ap (λ (b : Bool). b || any_name (in_level (table_of v) w all) (calls_of (heard deep new_mode (drop next v.tokens)))) (sym (e v)))

      pub asked_one : r ≡ true → (v : Reading records decls m n) → true ≡ any_name (in_level (table_of v) w all) (calls_of (heard 0 0 (drop from v.tokens)))
      asked_one t v = sym (step v ∙ rw t)

      pub ask_on : r ≡ false → Asking records decls m n from w all next deep new_mode
      ask_on t = record { shallow = (c.found h).shallow; counted = (c.found h).counted; reading = inv.reading; left = λ v. step v ∙ rw t }

-- the declaration k, without a body and with one at b
module _ {records decls : List ℕ} {m n k : ℕ} (w : List ℕ) (all : Bool) where
  pub no_body : ((v : Reading records decls m n) → Body v k None) → (v : Reading records decls m n) → false ≡ activates_one (table_of v) (in_level (table_of v) w all) k
  unfolding activates_one
  no_body is v = sym (bodiless_calls (is v) (in_level (table_of v) w all))

  pub its_body : {b : ℕ} {r : Bool} → ((v : Reading records decls m n) → Body v k (Some b))
      → ((v : Reading records decls m n) → r ≡ any_name (in_level (table_of v) w all) (calls_of (heard 0 0 (drop b v.tokens))))
      → (v : Reading records decls m n) → r ≡ activates_one (table_of v) (in_level (table_of v) w all) k
  unfolding activates_one
  its_body is h v = h v ∙ body_calls (is v) (in_level (table_of v) w all)

-- a set with one more number, or not
module _ (k : ℕ) {more : Bool} (s : List ℕ) where
  pub grown_more : (o r : List ℕ) → more ≡ true → ((j : ℕ) → holds o j ≡ eqb j k) → ((j : ℕ) → holds r j ≡ (holds o j || holds s j))
      → (j : ℕ) → holds r j ≡ ((eqb j k && more) || holds s j)
  grown_more o r t e h j = h j ∙ (ap (λ (b : Bool). b || holds s j) (e j ∙ sym (and-true (eqb j k))) ∙ ap (λ (b : Bool). (eqb j k && b) || holds s j) (sym t))

  pub grown_same : more ≡ false → (j : ℕ) → holds s j ≡ ((eqb j k && more) || holds s j)
  grown_same f j = ap (λ (b : Bool). b || holds s j) (sym (and-false (eqb j k))) ∙ ap (λ (b : Bool). (eqb j k && b) || holds s j) (sym f)

-- the level of the declarations before k
pub record Rising (records decls : List ℕ) (m n : ℕ) (w : List ℕ) (all : Bool) (set : List ℕ) (k : ℕ) : Type 0 where
  pub within : k ≤ m
  pub reading : Reading records decls m n
  pub so_far : (v : Reading records decls m n) (j : ℕ) → holds set j ≡ (ltb j k && activates_one (table_of v) (in_level (table_of v) w all) j)

pub none_rising : {records decls : List ℕ} {m n : ℕ} (w : List ℕ) (all : Bool) (set : List ℕ) → Reading records decls m n → ((k : ℕ) → holds set k ≡ false)
    → Rising records decls m n w all set 0
none_rising w all set x h = record {
  within = omega arith;
  reading = x;
  so_far = λ v j. h j ∙ sym (ap (λ (b : Bool). b && activates_one (table_of v) (in_level (table_of v) w all) j) (le-ltb j 0 (omega arith)));
}

module _ {records decls : List ℕ} {m n : ℕ} {w : List ℕ} {all : Bool} {set : List ℕ} {k : ℕ} (inv : Rising records decls m n w all set k) where
  pub risen : m ≤ k → (v : Reading records decls m n) (j : ℕ) → holds set j ≡ (ltb j m && activates_one (table_of v) (in_level (table_of v) w all) j)
  risen h v j = let e : k ≡ m = omega (arith, inv.within) in inv.so_far v j ∙ ap
      (λ (x : ℕ). ltb j x && activates_one (table_of v) (in_level (table_of v) w all) j) e

  pub rise : {r : Bool} (t : List ℕ) → k < m → ((v : Reading records decls m n) → r ≡ activates_one (table_of v) (in_level (table_of v) w all) k)
      → ((j : ℕ) → holds t j ≡ ((eqb j k && r) || holds set j)) → Rising records decls m n w all t (k + 1)
  rise {r} t l e h = record {
    within = omega arith;
    reading = inv.reading;
    so_far = λ v j. h j ∙ (ap (λ (b : Bool). (eqb j k && r) || b) (inv.so_far v j) ∙ by v j (dec_lt j k) (dec_lt k j));
  }
    where
      by : (v : Reading records decls m n) (j : ℕ) → Dec (j < k) → Dec (k < j)
          → ((eqb j k && r) || (ltb j k && activates_one (table_of v) (in_level (table_of v) w all) j))
          ≡ (ltb j (k + 1) && activates_one (table_of v) (in_level (table_of v) w all) j)
      by v j (yes p) _ = rw (ne_eqb j k (λ q. omega arith), lt-ltb j k p, lt-ltb j (k + 1) (omega arith))
      by v j (no p) (yes q) = rw (ne_eqb j k (λ z. omega arith), le-ltb j k (omega arith), le-ltb j (k + 1) (omega arith))
      by v j (no p) (no q) =
          let z : j ≡ k = omega arith in
          rw (z, eq-eqb k k refl, le-ltb k k (omega arith), lt-ltb k (k + 1) (omega arith)) (or-false r ∙ e v)

any_same : (p q : Word → Bool) (ns : List Word) → ((n : Word) → p n ≡ q n) → any_name p ns ≡ any_name q ns
unfolding any_name
any_same p q [] h = refl
any_same p q (n ∷ ns) h = ap₂ ◌||◌ (h n) (any_same p q ns h)

pub level_all : (ds : Table) (w : List ℕ) → Levelled ds w true 0
unfolding chain_over in_level
level_all ds w = record { chains = λ n. refl }

pub level_more : (ds : Table) (m k : ℕ) (w r : List ℕ) (all : Bool) → length ds ≡ m → Levelled ds w all k
    → ((j : ℕ) → holds r j ≡ (ltb j m && activates_one ds (in_level ds w all) j)) → Levelled ds r false (suc k)
unfolding chain_over body_act body_of body_number in_level activates_one calls_in any_name
level_more ds m k w r all size x h = record { chains = λ n. by (number_of ds n) (λ j e. omega (arith, number_bound ds j n e)) }
  where
    by : (q : Option ℕ) → ((j : ℕ) → q ≡ some j → j < m) → any_name (chain_over ds k) (calls_in (act_or (body_number ds q))) ≡ number_in r q
    by none small = refl
    by (some j) small =
        any_same (chain_over ds k) (in_level ds w all) (calls_in (act_at ds j)) x.chains
        ∙ sym (h j ∙ ap (λ (b : Bool). b && activates_one ds (in_level ds w all) j) (lt-ltb j m (small j refl)))

-- where no chain is over k bodies long, none is over more
none_any : (p : Word → Bool) (ns : List Word) → ((n : Word) → p n ≡ false) → any_name p ns ≡ false
unfolding any_name
none_any p [] h = refl
none_any p (n ∷ ns) h = ap₂ ◌||◌ (h n) (none_any p ns h)

vanished : (ds : Table) (k i : ℕ) → ((n : Word) → chain_over ds k n ≡ false) → (n : Word) → chain_over ds (i + k) n ≡ false
unfolding chain_over
vanished ds k zero h n = ap (λ (x : ℕ). chain_over ds x n) (zero-add k) ∙ h n
vanished ds k (suc i) h n = ap (λ (x : ℕ). chain_over ds x n) (suc-add i k) ∙ none_any (chain_over ds (i + k)) (calls_in (body_act ds n)) (vanished ds k i h)

pub level_none : (ds : Table) (k l : ℕ) (w : List ℕ) → k ≤ l → Levelled ds w false k → ((j : ℕ) → holds w j ≡ false) → Levelled ds w false l
unfolding in_level
level_none ds k l w h x e = record {
  chains = λ n.
      ap (λ (y : ℕ). chain_over ds y n) (let q : l ≡ (l - k) + k = omega arith in q)
      ∙ (vanished ds k (l - k) (λ z. x.chains z ∙ by (number_of ds z)) n ∙ sym (by (number_of ds n)));
}
  where
    by : (q : Option ℕ) → number_in w q ≡ false
    by none = refl
    by (some j) = e j
