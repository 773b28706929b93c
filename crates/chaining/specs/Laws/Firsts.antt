-- Laws of the first activation of a level, and of the body that a refusal 51 names.
use Rattle.std.specs.Prelude.{ℕ, ◌+◌, ◌-◌, ◌<◌, ◌≤◌, ◌≡◌, refl, Bool, ◌&&◌, List, [], ◌∷◌, Some, None}
use Rattle.std.proofs.Math.Path.{sym, ap}
use Rattle.std.proofs.Common.{◌∙◌, arith, eq-eqb, ne_eqb, drop_of_length-le}
use Rattle.std.proofs.Math.Bool.{true, false, and-false}
use Rattle.std.proofs.Math.Option.{Option, none, some}
use Rattle.std.proofs.Math.Dec.{eqb}
use Rattle.std.proofs.Math.ListN.{length, drop, get_elem?}
use Rattle.rules.specs.Text.Tokens.{kind_no}
use Rattle.rules.specs.Text.Tokens.{Name}
use Rattle.rules.specs.Limits.{longest_chain}
use Rattle.rules.specs.Declarations.{Word, Declared, Table, declared_of, number_of}
use Rattle.rules.specs.Whole.Sets.{calls_in}
use Rattle.rules.specs.Faults.Whole.{begins_chain}
use Rattle.rules.specs.Reasons.{first_over, refused_body}
use Rattle.records.specs.Holds.{kind_byte, inside_cell}
use Rattle.records.specs.Words.{word_at}
use Rattle.reading.specs.Reading.{Reading, table_of}
use Rattle.reading.specs.Meanings.{declares}
use Rattle.reading.specs.Laws.Reading.{kinded}
use Rattle.reading.specs.Laws.Meanings.{table_size_lem, means_number, means_nothing}
use Rattle.reading.specs.Events.{heard}
use Rattle.reading.specs.Calls.{calls_of, NextCall}
use Rattle.reading.specs.Bodies.{act_at, Body}
use Rattle.reading.specs.Bits.{holds}
use Rattle.chains.specs.Chains.{in_level, Levelled}
use Rattle.chains.specs.Laws.Least.{next_declared, own_number, begins_level}
use Rattle.chaining.specs.Firsts.{first_in, start_by, start_of, Numbered}
use Rattle.chaining.specs.Laws.Calls.{heard_calls, missing_calls}

numbered_by : {m r : ℕ} {o p : Option ℕ} → p ≡ o → Numbered m r o → Numbered m r p
numbered_by e h = record { one = λ l. e ∙ h.one l; nothing = λ l. e ∙ h.nothing l }

none_numbered : {m r : ℕ} {o : Option ℕ} → m ≤ r → o ≡ none → Numbered m r o
none_numbered l e = record { one = λ h. absurd (omega arith); nothing = λ h. e }

-- a level chooses as its chains do
pub level_first : (ds : Table) (k : ℕ) (w : List ℕ) (all : Bool) (ns : List Word) → Levelled ds w all k → first_over ds k ns ≡ first_in ds (in_level ds w all) ns
unfolding first_over first_in
level_first ds k w all [] x = refl
level_first ds k w all (n ∷ ns) x =
    ap (λ (b : Bool). elim b [ true ↦ number_of ds n | false ↦ first_over ds k ns ]) (x.chains n)
    ∙ ap (λ (o : Option ℕ). elim (in_level ds w all n) [ true ↦ number_of ds n | false ↦ o ]) (level_first ds k w all ns x)

-- a walk along the activations of the action at `from`
pub record Choosing (records decls : List ℕ) (m n from : ℕ) (w : List ℕ) (all : Bool) (at depth mode : ℕ) : Type 0 where
  pub shallow : depth ≤ at
  pub counted : mode ≤ at + 1
  pub reading : Reading records decls m n
  pub left : (v : Reading records decls m n)
      → first_in (table_of v) (in_level (table_of v) w all) (calls_of (heard 0 0 (drop from v.tokens)))
      ≡ first_in (table_of v) (in_level (table_of v) w all) (calls_of (heard depth mode (drop at v.tokens)))

module _ {records decls : List ℕ} {m n from : ℕ} {w : List ℕ} {all : Bool} {at depth mode name next deep new_mode : ℕ}
    (inv : Choosing records decls m n from w all at depth mode) (c : NextCall records n at depth mode name next deep new_mode) where
  pub chosen_none : n ≤ name → (v : Reading records decls m n)
      → Numbered m m (first_in (table_of v) (in_level (table_of v) w all) (calls_of (heard 0 0 (drop from v.tokens))))
  unfolding first_in
  chosen_none h v =
      none_numbered (omega arith) (inv.left v ∙ ap (first_in (table_of v) (in_level (table_of v) w all)) (c.nothing h (kinded v)))

  module _ (h : name < n) where
    pub choice_name : kind_byte records name ≡ kind_no Name
    choice_name = (c.found h).is_name

    pub choices_fewer : n - next < n - at
    choices_fewer = let f = c.found h in omega (arith, f.low, f.high, f.within)

    module _ {r : Bool} (e : (v : Reading records decls m n) → r ≡ in_level (table_of v) w all (word_at v.tokens name)) where
      here : (v : Reading records decls m n) → first_in (table_of v) (in_level (table_of v) w all) (calls_of (heard 0 0 (drop from v.tokens)))
          ≡ elim r [
            | true ↦ number_of (table_of v) (word_at v.tokens name)
            | false ↦ first_in (table_of v) (in_level (table_of v) w all) (calls_of (heard deep new_mode (drop next v.tokens)))
          ]
      unfolding first_in
      here v =
          inv.left v ∙ (ap (first_in (table_of v) (in_level (table_of v) w all)) ((c.found h).calls (kinded v))
          ∙ ap (λ (b : Bool). elim b [
            | true ↦ number_of (table_of v) (word_at v.tokens name)
            | false ↦ first_in (table_of v) (in_level (table_of v) w all) (calls_of (heard deep new_mode (drop next v.tokens)))
          ]) (sym (e v)))

      pub chosen : r ≡ true → {q : ℕ} → q ≡ inside_cell records name → (v : Reading records decls m n)
          → Numbered m q (first_in (table_of v) (in_level (table_of v) w all) (calls_of (heard 0 0 (drop from v.tokens))))
      chosen t {q} i v = numbered_by (here v ∙ rw t refl) (record {
        one = λ l. means_number v name q h choice_name i l;
        nothing = λ l. means_nothing v name q h choice_name i l;
      })

      pub choose_on : r ≡ false → Choosing records decls m n from w all next deep new_mode
      choose_on t = record { shallow = (c.found h).shallow; counted = (c.found h).counted; reading = inv.reading; left = λ v. here v ∙ rw t refl }

-- the declaration k, without a body and with one at b
module _ {records decls : List ℕ} {m n k : ℕ} (w : List ℕ) (all : Bool) where
  pub first_bodiless : ((v : Reading records decls m n) → Body v k None)
      → (v : Reading records decls m n) → Numbered m m (first_in (table_of v) (in_level (table_of v) w all) (calls_in (act_at (table_of v) k)))
  unfolding first_in
  first_bodiless is v = none_numbered (omega arith) (ap (first_in (table_of v) (in_level (table_of v) w all)) (missing_calls (is v)))

  pub first_body : {b r : ℕ} → ((v : Reading records decls m n) → Body v k (Some b))
      → ((v : Reading records decls m n) → Numbered m r (first_in (table_of v) (in_level (table_of v) w all) (calls_of (heard 0 0 (drop b v.tokens)))))
      → (v : Reading records decls m n) → Numbered m r (first_in (table_of v) (in_level (table_of v) w all) (calls_in (act_at (table_of v) k)))
  first_body is h v = numbered_by (ap (first_in (table_of v) (in_level (table_of v) w all)) (sym (heard_calls (is v)))) (h v)

-- the search for the refused body, when the declarations before k are passed
pub record Seeking (records decls : List ℕ) (m n place k : ℕ) : Type 0 where
  pub within : k ≤ m
  pub reading : Reading records decls m n
  pub left : (v : Reading records decls m n) → refused_body (table_of v) place (table_of v) ≡ refused_body (table_of v) place (drop k (table_of v))

pub seek_first : {records decls : List ℕ} {m n place : ℕ} → Reading records decls m n → Seeking records decls m n place 0
seek_first v = record { within = omega arith; reading = v; left = λ v. refl }

module _ {records decls : List ℕ} {m n place k : ℕ} (inv : Seeking records decls m n place k) where
  pub sought_all : m ≤ k → (v : Reading records decls m n) → Numbered m m (start_of (table_of v) place)
  unfolding refused_body
  sought_all h v =
      let past : length (table_of v) ≤ k = omega (arith, table_size_lem v) in
      none_numbered (omega arith)
      (ap (start_by (table_of v)) (inv.left v ∙ ap (refused_body (table_of v) place) (drop_of_length-le (table_of v) past)))

  module _ (w : List ℕ) (top : (v : Reading records decls m n) → Levelled (table_of v) w false longest_chain) (h : k < m) {q : ℕ}
      (at : (v : Reading records decls m n) (d : Declared) → get_elem? (table_of v) k ≡ some d → q ≡ d.name.place) where
    -- the declaration k, and the test of it
    test : (v : Reading records decls m n) {b : Bool} → b ≡ (eqb q place && holds w k)
        → refused_body (table_of v) place (table_of v)
        ≡ elim b [ true ↦ some (declared_of (declares v k h).declaration).name.word | false ↦ refused_body (table_of v) place (drop (k + 1) (table_of v)) ]
    unfolding refused_body
    test v {b} e =
        let d = declared_of (declares v k h).declaration in
        let f = (declares v k h).found in
        let rest = drop (k + 1) (table_of v) in
        let same : (eqb d.name.place place && begins_chain (table_of v) d.name.word d.body) ≡ b =
        ap (λ (x : ℕ). eqb x place && begins_chain (table_of v) d.name.word d.body) (sym (at v d f))
        ∙ (ap (λ (x : Bool). eqb q place && x) (sym (begins_level v w (top v) k d f)) ∙ sym e) in
        inv.left v ∙ (ap (refused_body (table_of v) place) (next_declared v k h)
        ∙ ap (λ (x : Bool). elim x [ true ↦ some d.name.word | false ↦ refused_body (table_of v) place rest ]) same)

    on : ((v : Reading records decls m n) → false ≡ (eqb q place && holds w k)) → Seeking records decls m n place (k + 1)
    on e = record { within = omega arith; reading = inv.reading; left = λ v. test v (e v) }

    pub seek_elsewhere : (q ≡ place → ⊥) → Seeking records decls m n place (k + 1)
    seek_elsewhere ne = on (λ v. sym (ap (λ (x : Bool). x && holds w k) (ne_eqb q place ne)))

    module _ (is : q ≡ place) {b : Bool} (has : b ≡ holds w k) where
      pub seek_short : b ≡ false → Seeking records decls m n place (k + 1)
      seek_short f = on (λ v. sym (ap (λ (x : Bool). eqb q place && x) (sym has ∙ f) ∙ and-false (eqb q place)))

      pub sought : b ≡ true → (v : Reading records decls m n) → Numbered m k (start_of (table_of v) place)
      sought t v =
          let d = declared_of (declares v k h).declaration in
          let e : true ≡ (eqb q place && holds w k) = sym (ap (λ (x : Bool). x && holds w k) (eq-eqb q place is) ∙ (sym has ∙ t)) in
          record {
            one = λ l. ap (start_by (table_of v)) (test v e) ∙ own_number v k d (declares v k h).found;
            nothing = λ l. absurd (omega arith);
          }
