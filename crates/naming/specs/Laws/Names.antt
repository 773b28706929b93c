-- Laws of what the lent names mean.
-- Assumes nothing.
use Rattle.std.specs.Prelude.{ℕ, zero, suc, ◌+◌, ◌*◌, ◌<◌, ◌≤◌, ◌≡◌, refl, Bool, List, [], ◌∷◌, drop, Option as Found, Some, None}
use Rattle.std.proofs.Math.Path.{sym, ap}
use Rattle.std.proofs.Common.{◌∙◌, arith, add-one, drop_of_length-le}
use Rattle.std.proofs.Math.Bool.{true, false}
use Rattle.std.proofs.Math.Option.{Option, none, some, none-ne-some}
use Rattle.std.proofs.Math.ListN.{length, get_elem?}
use Rattle.cells.specs.Cells.{cell}
use Rattle.rules.specs.Text.Tokens.{Token}
use Rattle.rules.specs.Text.Scan.{same_bytes}
use Rattle.rules.specs.Declarations.{Word, BitNames, one_unnamed, these, Target, Declared, declared_of, Table, number_from, number_of, body_number, body_of}
use Rattle.rules.specs.Paths.{folded, storage_of, storage_at, if_declared, if_storage}
use Rattle.records.specs.Holds.{size_byte, place_cell, folded_at}
use Rattle.records.specs.Words.{NameAt, word_at}
use Rattle.records.specs.Laws.Words.{word_folded, word_inside}
use Rattle.table.specs.Views.{View, TargetAt}
use Rattle.table.specs.Laws.Views.{no_target, target_here}
use Rattle.table.specs.Shown.{shown_bits}
use Rattle.table.specs.declared.views.Names.{Names}
use Rattle.table.specs.declared.views.Names.TheVariants.{Missing, Unnamed, Span}
use Rattle.reading.specs.Meanings.{declares}
use Rattle.reading.specs.Laws.Meanings.{table_size_lem}
use Rattle.reading.specs.Laws.Names.{number_bound}
use Rattle.reading.specs.Bodies.{Body}
use Rattle.chains.specs.Laws.Least.{name_there}
use Rattle.whole.specs.Written.{Written, whole}
use Rattle.whole.specs.Laws.Written.{reading}
use Rattle.naming.specs.Names.{found, has_storage, is_storage_of, Test, Output}

-- a list from its k-th on
pub split_at : (ds : Table) (k : ℕ) (d : Declared) → get_elem? ds k ≡ some d → drop k ds ≡ d ∷ drop (suc k) ds
split_at [] k d e = absurd (none-ne-some d e)
split_at (x ∷ ds) zero d e = let q : x ≡ d = cc in rw q
split_at (x ∷ ds) (suc k) d e = split_at ds k d e

module _ {text records decls : List ℕ} {m n : ℕ} (v : Written text records decls m n) where
  pub cell_within : (k : ℕ) → k < m → 2 * k + 2 ≤ length decls
  cell_within k l = omega (arith, v.ready.declared.room, v.ready.count)

  -- the name of the declaration k, which is the token p
  module _ {k p : ℕ} (l : k < m) (e : p ≡ cell 2 decls k) where
    pub declared_name : NameAt v.tokens p
    declared_name = let t = name_there l e (reading v) in record { within = t.0; kind = ap (λ (x : Token). x.kind) t.1 }

    pub record_room : 8 * p + 8 ≤ length records
    record_room = omega (arith, declared_name.within, v.ready.holds.record_room)

    pub word_room : {q s : ℕ} → q ≡ place_cell records p → s ≡ size_byte records p → q + s ≤ length text
    word_room f g = omega (arith, word_inside v.ready.holds declared_name)

    spelled : word_at v.tokens p ≡ (declared_of (declares (reading v) k l).declaration).name.word
    spelled = ap (λ (x : Token). x.info.word) (name_there l e (reading v)).1

  -- the number of the first that has the word, when the first k have not
  abbrev number_past : Word → ℕ → Option ℕ
  number_past w k = number_from k w (drop k (whole v))

  number_step : (w : Word) {k p : ℕ} (l : k < m) (e : p ≡ cell 2 decls k) (r : Bool) → r ≡ same_bytes (word_at v.tokens p) w
      → number_past w k ≡ elim r [ true ↦ some k | false ↦ number_past w (suc k) ]
  unfolding number_from
  number_step w {k} {p} l e r same =
      let d = declares (reading v) k l in
      let is : same_bytes (declared_of d.declaration).name.word w ≡ r = sym (ap (λ (x : Word). same_bytes x w) (spelled l e)) ∙ sym same in
      rw (split_at (whole v) k (declared_of d.declaration) d.found, number_from, is)

  number_end : (w : Word) (k : ℕ) → m ≤ k → number_past w k ≡ none
  unfolding number_from
  number_end w k l = let past : length (whole v) ≤ k = omega (arith, table_size_lem (reading v)) in rw (drop_of_length-le (whole v) past, number_from)

-- none of the first k declarations has the name
pub record Seeking (text records decls name : List ℕ) (m n k : ℕ) : Type 0 where
  pub within : k ≤ m
  pub left : (v : Written text records decls m n) → number_past v (folded name) k ≡ number_of (whole v) (folded name)

pub none_sought : (text records decls name : List ℕ) (m n : ℕ) → Seeking text records decls name m n 0
unfolding number_of
none_sought text records decls name m n = record { within = omega arith; left = λ v. refl }

module _ {text records decls name : List ℕ} {m n k : ℕ} (s : Seeking text records decls name m n k) where
  module _ {p q z : ℕ} (l : k < m) (e : p ≡ cell 2 decls k) (place : q ≡ place_cell records p) (size : z ≡ size_byte records p) {r : Bool}
      (same : r ≡ same_bytes (folded_at text q z) (folded name)) where
    same_word : (v : Written text records decls m n) → r ≡ same_bytes (word_at v.tokens p) (folded name)
    same_word v =
        same ∙ (ap (λ (x : ℕ). same_bytes (folded_at text x z) (folded name)) place ∙ (ap (λ (x : ℕ). same_bytes (folded_at text (place_cell records p) x) (folded name)) size
        ∙ ap (λ (x : List ℕ). same_bytes x (folded name)) (sym (word_folded v.ready.holds (declared_name v l e)))))

    pub sought_here : r ≡ true → (v : Written text records decls m n) → Some k ≡ found (number_of (whole v) (folded name))
    sought_here t v = ap found (sym (number_step v (folded name) l e true (sym t ∙ same_word v)) ∙ s.left v)

    pub sought_on : r ≡ false → Seeking text records decls name m n (k + 1)
    sought_on t = record {
      within = omega arith;
      left = λ v. rw add-one (sym (number_step v (folded name) l e false (sym t ∙ same_word v)) ∙ s.left v);
    }

  pub sought_all : m ≤ k → (v : Written text records decls m n) → None ≡ found (number_of (whole v) (folded name))
  sought_all l v = ap found (sym (number_end v (folded name) k l) ∙ s.left v)

-- a number that is found, and one that is not
known : (o : Option ℕ) {f : Found ℕ} {r : ℕ} → f ≡ found o → f ≡ Some r → o ≡ some r
known none e d = cc
known (some k) {r = r} e d = let q : k ≡ r = cc in ap some q

unknown : (o : Option ℕ) {f : Found ℕ} → f ≡ found o → f ≡ None → o ≡ none
unknown none e d = refl
unknown (some k) e d = cc

module _ {text records decls : List ℕ} {m n : ℕ} (v : Written text records decls m n) (w : Word) {o : Found ℕ} (is : o ≡ found (number_of (whole v) w)) where
  pub number_within : {r : ℕ} → o ≡ Some r → r < m
  number_within {r} d = omega (arith, number_bound (whole v) r w (known (number_of (whole v) w) is d), table_size_lem (reading v))

  -- the test
  pub no_such_test : o ≡ None → Test (whole v) w None
  unfolding body_of body_number
  no_such_test e = record { missing = λ z. ap (body_number (whole v)) (unknown (number_of (whole v) w) is e); there = λ k z. cc }

  module _ {r : ℕ} (d : o ≡ Some r) where
    its_body : body_of (whole v) w ≡ body_number (whole v) (some r)
    unfolding body_of
    its_body = ap (body_number (whole v)) (known (number_of (whole v) w) is d)

    pub bodiless_test : Body (reading v) r None → Test (whole v) w None
    bodiless_test body = record { missing = λ q. its_body ∙ body.missing refl; there = λ k q. cc }

    pub test_there : {b : ℕ} → Body (reading v) r (Some b) → Test (whole v) w (Some r)
    test_there body = let y = body.there refl in record {
      missing = λ q. cc;
      there = λ k q. (known (number_of (whole v) w) is (d ∙ q), λ e. none-ne-some y.0 (sym e ∙ (its_body ∙ y.1)));
    }

  -- the output
  pub no_such_output : o ≡ None → Output (whole v) w None
  unfolding storage_of
  no_such_output e = record { missing = λ z. ap (storage_at (whole v)) (unknown (number_of (whole v) w) is e); there = λ k z. cc }

  module _ {r : ℕ} (d : o ≡ Some r) {b : Bool} (storage : b ≡ is_storage_of (declared_of (declares (reading v) r (number_within d)).declaration)) where
    chosen : (t : Option Target) (x : Option BitNames) → if_storage r t x ≡ elim (has_storage t x) [ true ↦ some r | false ↦ none ]
    chosen (some t) x = refl
    chosen none none = refl
    chosen none (some x) = refl

    its_storage : storage_of (whole v) w ≡ elim b [ true ↦ some r | false ↦ none ]
    unfolding storage_of
    its_storage =
        let x = declares (reading v) r (number_within d) in
        ap (storage_at (whole v)) (known (number_of (whole v) w) is d) ∙ (ap (if_declared r) x.found
        ∙ (chosen (declared_of x.declaration).target (declared_of x.declaration).bits
        ∙ ap {B = Option ℕ} (λ (y : Bool). elim y [ true ↦ some r | false ↦ none ]) (sym storage)))

    pub output_there : b ≡ true → Output (whole v) w (Some r)
    output_there t = record {
      missing = λ q. cc;
      there = λ k q.
          let same : r ≡ k = cc in (
            its_storage ∙ (ap {B = Option ℕ} (λ (y : Bool). elim y [ true ↦ some r | false ↦ none ]) t ∙ ap some same),
            known (number_of (whole v) w) is (d ∙ q),
          );
    }

    pub output_other : b ≡ false → Output (whole v) w None
    output_other t = record {
      missing = λ q. its_storage ∙ ap {B = Option ℕ} (λ (y : Bool). elim y [ true ↦ some r | false ↦ none ]) t;
      there = λ k q. cc;
    }

-- a declaration that is storage or not, as the table shows it
module _ {records values : List ℕ} {p : ℕ} where
  pub mapping_stores_not : {t : ℕ} → ((values : List ℕ) (v : View records values p) → TargetAt v.tokens (Some t) (declared_of v.declaration).target)
      → (v : View records values p) → false ≡ is_storage_of (declared_of v.declaration)
  mapping_stores_not is v = rw (target_here v.tokens (declared_of v.declaration).target (is values v)).1

module _ {records values : List ℕ} {p : ℕ} (is : (values : List ℕ) (v : View records values p) → TargetAt v.tokens None (declared_of v.declaration).target)
    {s : Names} (bits : (v : View records values p) → s ≡ shown_bits (declared_of v.declaration).bits) where
  by_bits : (v : View records values p) {b : Bool} → ((o : Option BitNames) → s ≡ shown_bits o → b ≡ has_storage none o) → b ≡ is_storage_of (declared_of v.declaration)
  by_bits v {b} h =
      rw (no_target v.tokens None (declared_of v.declaration).target (is values v) refl) (h (declared_of v.declaration).bits (bits v))

  pub bitless_stores_not : s ≡ Missing → (v : View records values p) → false ≡ is_storage_of (declared_of v.declaration)
  bitless_stores_not e v = by_bits v bitless
    where
      bitless : (o : Option BitNames) → s ≡ shown_bits o → false ≡ has_storage none o
      bitless none q = refl
      bitless (some one_unnamed) q = let z : ◌≡◌ {A = ℕ} 0 1 = cc in absurd (omega arith)
      bitless (some (these b)) q = let z : ◌≡◌ {A = ℕ} 0 1 = cc in absurd (omega arith)

  pub unnamed_stores : s ≡ Unnamed → (v : View records values p) → true ≡ is_storage_of (declared_of v.declaration)
  unnamed_stores e v = by_bits v one
    where
      one : (o : Option BitNames) → s ≡ shown_bits o → true ≡ has_storage none o
      one none q = let z : ◌≡◌ {A = ℕ} 0 1 = cc in absurd (omega arith)
      one (some b) q = refl

  pub named_stores : {l r : ℕ} → s ≡ Span l r → (v : View records values p) → true ≡ is_storage_of (declared_of v.declaration)
  named_stores e v = by_bits v several
    where
      several : (o : Option BitNames) → s ≡ shown_bits o → true ≡ has_storage none o
      several none q = let z : ◌≡◌ {A = ℕ} 0 1 = cc in absurd (omega arith)
      several (some b) q = refl
