-- What the table says of a name: the number of its declaration, and the carrier under it.
use Rattle.std.specs.Prelude.{ℕ, ◌+◌, ◌*◌, ◌<◌, ◌≤◌, ◌≡◌, refl, ◌⊎◌, Bool, true, false, List, [], ◌∷◌, length, drop, Some, None}
use Rattle.std.proofs.Common.{sym, ap, ◌∙◌, subst, inl, inr, arith}
use Rattle.std.proofs.Math.Option.{Option, none, some}
use Rattle.cells.specs.Cells.{cell}
use Rattle.rules.specs.Text.Tokens.{Name, LBra, Less, Becomes, Token, tk, kind_no}
use Rattle.rules.specs.Text.Scan.{same_bytes}
use Rattle.rules.specs.Grammar.Trees.{Tokens, Declaration, plain, main, words, with_bits, bare_body, carrier, given, body, mapped, bitless, main_bits, declarations_tokens}
use Rattle.rules.specs.Declarations.{Word, Target, BitNames, declared_of, number_of, outer_name, own_names}
use Rattle.rules.specs.Limits.{most_declarations}
use Rattle.rules.specs.Whole.Sets.{owner}
use Rattle.laws_accepted.proofs.Accepted.Declared.{declares as lawful_table}
use Rattle.records.specs.Holds.{kind_byte, inside_cell}
use Rattle.records.specs.Words.{word_at}
use Rattle.table.specs.Laws.Positions.{far, kind_far}
use Rattle.table.specs.Declarations.{name_tokens}
use Rattle.table.specs.Views.{View, TargetAt, TargetStands}
use Rattle.table.specs.Laws.Views.{no_target, target_here}
use Rattle.table.specs.Laws.Kth.{table_length}
use Rattle.table.specs.Meaning.{meaning_by, meaning_of}
use Rattle.reading.specs.Reading.{Reading, table_of}
use Rattle.reading.specs.Laws.Reading.{kinded, name_at}
use Rattle.reading.specs.Laws.Names.{number_bound, owner_unknown, owner_bare, owner_storage, owner_mapped}
use Rattle.reading.specs.Names.{Owned}
use Rattle.reading.specs.Indexes.{undeclared, number_or, index_of}
use Rattle.reading.specs.Meanings.{declares}

module _ {records decls : List ℕ} {m n : ℕ} (v : Reading records decls m n) where
  pub table_size_lem : length (table_of v) ≡ m
  table_size_lem = table_length v.ready

  abbrev pub view : (k : ℕ) (h : k < m) → View records v.values (cell 2 decls k)
  view k h = record {
    text = v.text;
    tokens = v.tokens;
    holds = v.ready.holds;
    declaration = (declares v k h).declaration;
    stands = (declares v k h).stands;
  }

  meaning_by_lem : (i : ℕ) → i < n → kind_byte records i ≡ kind_no Name → inside_cell records i ≡ meaning_by (number_of (table_of v) (word_at v.tokens i))
      (same_bytes (outer_name v.description).word (word_at v.tokens i))
  unfolding meaning_of
  meaning_by_lem i h e = v.ready.means.means i (omega (arith, v.count)) (name_at v i h e).kind

  pub means_number : (i r : ℕ) → i < n → kind_byte records i ≡ kind_no Name → r ≡ inside_cell records i → r < m → number_of (table_of v) (word_at v.tokens i) ≡ some r
  means_number i r h e q l = by (number_of (table_of v) (word_at v.tokens i)) (same_bytes (outer_name v.description).word (word_at v.tokens i))
      (q ∙ meaning_by_lem i h e)
    where
      by : (x : Option ℕ) (o : Bool) → r ≡ meaning_by x o → x ≡ some r
      by (some k) o p = ap some (sym p)
      by none true p = absurd (omega (arith, v.ready.few))
      by none false p = absurd (omega (arith, v.ready.few))

  pub means_nothing : (i r : ℕ) → i < n → kind_byte records i ≡ kind_no Name → r ≡ inside_cell records i → m ≤ r → number_of (table_of v) (word_at v.tokens i) ≡ none
  means_nothing i r h e q l = by (number_of (table_of v) (word_at v.tokens i)) refl (same_bytes (outer_name v.description).word (word_at v.tokens i))
      (q ∙ meaning_by_lem i h e)
    where
      by : (x : Option ℕ) → number_of (table_of v) (word_at v.tokens i) ≡ x → (o : Bool) → r ≡ meaning_by x o → x ≡ none
      by none f o p = refl
      by (some k) f o p = absurd (omega (arith, number_bound (table_of v) k (word_at v.tokens i) f, table_size_lem))

  -- a mapping names storage
  mapped_storage : (k : ℕ) (t : Target) (h : k < m) (w : Word) → number_of (table_of v) w ≡ some k → (declared_of (declares v k h).declaration).target ≡ some t
      → (u : ℕ) × (number_of (table_of v) t.name.word ≡ some u) × (owner (table_of v) w ≡ u ∷ [])
  mapped_storage k t h w e q =
      owner_mapped (table_of v) w k (declared_of (declares v k h).declaration) e (declares v k h).found (outer_name v.description).word t q
      (lawful_table v.description v.ready.lawful)

-- behind a declared name stands `:=` exactly where it has no bits
record Second (d : Declaration) (ts : Tokens) : Type 0 where
  first : Token
  second : Token
  others : Tokens
  reads : name_tokens d ts ≡ first ∷ second ∷ others
  bits : ((kind_no second.kind ≡ kind_no Becomes) × ((declared_of d).bits ≡ none)) ⊎ ((kind_no second.kind ≡ kind_no Becomes → ⊥) × ((b : BitNames) × ((declared_of d).bits ≡ some b)))

second_token : (d : Declaration) (ts : Tokens) → Second d ts
second_token (plain n (words l f c t r b o)) ts =
    record { first = tk Name n; second = tk LBra l; others = _; reads = refl; bits = inr ((λ e. omega arith), (own_names o, refl)) }
second_token (plain n (with_bits l o carrier)) ts =
    record { first = tk Name n; second = tk Less l; others = _; reads = refl; bits = inr ((λ e. omega arith), (own_names o, refl)) }
second_token (plain n (with_bits l o (given e (body g a m)))) ts =
    record { first = tk Name n; second = tk Less l; others = _; reads = refl; bits = inr ((λ e. omega arith), (own_names o, refl)) }
second_token (plain n (with_bits l o (given e (mapped t x c r)))) ts =
    record { first = tk Name n; second = tk Less l; others = _; reads = refl; bits = inr ((λ e. omega arith), (own_names o, refl)) }
second_token (plain n (bare_body e b a m)) ts =
    record { first = tk Name n; second = tk Becomes e; others = _; reads = refl; bits = inl (refl, refl) }
second_token (main i n bitless e b a m) ts =
    record { first = tk Name n; second = tk Becomes e; others = _; reads = refl; bits = inl (refl, refl) }
second_token (main i n (main_bits l o) e b a m) ts =
    record { first = tk Name n; second = tk Less l; others = _; reads = refl; bits = inr ((λ e. omega arith), (own_names o, refl)) }

-- the name i has the number k
module _ {records decls : List ℕ} {m n i k : ℕ} (h : i < n) (e : kind_byte records i ≡ kind_no Name) (q : k ≡ inside_cell records i) where
  pub unknown_carrier : m ≤ k → (v : Reading records decls m n) → Owned (owner (table_of v) (word_at v.tokens i)) 65535
  unknown_carrier l v = record {
    one = λ x. absurd (omega arith);
    nothing = λ x. owner_unknown (table_of v) (word_at v.tokens i)
        (means_nothing v i k h e q l);
  }

  module _ {p : ℕ} (l : k < m) (at : p ≡ cell 2 decls k) where
    module _ {t : ℕ} (is : (values : List ℕ) (w : View records values p) → TargetAt w.tokens (Some t) (declared_of w.declaration).target) (v : Reading records decls m n) where
      target_stands : (x : Target) × ((declared_of (declares v k l).declaration).target ≡ some x) × TargetStands v.tokens t x
      target_stands = target_here v.tokens (declared_of (declares v k l).declaration).target
          (subst (λ (p : ℕ). (values : List ℕ) (w : View records values p) → TargetAt w.tokens (Some t) (declared_of w.declaration).target) at is v.values (view v k l))

      pub target_room : 8 * t + 8 ≤ length records
      target_room = omega (arith, target_stands.2.within, v.ready.holds.record_room)

      pub mapped_carrier : {r : ℕ} → r ≡ inside_cell records t → Owned (owner (table_of v) (word_at v.tokens i)) r
      mapped_carrier {r} f =
          let s = target_stands.2 in
          let inside : t < n = omega (arith, s.within, v.count) in
          let kind : kind_byte records t ≡ kind_no Name = (kinded v).kind t inside ∙ ap (λ (x : Token). kind_no x.kind) s.name in
          let u = mapped_storage v k target_stands.0 l (word_at v.tokens i) (means_number v i k h e q l) target_stands.1 in
          let same : r ≡ u.0 =
          f ∙ (meaning_by_lem v t inside kind ∙ (ap
          (λ (x : Token). meaning_by (number_of (table_of v) x.info.word) (same_bytes (outer_name v.description).word x.info.word)) s.name
          ∙ ap (λ (x : Option ℕ). meaning_by x (same_bytes (outer_name v.description).word target_stands.0.name.word)) u.1)) in
          let small = number_bound (table_of v) u.0 target_stands.0.name.word u.1 in
          record {
            one = λ x. u.2 ∙ ap (λ (y : ℕ). y ∷ []) (sym same);
            nothing = λ x. absurd (omega (arith, table_size_lem v, v.ready.few));
          }

    module _ (is : (values : List ℕ) (w : View records values p) → TargetAt w.tokens None (declared_of w.declaration).target) (v : Reading records decls m n) where
      none_targeted : (declared_of (declares v k l).declaration).target ≡ none
      none_targeted = no_target v.tokens None (declared_of (declares v k l).declaration).target
          (subst (λ (p : ℕ). (values : List ℕ) (w : View records values p) → TargetAt w.tokens None (declared_of w.declaration).target) at is v.values (view v k l)) refl

      second : Second (declares v k l).declaration (declarations_tokens (declares v k l).stands.following [])
      second = second_token (declares v k l).declaration (declarations_tokens (declares v k l).stands.following [])

      reads_two : drop p v.tokens ≡ second.first ∷ second.second ∷ second.others
      reads_two = ap (λ (x : ℕ). drop x v.tokens) at ∙ ((declares v k l).stands.reads ∙ second.reads)

      pub second_room : 8 * (p + 1) + 8 ≤ length records
      second_room = omega (arith, far v.tokens p _ reads_two 1 (omega arith), v.ready.holds.record_room)

      second_kind : kind_byte records (p + 1) ≡ kind_no second.second.kind
      second_kind = kind_far v.ready.holds p _ reads_two (p + 1) 1 refl (omega arith)

      number : number_of (table_of v) (word_at v.tokens i) ≡ some k
      number = means_number v i k h e q l

      pub bare_carrier : {b : ℕ} → b ≡ kind_byte records (p + 1) → b ≡ kind_no Becomes → Owned (owner (table_of v) (word_at v.tokens i)) 65535
      bare_carrier f g = by second.bits
        where
          by : ((kind_no second.second.kind ≡ kind_no Becomes) × ((declared_of (declares v k l).declaration).bits ≡ none))
              ⊎ ((kind_no second.second.kind ≡ kind_no Becomes → ⊥) × ((b : BitNames) × ((declared_of (declares v k l).declaration).bits ≡ some b)))
              → Owned (owner (table_of v) (word_at v.tokens i)) 65535
          by (inl y) = record {
            one = λ x. absurd (omega arith);
            nothing = λ x. owner_bare (table_of v) _ k _ number (declares v k l).found none_targeted y.1;
          }
          by (inr y) = absurd (y.0 (sym second_kind ∙ (sym f ∙ g)))

      pub own_carrier : {b : ℕ} → b ≡ kind_byte records (p + 1) → (b ≡ kind_no Becomes → ⊥) → Owned (owner (table_of v) (word_at v.tokens i)) k
      own_carrier f g = by second.bits
        where
          by : ((kind_no second.second.kind ≡ kind_no Becomes) × ((declared_of (declares v k l).declaration).bits ≡ none))
              ⊎ ((kind_no second.second.kind ≡ kind_no Becomes → ⊥) × ((b : BitNames) × ((declared_of (declares v k l).declaration).bits ≡ some b)))
              → Owned (owner (table_of v) (word_at v.tokens i)) k
          by (inl y) = absurd (g (f ∙ (second_kind ∙ y.0)))
          by (inr y) = record {
            one = λ x. owner_storage (table_of v) _ k _ number (declares v k l).found y.1.0 none_targeted y.1.1;
            nothing = λ x. absurd (omega (arith, v.ready.few));
          }

pub declared_view : {records decls : List ℕ} {m n k p : ℕ} → Reading records decls m n → k < m → p ≡ cell 2 decls k → (values : List ℕ) × View records values p
declared_view {records} v l at = (v.values, subst (λ (x : ℕ). View records v.values x) (sym at) (view v _ l))

-- the index of a name
module _ {records : List ℕ} {m i k : ℕ} (few : m ≤ most_declarations) (is : k ≡ inside_cell records i) where
  pub declared_index : k < m → (k ≤ undeclared) × ((decls : List ℕ) (n : ℕ) (v : Reading records decls m n) → i < n → kind_byte records i ≡ kind_no Name
      → k ≡ index_of (table_of v) (word_at v.tokens i))
  declared_index l = (omega arith, λ d n v h e. sym (ap number_or (means_number v i k h e is l)))

  pub undeclared_index : m ≤ k → (undeclared ≤ undeclared) × ((decls : List ℕ) (n : ℕ) (v : Reading records decls m n) → i < n → kind_byte records i ≡ kind_no Name
      → undeclared ≡ index_of (table_of v) (word_at v.tokens i))
  undeclared_index l = (omega arith, λ d n v h e. sym (ap number_or (means_nothing v i k h e is l)))
