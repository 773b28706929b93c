-- Laws of marking spellings and of taking meanings from them: nothing else of the table changes.
-- Assumes nothing.
use Rattle.std.specs.Prelude.{ℕ, ◌+◌, ◌*◌, ◌<◌, ◌≤◌, ◌≡◌, refl, Bool, List, map, drop}
use Rattle.std.proofs.Math.Path.{sym}
use Rattle.std.proofs.Common.{ap, ◌∙◌, add-one, drop_of_length-le}
use Rattle.std.proofs.Math.Bool.{true, false}
use Rattle.std.proofs.Math.Option.{none}
use native.Mathlib.Omega.{arith}
use Rattle.std.proofs.Math.Decide.{dec_lt, ℕ_discrete}
use borrow.Author.Tests.{eqb-true, eqb-false}
use Rattle.std.proofs.Math.ListN.{length}
use Rattle.cells.specs.Cells.{cell}
use Rattle.rules.specs.Text.Tokens.{Name, kind_no}
use Rattle.rules.specs.Text.Scan.{same_bytes}
use Rattle.rules.specs.Grammar.Trees.{Tokens, Declaration}
use Rattle.rules.specs.Declarations.{Word, declared_of, number_from, number_of}
use Rattle.rules.specs.Limits.{most_tokens}
use Rattle.laws_grammar.specs.Cited.Kinds.{kind_at}
use Rattle.laws_grammar.specs.Grammar.Kinds.{kind_at_kind_no}
use Rattle.records.specs.Holds.{kind_byte, inside_cell, link_cell, token_at}
use Rattle.records.specs.Kept.{InsidePut}
use Rattle.records.specs.Laws.Kept.{kept_none, kept_then, kept_wide, holds_kept}
use Rattle.records.specs.Words.{NameAt, word_at}
use Rattle.table.specs.Laws.Lookups.{Known, both_names, number_step}
use Rattle.table.specs.Meaning.{outer_only, unknown_name, meaning_by, meaning_of}
use Rattle.spelling.specs.Spelled.{Spelled}
use Rattle.resolving.specs.Resolving.{SpelledIn, Lists, InsideOnly, Forgotten, MarkedFrom, MeantTo}

-- inside cells only
pub inside_none : (records : List ℕ) → InsideOnly records records
inside_none records = record { kept = kept_none records 0 most_tokens; link = λ t. refl }

pub inside_then : {old mid now : List ℕ} → InsideOnly old mid → InsideOnly mid now → InsideOnly old now
inside_then a b = record {
  kept = kept_then 0 most_tokens a.kept b.kept (omega arith) (omega arith) (omega arith) (omega arith);
  link = λ t. b.link t ∙ a.link t;
}

module _ {old now : List ℕ} {i x : ℕ} (put : InsidePut old now i x) where
  pub inside_written : i < most_tokens → InsideOnly old now
  inside_written l = record { kept = kept_wide 0 most_tokens put.kept (omega arith) (omega arith); link = λ t. by t (ℕ_discrete t i) }
    where
      by : (t : ℕ) → Dec (t ≡ i) → link_cell now t ≡ link_cell old t
      by t (yes e) = rw e put.link
      by t (no n) = put.kept.link t (λ a b. n (omega arith))

  pub inside_other : (t : ℕ) → (t ≡ i → ⊥) → inside_cell now t ≡ inside_cell old t
  inside_other t n = put.kept.inside t (λ a b. n (omega arith))

module _ {old now : List ℕ} (only : InsideOnly old now) {ts : Tokens} where
  pub spelled_still : Spelled old ts → Spelled now ts
  spelled_still s = record {
    name = λ i n. rw (only.link i) (s.name i n);
    word = λ i n. rw (only.link i) (s.word i n);
    same = λ i j n m. rw (only.link i, only.link j) (s.same i j n m);
  }

  abbrev pub table_still : SpelledIn old ts → SpelledIn now ts
  table_still t = record { text = t.text; values = t.values; holds = holds_kept only.kept t.holds; spelled = spelled_still t.spelled }

  abbrev pub lists_still : {decls : List ℕ} {list : List Declaration} → Lists old decls ts list → Lists now decls ts list
  lists_still l = record { table = table_still l.table; outer = l.outer; hold = l.hold }

-- a name and its spelling stand in the table
module _ {records : List ℕ} {ts : Tokens} (t : SpelledIn records ts) {i : ℕ} (n : NameAt ts i) where
  pub few_names : i < most_tokens
  few_names = omega (arith, n.within, t.holds.few)

  pub name_inside : 8 * i + 8 ≤ length records
  name_inside = omega (arith, n.within, t.holds.record_room)

-- one declaration more
module _ {old decls : List ℕ} {ts : Tokens} {list : List Declaration} (l : Lists old decls ts list) {k p : ℕ} (within : k < length list) (e : p ≡ cell 2 decls k) where
  abbrev known : {j : ℕ} → NameAt ts j → Known l.table.text old decls (length list) j
  known n = record { values = l.table.values; tokens = ts; holds = l.table.holds; declared = list; decls_hold = l.hold; count = refl; name = n }

  pub declared_at : NameAt ts p
  declared_at = (both_names (known l.outer) within e).first

  module _ {q : ℕ} (link : q ≡ link_cell old p) where
    link_named : NameAt ts q
    link_named = rw link (l.table.spelled.name p declared_at)

    one_marked : {now : List ℕ} → InsidePut old now q k → (outer : Word) → MarkedFrom old ts outer list (k + 1) → MarkedFrom now ts outer list k
    unfolding number_from
    one_marked {now} put outer r = record { marked = λ j n. rw ((inside_written put (few_names l.table link_named)).link j) (by j n (same_bytes (word_at ts p) (word_at ts j)) refl) }
      where
        by : (j : ℕ) → NameAt ts j → (b : Bool) → same_bytes (word_at ts p) (word_at ts j) ≡ b
            → inside_cell now (link_cell old j) ≡ meaning_by (number_from k (word_at ts j) (map declared_of (drop k list))) (same_bytes outer (word_at ts j))
        by j n true y =
            let same : link_cell old j ≡ q = sym (link ∙ eqb-true (link_cell old p) (link_cell old j) (l.table.spelled.same p j declared_at n ∙ y)) in
            rw (number_step (known n) within e true (sym y), same) put.inside
        by j n false y =
            let other : link_cell old j ≡ q → ⊥ = λ z. eqb-false (link_cell old p) (link_cell old j) (l.table.spelled.same p j declared_at n ∙ y) (sym link ∙ sym z) in
            rw (number_step (known n) within e false (sym y)) (inside_other put (link_cell old j) other ∙ (rw (add-one k) at (r.marked j n)))

-- no declaration yet: the outer name only
module _ {old decls : List ℕ} {ts : Tokens} {list : List Declaration} (l : Lists old decls ts list) {q : ℕ} (link : q ≡ link_cell old 0) where
  outer_named : NameAt ts q
  outer_named = rw link (l.table.spelled.name 0 l.outer)

  outer_marked : {now : List ℕ} → InsidePut old now q outer_only → Forgotten old (length ts) → MarkedFrom now ts (word_at ts 0) list (length list)
  unfolding number_from
  outer_marked {now} put forgotten = record { marked = λ j n. rw ((inside_written put (few_names l.table outer_named)).link j) (by j n (same_bytes (word_at ts 0) (word_at ts j)) refl) }
    where
      none_left : (w : Word) → number_from (length list) w (map declared_of (drop (length list) list)) ≡ none
      none_left w = let past : length list ≤ length list = omega arith in rw (drop_of_length-le list past, number_from)

      by : (j : ℕ) → NameAt ts j → (b : Bool) → same_bytes (word_at ts 0) (word_at ts j) ≡ b
          → inside_cell now (link_cell old j) ≡ meaning_by (number_from (length list) (word_at ts j) (map declared_of (drop (length list) list))) (same_bytes (word_at ts 0) (word_at ts j))
      by j n true y =
          let same : link_cell old j ≡ q = sym (link ∙ eqb-true (link_cell old 0) (link_cell old j) (l.table.spelled.same 0 j l.outer n ∙ y)) in
          rw (none_left (word_at ts j), y, same) put.inside
      by j n false y =
          let other : link_cell old j ≡ q → ⊥ = λ z. eqb-false (link_cell old 0) (link_cell old j) (l.table.spelled.same 0 j l.outer n ∙ y) (sym link ∙ sym z) in
          rw (none_left (word_at ts j), y) (inside_other put (link_cell old j) other ∙ forgotten.unknown (link_cell old j) (l.table.spelled.name j n).within)

-- one token takes its meaning
module _ {old : List ℕ} {ts : Tokens} (t : SpelledIn old ts) {i x : ℕ} (within : i < length ts) (kind : x ≡ kind_byte old i) where
  kind_is : x ≡ kind_no (token_at ts i).kind
  kind_is = kind ∙ (t.holds.entry i within).kind

  pub name_there : x ≡ kind_no Name → NameAt ts i
  name_there e = record { within = within; kind = sym (kind_at_kind_no (token_at ts i).kind) ∙ ap kind_at (sym kind_is ∙ e) }

  module _ (outer : Word) (list : List Declaration) (marks : MarkedFrom old ts outer list 0) (means : MeantTo old ts outer list i) where
    no_name : (x ≡ kind_no Name → ⊥) → MeantTo old ts outer list (i + 1)
    no_name f = record { means = λ j h n. by j h n (dec_lt j i) }
      where
        by : (j : ℕ) → j < i + 1 → NameAt ts j → Dec (j < i) → inside_cell old j ≡ meaning_of outer (map declared_of list) (word_at ts j)
        by j h n (yes y) = means.means j y n
        by j h n (no z) = let e : j ≡ i = omega arith in absurd (f (kind_is ∙ ap kind_no (rw e at n).kind))

    module _ {now : List ℕ} {y : ℕ} (name : NameAt ts i) (taken : y ≡ inside_cell old (link_cell old i)) (put : InsidePut old now i y) where
      meaning_taken : y ≡ meaning_of outer (map declared_of list) (word_at ts i)
      unfolding meaning_of number_of
      meaning_taken = taken ∙ marks.marked i name

      marks_stay : MarkedFrom now ts outer list 0
      marks_stay = record { marked = λ j n. rw ((inside_written put (few_names t name)).link j) (by j n (ℕ_discrete (link_cell old j) i)) }
        where
          by : (j : ℕ) → NameAt ts j → Dec (link_cell old j ≡ i)
              → inside_cell now (link_cell old j) ≡ meaning_by (number_from 0 (word_at ts j) (map declared_of (drop 0 list))) (same_bytes outer (word_at ts j))
          by j n (yes e) =
              let word : word_at ts i ≡ word_at ts j = ap (word_at ts) (sym e) ∙ t.spelled.word j n in
              rw (e, sym word) (put.inside ∙ (taken ∙ marks.marked i name))
          by j n (no z) = inside_other put (link_cell old j) z ∙ marks.marked j n

      one_more : MeantTo now ts outer list (i + 1)
      one_more = record { means = λ j h n. by j h n (dec_lt j i) }
        where
          by : (j : ℕ) → j < i + 1 → NameAt ts j → Dec (j < i) → inside_cell now j ≡ meaning_of outer (map declared_of list) (word_at ts j)
          by j h n (yes b) = inside_other put j (λ e. omega arith) ∙ means.means j b n
          by j h n (no z) = let e : j ≡ i = omega arith in rw e (put.inside ∙ meaning_taken)

-- what `forget` has passed
pub record Forgetting (old now : List ℕ) (n i : ℕ) : Type 0 where
  pub within : i ≤ n
  pub long : length now ≡ length old
  pub only : InsideOnly old now
  pub gone : Forgotten now i

pub none_forgotten : (records : List ℕ) (n : ℕ) → Forgetting records records n 0
none_forgotten records n = record { within = omega arith; long = refl; only = inside_none records; gone = record { unknown = λ t l. absurd (omega arith) } }

pub one_forgotten : {old mid now : List ℕ} {n i : ℕ} → Forgetting old mid n i → n ≤ most_tokens → i < n → InsidePut mid now i unknown_name → Forgetting old now n (i + 1)
one_forgotten {old} {mid} {now} {n} {i} f few l put = record {
  within = omega arith;
  long = put.kept.long ∙ f.long;
  only = inside_then f.only (inside_written put (omega arith));
  gone = record { unknown = λ t h. by t h (dec_lt t i) };
}
  where
    by : (t : ℕ) → t < i + 1 → Dec (t < i) → inside_cell now t ≡ unknown_name
    by t h (yes y) = inside_other put t (λ e. omega arith) ∙ f.gone.unknown t y
    by t h (no z) = let e : t ≡ i = omega arith in rw e put.inside

pub all_forgotten : {old now : List ℕ} {n i : ℕ} → Forgetting old now n i → n ≤ i → InsideOnly old now × Forgotten now n
all_forgotten {n = n} {i = i} f l = let e : i ≡ n = omega (arith, f.within) in (f.only, rw e at f.gone)

-- what `mark_one` finds and promises
module _ {old decls : List ℕ} {k p : ℕ} (e : p ≡ cell 2 decls k) where
  pub declared_inside : ((ts : Tokens) × (list : List Declaration) × Lists old decls ts list × (k < length list)) → 8 * p + 8 ≤ length old
  declared_inside (ts, list, l, h) = name_inside l.table (declared_at l h e)

  module _ {q : ℕ} (link : q ≡ link_cell old p) where
    pub link_inside : ((ts : Tokens) × (list : List Declaration) × Lists old decls ts list × (k < length list)) → (8 * q + 8 ≤ length old) × (k < 65536)
    link_inside (ts, list, l, h) = (
      name_inside l.table (link_named l h e link),
      omega (arith, h, l.hold.few),
    )

    pub marked_one : {now : List ℕ} → InsidePut old now q k → ((ts : Tokens) × (list : List Declaration) × Lists old decls ts list × (k < length list))
        → InsideOnly old now × ((ts : Tokens) (outer : Word) (list : List Declaration) → Lists old decls ts list → k < length list
        → MarkedFrom old ts outer list (k + 1) → MarkedFrom now ts outer list k)
    marked_one put (ts, list, l, h) = (
      inside_written put (few_names l.table (link_named l h e link)),
      λ ts outer list l h r. one_marked l h e link put outer r,
    )

pub cell_room : {old decls : List ℕ} {k : ℕ} → ((ts : Tokens) × (list : List Declaration) × Lists old decls ts list × (k < length list)) → 2 * k + 2 ≤ length decls
cell_room (ts, list, l, h) = omega (arith, h, l.hold.room)

-- what the loop of `mark` has passed, from the last declaration down to the k-th
pub record MarkedTo (old now decls : List ℕ) (m k : ℕ) : Type 0 where
  pub within : k ≤ m
  pub only : InsideOnly old now
  pub marks : (ts : Tokens) (outer : Word) (list : List Declaration) → Lists old decls ts list → m ≡ length list
      → MarkedFrom old ts outer list m → MarkedFrom now ts outer list k

pub none_marked : (records decls : List ℕ) (m : ℕ) → MarkedTo records records decls m m
none_marked records decls m = record { within = omega arith; only = inside_none records; marks = λ ts outer list l e r. r }

module _ {entry decls : List ℕ} {m q : ℕ} (link : q ≡ link_cell entry 0) (s : (ts : Tokens) × (list : List Declaration) × Lists entry decls ts list × (m ≡ length list)) where
  pub outer_link : 8 * q + 8 ≤ length entry
  outer_link = name_inside s.2.table (outer_named s.2 link)

  module _ {old : List ℕ} (put : InsidePut entry old q outer_only) where
    pub outer_written : InsideOnly entry old
    outer_written = inside_written put (few_names s.2.table (outer_named s.2 link))

    module _ {now : List ℕ} {k : ℕ} (r : MarkedTo old now decls m k) where
      pub next_declared : {h : ℕ} → h + 1 ≡ k → ((ts : Tokens) × (list : List Declaration) × Lists now decls ts list × (h < length list))
      next_declared c = (s.0, s.1, lists_still r.only (lists_still outer_written s.2), omega (arith, r.within, s.3))

      pub all_marked : k ≤ 0 → InsideOnly entry now × ((ts : Tokens) (list : List Declaration) → Lists entry decls ts list → m ≡ length list
          → Forgotten entry (length ts) → MarkedFrom now ts (word_at ts 0) list 0)
      all_marked z = (
        inside_then outer_written r.only,
        λ ts list l e f.
            let none : k ≡ 0 = omega arith in
            let outer : MarkedFrom old ts (word_at ts 0) list m = rw e (outer_marked l link put f) in
            rw none at (r.marks ts (word_at ts 0) list (lists_still outer_written l) e outer),
      )

pub outer_inside : {entry decls : List ℕ} {m : ℕ} → ((ts : Tokens) × (list : List Declaration) × Lists entry decls ts list × (m ≡ length list)) → 8 * 0 + 8 ≤ length entry
outer_inside (ts, list, l, e) = name_inside l.table l.outer

pub one_less : {old now after decls : List ℕ} {m k h : ℕ} → MarkedTo old now decls m k → h + 1 ≡ k
    → InsideOnly now after × ((ts : Tokens) (outer : Word) (list : List Declaration) → Lists now decls ts list → h < length list
    → MarkedFrom now ts outer list (h + 1) → MarkedFrom after ts outer list h) → MarkedTo old after decls m h
one_less r c p = record {
  within = omega (arith, r.within);
  only = inside_then r.only p.0;
  marks = λ ts outer list l e f. p.1 ts outer list (lists_still r.only l) (omega (arith, r.within)) (rw c (r.marks ts outer list l e f));
}

-- what `resolve_one` promises
abbrev pub Takes : List ℕ → List ℕ → ℕ → Type 0
Takes old now i = (ts : Tokens) (outer : Word) (list : List Declaration) → SpelledIn old ts → i < length ts → MarkedFrom old ts outer list 0
    → MeantTo old ts outer list i → MarkedFrom now ts outer list 0 × MeantTo now ts outer list (i + 1)

module _ {old : List ℕ} {i : ℕ} where
  pub token_inside : ((ts : Tokens) × SpelledIn old ts × (i < length ts)) → 8 * i + 8 ≤ length old
  token_inside (ts, t, l) = omega (arith, t.holds.record_room)

  module _ {x : ℕ} (kind : x ≡ kind_byte old i) where
    pub passed_over : (x ≡ kind_no Name → ⊥) → InsideOnly old old × Takes old old i
    passed_over f = (inside_none old, λ ts outer list t l marks means. (marks, no_name t l kind outer list marks means f))

    module _ (is : x ≡ kind_no Name) {q : ℕ} (link : q ≡ link_cell old i) where
      pub spelling_inside : ((ts : Tokens) × SpelledIn old ts × (i < length ts)) → 8 * q + 8 ≤ length old
      spelling_inside (ts, t, l) = name_inside t (rw link (t.spelled.name i (name_there t l kind is)))

      pub taken_over : {now : List ℕ} {y : ℕ} → y ≡ inside_cell old q → InsidePut old now i y → ((ts : Tokens) × SpelledIn old ts × (i < length ts))
          → InsideOnly old now × Takes old now i
      taken_over e put (ts, t, l) = (
        inside_written put (few_names t (name_there t l kind is)),
        λ ts outer list t l marks means.
            let name = name_there t l kind is in
            let from = e ∙ ap (inside_cell old) link in
            (marks_stay t l kind outer list marks means name from put, one_more t l kind outer list marks means name from put),
      )

-- what `resolve` has passed
pub record Resolving (old now : List ℕ) (n i : ℕ) : Type 0 where
  pub within : i ≤ n
  pub only : InsideOnly old now
  pub means : (ts : Tokens) (outer : Word) (list : List Declaration) → SpelledIn old ts → n ≡ length ts → MarkedFrom old ts outer list 0
      → MarkedFrom now ts outer list 0 × MeantTo now ts outer list i

pub none_resolved : (records : List ℕ) (n : ℕ) → Resolving records records n 0
none_resolved records n = record {
  within = omega arith;
  only = inside_none records;
  means = λ ts outer list t e r. (r, record { means = λ j l. absurd (omega arith) });
}

module _ {old now : List ℕ} {n i : ℕ} (r : Resolving old now n i) where
  pub next_token : i < n → ((ts : Tokens) × SpelledIn old ts × (n ≡ length ts)) → ((ts : Tokens) × SpelledIn now ts × (i < length ts))
  next_token l (ts, t, e) = (ts, table_still r.only t, omega arith)

  pub one_resolved : {after : List ℕ} → i < n → InsideOnly now after × Takes now after i → Resolving old after n (i + 1)
  one_resolved l p = record {
    within = omega arith;
    only = inside_then r.only p.0;
    means = λ ts outer list t e m.
        let before = r.means ts outer list t e m in p.1 ts outer list (table_still r.only t) (omega arith) before.0 before.1;
  }

  pub all_resolved : n ≤ i → InsideOnly old now × ((ts : Tokens) (outer : Word) (list : List Declaration) → SpelledIn old ts → n ≡ length ts
      → MarkedFrom old ts outer list 0 → MeantTo now ts outer list n)
  all_resolved l = let x : i ≡ n = omega (arith, r.within) in (r.only, λ ts outer list t e m. rw x at (r.means ts outer list t e m).1)

-- the parts of `give_meanings`
module _ {entry decls : List ℕ} {m n : ℕ} (s : (ts : Tokens) × (list : List Declaration) × Lists entry decls ts list × (m ≡ length list) × (n ≡ length ts)) where
  pub few_tokens : (8 * n ≤ length entry) × (n ≤ most_tokens)
  few_tokens = (omega (arith, s.4, s.2.table.holds.record_room), omega (arith, s.4, s.2.table.holds.few))

  module _ {old : List ℕ} (forgot : InsideOnly entry old × Forgotten old n) where
    pub to_mark : (ts : Tokens) × (list : List Declaration) × Lists old decls ts list × (m ≡ length list)
    to_mark = (s.0, s.1, lists_still forgot.0 s.2, s.3)

    pub to_resolve : {now : List ℕ} → InsideOnly old now → ((ts : Tokens) × SpelledIn now ts × (n ≡ length ts))
    to_resolve only = (s.0, table_still only (table_still forgot.0 s.2.table), s.4)

pub all_given : {entry old now after decls : List ℕ} {m n : ℕ} → InsideOnly entry old × Forgotten old n
    → InsideOnly old now × ((ts : Tokens) (list : List Declaration) → Lists old decls ts list → m ≡ length list → Forgotten old (length ts)
    → MarkedFrom now ts (word_at ts 0) list 0)
    → InsideOnly now after × ((ts : Tokens) (outer : Word) (list : List Declaration) → SpelledIn now ts → n ≡ length ts → MarkedFrom now ts outer list 0
    → MeantTo after ts outer list n)
    → InsideOnly entry after × ((ts : Tokens) (list : List Declaration) → Lists entry decls ts list → m ≡ length list → n ≡ length ts
    → MeantTo after ts (word_at ts 0) list n)
all_given f g h = (
  inside_then (inside_then f.0 g.0) h.0,
  λ ts list l e c.
      let lists = lists_still f.0 l in
      h.1 ts (word_at ts 0) list (table_still g.0 lists.table) c (g.1 ts list lists e (rw c at f.1)),
)
