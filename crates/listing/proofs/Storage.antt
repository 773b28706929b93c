-- Laws of the lines of one declaration.
-- Assumes nothing.
use Prim.Native.Nat.{ℕ, ◌+◌, ◌*◌, ◌≤◌}
use mathlib.Core.Path.{◌≡◌, refl, sym, ap, ◌∙◌}
use mathlib.Core.List.{List, []}
use mathlib.Core.Option.{Option, none, some}
use native.Mathlib.Omega.{arith}
use Rattle.cells.specs.Cells.{cell}
use Rattle.rules.specs.Text.Tokens.{Token}
use Rattle.rules.specs.Declarations.{Word, Names, names, how_many, BitNames, Target, declared_of, storage_words}
use Rattle.records.specs.Words.{NameAt}
use Rattle.records.specs.Laws.Words.{word_folded, word_inside}
use Rattle.table.specs.Views.{View}
use Rattle.table.specs.Laws.Views.{name_token}
use Rattle.table.specs.Shown.{shown_words}
use Rattle.table.specs.declared.views.Names.{Names as Shown}
use Rattle.table.specs.declared.views.Names.TheVariants.{Missing, Unnamed, Span}
use Rattle.lines.specs.Appended.{Appended}
use Rattle.lines.specs.Laws.Appended.{nothing_more}
use Rattle.listing.specs.Standing.{name_bytes, NameStands, Stands, Counted}
use Rattle.listing.specs.Listing.{word_line, array_lines, storage_lines, declaration_lines}

module _ {text records values : List ℕ} {p : ℕ} (s : Stands text records values p) where
  abbrev pub view_of : View records values p
  view_of = record { text = text; tokens = s.tokens; holds = s.holds; declaration = s.declaration; stands = s.stands }

  here : NameAt s.tokens p
  here = let t = name_token s.stands in record { within = t.0; kind = ap (λ (x : Token). x.kind) t.1 }

  pub name_stands : NameStands text records p
  name_stands =
      let e = s.holds.entry p here.within in
      record {
        room = omega (arith, here.within, s.holds.record_room);
        inside = word_inside s.holds here;
        short = omega (arith, e.size, e.small);
      }

  pub name_is : name_bytes text records p ≡ (declared_of s.declaration).name.word
  name_is = sym (word_folded s.holds here) ∙ ap (λ (x : Token). x.info.word) (name_token s.stands).1

-- the lines by the words' count and names
module _ (t : Option Target) (b : Option BitNames) where
  no_lines : (s : Option Names) (name : Word) (carriers : List ℕ) (w : ℕ) → storage_words t b s ≡ 0 → storage_lines t b s name carriers w ≡ []
  unfolding storage_words storage_lines how_many
  no_lines s name carriers w e = by t b s e
    where
      by : (t : Option Target) (b : Option BitNames) (s : Option Names) → storage_words t b s ≡ 0 → storage_lines t b s name carriers w ≡ []
      by (some t) b s e = refl
      by none none s e = refl
      by none (some b) none e = absurd (omega arith)
      by none (some b) (some s) e = absurd (omega arith)

  one_line : (s : Option Names) (name : Word) (carriers : List ℕ) (w : ℕ) → (storage_words t b s ≡ 0 → ⊥) → Missing ≡ shown_words s
      → storage_lines t b s name carriers w ≡ word_line name (cell 8 carriers w)
  unfolding storage_words storage_lines
  one_line s name carriers w d e = by t b s d e
    where
      by : (t : Option Target) (b : Option BitNames) (s : Option Names) → (storage_words t b s ≡ 0 → ⊥) → Missing ≡ shown_words s
          → storage_lines t b s name carriers w ≡ word_line name (cell 8 carriers w)
      by (some t) b s d e = absurd (d refl)
      by none none s d e = absurd (d refl)
      by none (some b) none d e = refl
      by none (some b) (some s) d e = absurd (let z : ◌≡◌ {A = ℕ} 0 1 = cc in omega arith)

  record ArrayOf (s : Option Names) (left right : ℕ) (name : Word) (carriers : List ℕ) (w : ℕ) : Type 0 where
    pub count : storage_words t b s ≡ how_many (names left right)
    pub lines : storage_lines t b s name carriers w ≡ array_lines name (names left right) carriers w 0 (how_many (names left right))

  array_of : (s : Option Names) (left right : ℕ) (name : Word) (carriers : List ℕ) (w : ℕ) → (storage_words t b s ≡ 0 → ⊥) → Span left right ≡ shown_words s
      → ArrayOf s left right name carriers w
  unfolding storage_words storage_lines
  array_of s left right name carriers w d e = record { count = count t b s d e; lines = lines t b s d e }
    where
      count : (t : Option Target) (b : Option BitNames) (s : Option Names) → (storage_words t b s ≡ 0 → ⊥) → Span left right ≡ shown_words s
          → storage_words t b s ≡ how_many (names left right)
      count (some t) b s d e = absurd (d refl)
      count none none s d e = absurd (d refl)
      count none (some b) none d e = absurd (let z : ◌≡◌ {A = ℕ} 0 1 = cc in omega arith)
      count none (some b) (some s) d e = let l : left ≡ s.left = cc in let r : right ≡ s.right = cc in rw (l, r)

      lines : (t : Option Target) (b : Option BitNames) (s : Option Names) → (storage_words t b s ≡ 0 → ⊥) → Span left right ≡ shown_words s
          → storage_lines t b s name carriers w ≡ array_lines name (names left right) carriers w 0 (how_many (names left right))
      lines (some t) b s d e = absurd (d refl)
      lines none none s d e = absurd (d refl)
      lines none (some b) none d e = absurd (let z : ◌≡◌ {A = ℕ} 0 1 = cc in omega arith)
      lines none (some b) (some s) d e = let l : left ≡ s.left = cc in let r : right ≡ s.right = cc in rw (l, r)

never_unnamed : (s : Option Names) → Unnamed ≡ shown_words s → ⊥
never_unnamed none e = let z : ◌≡◌ {A = ℕ} 0 1 = cc in omega arith
never_unnamed (some s) e = let z : ◌≡◌ {A = ℕ} 0 1 = cc in omega arith

-- what is appended for a declaration of n words
module _ {text records values : List ℕ} {p n : ℕ} (c : Counted text records values p n) (carriers : List ℕ) (w : ℕ) where
  pub nothing_listed : {buffer : List ℕ} {at : ℕ} → n ≡ 0
      → ((v : Stands text records values p) → Appended buffer buffer at at (declaration_lines carriers w (declared_of v.declaration))) × (at ≤ at + 128 * n)
  nothing_listed z = (
    λ v.
        let d = declared_of v.declaration in
        rw (no_lines d.target d.bits d.words d.name.word carriers w (sym (c.words v) ∙ z)) nothing_more,
    omega arith,
  )

  module _ (some_words : n ≡ 0 → ⊥) {shown : Shown} (shows : (v : View records values p) → shown ≡ shown_words (declared_of v.declaration).words) where
    pub word_listed : {before after : List ℕ} {at r x : ℕ} → shown ≡ Missing → x ≡ cell 8 carriers w
        → Appended before after at r (word_line (name_bytes text records p) x) × (r ≤ at + 128)
        → ((v : Stands text records values p) → Appended before after at r (declaration_lines carriers w (declared_of v.declaration))) × (r ≤ at + 128 * n)
    word_listed e f (h, q) = (
      λ v.
          let d = declared_of v.declaration in
          rw (one_line d.target d.bits d.words d.name.word carriers w (λ z. some_words (c.words v ∙ z)) (sym e ∙ shows (view_of v)), ← name_is v, ← f) h,
      omega arith,
    )

    pub array_count : (left right : ℕ) → shown ≡ Span left right → n ≡ how_many (names left right)
    array_count left right e =
        let v = c.stands in
        let d = declared_of v.declaration in
        c.words v ∙ (array_of d.target d.bits d.words left right [] carriers w (λ z. some_words (c.words v ∙ z)) (sym e ∙ shows (view_of v))).count

    pub array_listed : {before after : List ℕ} {at r : ℕ} (left right : ℕ) → shown ≡ Span left right
        → Appended before after at r (array_lines (name_bytes text records p) (names left right) carriers w 0 n) × (r ≤ at + 128 * n)
        → ((v : Stands text records values p) → Appended before after at r (declaration_lines carriers w (declared_of v.declaration))) × (r ≤ at + 128 * n)
    array_listed left right e (h, q) = (
      λ v.
          let d = declared_of v.declaration in
          rw ((array_of d.target d.bits d.words left right d.name.word carriers w (λ z. some_words (c.words v ∙ z)) (sym e ∙ shows (view_of v))).lines, ← name_is v, ← array_count left right e) h,
      q,
    )

    pub never_listed : {before after : List ℕ} {at r : ℕ} → shown ≡ Unnamed
        → ((v : Stands text records values p) → Appended before after at r (declaration_lines carriers w (declared_of v.declaration))) × (r ≤ at + 128 * n)
    never_listed e =
        let v = c.stands in
        absurd (never_unnamed (declared_of v.declaration).words (sym e ∙ shows (view_of v)))
