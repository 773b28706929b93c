-- The arms of the functions that find what a declaration reaches.
-- Assumes nothing.
use Rattle.std.specs.Prelude.{ℕ, ◌<◌, ◌≤◌, ◌≡◌, refl, List, Some, None}
use Rattle.std.proofs.Common.{sym, ap, ◌∙◌, arith}
use Rattle.std.proofs.Math.Option.{Option, none, some}
use Rattle.std.proofs.Math.ListN.{get_elem?}
use Rattle.cells.specs.Cells.{cell}
use Rattle.rules.specs.Declarations.{Names as Span-of, BitNames, Target, Declared, declared_of, number_of, first_word, Reach, reach_number}
use Rattle.laws_orders.proofs.Orders.Tests.{impossible}
use Rattle.records.specs.Holds.{inside_cell}
use Rattle.table.specs.Ready.{table_of}
use Rattle.table.specs.Shown.{shown_words, shown_bits, shown_target}
use Rattle.table.specs.Views.{View, TargetStands, TargetAt}
use Rattle.table.specs.Laws.Views.{no_target, target_here}
use Rattle.table.specs.declared.views.Names.{Names}
use Rattle.table.specs.declared.views.Names.TheVariants.{Missing, Unnamed, Span}
use Rattle.promise.specs.Accesses.{left_name, right_name}
use Rattle.places.specs.Laws.Scene.{declared_here, listed_here, view_here, numbered}
use Rattle.places.specs.Spans.{LowIn}
use Rattle.places.specs.Bases.{BaseShows, BaseAt, LowUnder, MappingAt, LiesShown}
use Rattle.places.specs.Laws.Bases.{on_itself, on_another}
use Rattle.places.specs.declared.bases.Base.{Base}
use Rattle.places.specs.declared.bases.Lies.{Lies}

-- the bits that a mapping lies on, by their form
module _ {own on : Names} where
  pub under_missing : {d : ℕ} → on ≡ Missing → LowUnder own on d
  under_missing m b t e f = impossible (cc)

  pub under_unnamed : {d : ℕ} → on ≡ Unnamed → LowUnder own on d
  under_unnamed m b t e f = impossible (cc)

  pub under_span : {l r d : ℕ} → on ≡ Span l r → LowIn own r d → LowUnder own on d
  under_span {l} {r} m low b t e f = let q : r ≡ t.bits.right = cc in low b t.bits e q

-- words, by their form
module _ {words : Names} (w : Option Span-of) where
  pub words_missing : words ≡ Missing → words ≡ shown_words w → (0 ≡ left_name w) × (0 ≡ right_name w)
  words_missing m e = by w e
    where
      by : (w : Option Span-of) → words ≡ shown_words w → (0 ≡ left_name w) × (0 ≡ right_name w)
      by none e = (refl, refl)
      by (some s) e = impossible (cc)

  pub words_unnamed : {A : Type 0} → words ≡ Unnamed → words ≡ shown_words w → A
  words_unnamed {A} m e = by w e
    where
      by : (w : Option Span-of) → words ≡ shown_words w → A
      by none e = impossible (cc)
      by (some s) e = impossible (cc)

  pub words_span : {l r : ℕ} → words ≡ Span l r → words ≡ shown_words w → (l ≡ left_name w) × (r ≡ right_name w)
  words_span {l} {r} m e = by w e
    where
      by : (w : Option Span-of) → words ≡ shown_words w → (l ≡ left_name w) × (r ≡ right_name w)
      by none e = impossible (cc)
      by (some s) e = (cc, cc)

-- a mapping lies on the declaration that its target's cell numbers
module _ {records values decls firsts : List ℕ} {m p t : ℕ} where
  module _ {o : ℕ} (e : o ≡ inside_cell records t) where
    same_number : (v : MappingAt records values decls firsts m p t) (k : ℕ) → number_of (table_of v.scene) v.target.name.word ≡ some k → (k ≡ o) × (o < m)
    same_number v k q =
        let n = numbered v.scene t v.target.name k v.stands.within v.stands.name q in
        let i = n.0 in
        let b = n.1 in
        (omega arith, omega arith)

    pub no_number : {l : Lies} → m ≤ o → (v : MappingAt records values decls firsts m p t) → LiesShown v l
    no_number h v k d b q x y = absurd (omega (arith, (same_number v k q).1))

    module _ (h : o < m) where
      module _ {q : ℕ} (f : q ≡ cell 2 decls o) where
        abbrev pub under_view : MappingAt records values decls firsts m p t → View records values q
        under_view v = view_here v.scene h f

        pub lies_shown : {under on : Names} {low first : ℕ} → ((u : View records values q) → under ≡ shown_bits (declared_of u.declaration).bits)
            → ((u : View records values p) → on ≡ shown_target (declared_of u.declaration).target) → LowUnder under on low → first ≡ cell 2 firsts o
            → (v : MappingAt records values decls firsts m p t) → LiesShown v (record { first = first; low = low })
        lies_shown bits target low first v k d b n there has =
            let s = (same_number v k n).0 in
            let same : declared_here v.scene h ≡ d = cc (listed_here v.scene h, ap (get_elem? (table_of v.scene)) s) in
            let own : (declared_here v.scene h).bits ≡ some b = ap (λ (d : Declared). d.bits) same ∙ has in (
              first ∙ (v.hold.each o h ∙ ap (first_word (table_of v.scene)) (sym s)),
              low b v.target (bits (under_view v) ∙ ap shown_bits own) (target v.view ∙ ap shown_target v.is),
            )

-- what a declaration reaches
module _ {records values decls firsts : List ℕ} {m k : ℕ} where
  module _ {p : ℕ} (e : p ≡ cell 2 decls k) where
    abbrev pub base_view : BaseAt records values decls firsts m k → View records values p
    base_view v = view_here v.scene v.below e

    pub some_view : BaseAt records values decls firsts m k → (values : List ℕ) × View records values p
    some_view v = (values, base_view v)

    module _ {own : Names} (bits : (u : View records values p) → own ≡ shown_bits (declared_of u.declaration).bits) where
      own_shown : (v : BaseAt records values decls firsts m k) (b : BitNames) → (declared_here v.scene v.below).bits ≡ some b → own ≡ shown_bits (some b)
      own_shown v b q = bits (base_view v) ∙ ap shown_bits q

      pub storage_reached : ((values : List ℕ) (u : View records values p) → TargetAt u.tokens None (declared_of u.declaration).target) → {words : Names} → ((u : View records values p) → words ≡ shown_words (declared_of u.declaration).words)
          → {first : ℕ} → first ≡ cell 2 firsts k → {b : Base}
          → ((w : Option Span-of) → words ≡ shown_words w → (b.first ≡ first) × (b.left ≡ left_name w) × (b.right ≡ right_name w) × (b.low ≡ 0) × (b.own ≡ own))
          → (v : BaseAt records values decls firsts m k) (r : Reach) → reach_number (table_of v.scene) (some k) ≡ some r → BaseShows b r
      storage_reached target words first {b} f v r q =
          let d = declared_here v.scene v.below in
          let none : d.target ≡ none = no_target v.scene.tokens None d.target (target values (base_view v)) refl in
          let i = on_itself (table_of v.scene) k d (listed_here v.scene v.below) r q none in
          let g = f d.words (words (base_view v)) in
          record {
            first = g.0 ∙ (first ∙ (v.hold.each k v.below ∙ sym i.first));
            left = g.1 ∙ ap left_name (sym i.words);
            right = g.2 ∙ ap right_name (sym i.words);
            low = g.3 ∙ sym i.low;
            own = g.4 ∙ own_shown v r.bits i.own;
          }

      module _ {t : ℕ} (target : (values : List ℕ) (u : View records values p) → TargetAt u.tokens (Some t) (declared_of u.declaration).target) where
        pub the_target : (v : BaseAt records values decls firsts m k)
            → (g : Target) × ((declared_here v.scene v.below).target ≡ some g) × TargetStands v.scene.tokens t g
        the_target v = target_here v.scene.tokens (declared_here v.scene v.below).target (target values (base_view v))

        abbrev pub mapping_at : BaseAt records values decls firsts m k → MappingAt records values decls firsts m p t
        mapping_at v = record { scene = v.scene; hold = v.hold; view = base_view v; target = (the_target v).0; is = (the_target v).1; stands = (the_target v).2 }

        pub mapping_reached : {l : Lies} → ((w : MappingAt records values decls firsts m p t) → LiesShown w l)
            → (v : BaseAt records values decls firsts m k) (r : Reach) → reach_number (table_of v.scene) (some k) ≡ some r
            → BaseShows (record { first = l.first; left = 0; right = 0; low = l.low; own = own }) r
        mapping_reached f v r q =
            let g = the_target v in
            let a = on_another (table_of v.scene) k (declared_here v.scene v.below) (listed_here v.scene v.below) r q g.0 g.1 in
            let s = f (mapping_at v) a.number a.under a.bits a.numbers a.listed a.has_bits in
            record {
              first = s.0 ∙ sym a.first;
              left = sym (ap left_name a.words);
              right = sym (ap right_name a.words);
              low = s.1 ∙ sym a.low;
              own = own_shown v r.bits a.own;
            }
