-- Laws of what a mapping lies on: the declaration that its target's name means.
-- Assumes nothing.
use Prim.Native.Nat.{ℕ, ◌+◌, ◌*◌, ◌<◌, ◌≤◌}
use mathlib.Core.Path.{◌≡◌, refl, sym, ap, ◌∙◌}
use mathlib.Core.Bool.{Bool, true, false, not, ◌||◌}
use mathlib.Core.List.{List}
use mathlib.Core.Option.{Option, none, some}
use native.Mathlib.Omega.{arith}
use lib.ListN.{length, length-map}
use Rattle.cells.specs.Cells.{cell}
use Rattle.rules.specs.Text.Tokens.{Token}
use Rattle.rules.specs.Text.Scan.{same_bytes}
use Rattle.rules.specs.Grammar.Trees.{Tokens}
use Rattle.rules.specs.Declarations.{declared_of, Target, number_of}
use Rattle.rules.specs.Faults.Declared.{good_target, declared_at, bad_mapping}
use Rattle.rules.specs.Limits.{most_tokens}
use Rattle.records.specs.Holds.{inside_cell}
use Rattle.table.specs.Kth.{map_found}
use Rattle.table.specs.Declarations.{declaration_list}
use Rattle.records.specs.Words.{NameAt, word_at, TwoNames, same_words}
use Rattle.table.specs.Views.{View, TargetAt}
use Rattle.table.specs.Laws.Views.{no_target}
use Rattle.std.specs.Prelude.{Some, None}
use Rattle.table.specs.Lookups.{nth}
use Rattle.table.specs.Meaning.{meaning_by, meaning_of}
use Rattle.declare.specs.Listed.{Listed, outer_of, table_of, Chosen, chosen_of}
use Rattle.declare.proofs.Choosing.{chosen_room, outer_word, outer_and, chosen_view, number_below}

-- a name of a table: the declaration that it means
module _ {text records values decls : List ℕ} {m i : ℕ} (v : Listed text records values decls m) (n : NameAt v.tokens i) where
  pub name_record : 8 * i + 8 ≤ length records
  name_record = omega (arith, n.within, v.holds.record_room)

  few_declared : m ≤ most_tokens
  few_declared = omega (arith, v.count, v.hold.few)

  means_by : inside_cell records i ≡ meaning_by (number_of (table_of v) (word_at v.tokens i)) (same_bytes (outer_of v) (word_at v.tokens i))
  unfolding meaning_of
  means_by = v.means.means i n.within n.kind

  number_small : (j : ℕ) → number_of (table_of v) (word_at v.tokens i) ≡ some j → j < m
  unfolding number_of
  number_small j e = omega (arith, number_below (word_at v.tokens i) 0 j (table_of v) e, length-map (declaration_list v.description) declared_of, v.count)

  module _ {j : ℕ} (e : j ≡ inside_cell records i) where
    pub found_nowhere : m ≤ j → number_of (table_of v) (word_at v.tokens i) ≡ none
    found_nowhere z = by (number_of (table_of v) (word_at v.tokens i)) refl (e ∙ means_by)
      where
        by : (o : Option ℕ) → number_of (table_of v) (word_at v.tokens i) ≡ o → j ≡ meaning_by o (same_bytes (outer_of v) (word_at v.tokens i))
            → number_of (table_of v) (word_at v.tokens i) ≡ none
        by none s q = s
        by (some h) s q = absurd (omega (arith, number_small h s))

    pub found_there : j < m → number_of (table_of v) (word_at v.tokens i) ≡ some j
    found_there l = by (number_of (table_of v) (word_at v.tokens i)) (same_bytes (outer_of v) (word_at v.tokens i)) refl (e ∙ means_by)
      where
        by : (o : Option ℕ) (b : Bool) → number_of (table_of v) (word_at v.tokens i) ≡ o → j ≡ meaning_by o b
            → number_of (table_of v) (word_at v.tokens i) ≡ some j
        by (some h) b s q = s ∙ ap some (sym q)
        by none true s q = absurd (omega (arith, few_declared))
        by none false s q = absurd (omega (arith, few_declared))

abbrev pub chosen_at : {text records values decls : List ℕ} {m j : ℕ} (v : Listed text records values decls m) → j < m → Chosen text records values decls m j
chosen_at {j = j} v l =
    let n = nth (declaration_list v.description) j (omega (arith, v.count)) in record { listed = v; declaration = n.declaration; found = n.found }

-- a target's name is the token t
record Aimed (ts : Tokens) (t : ℕ) (o : Option Target) : Type 0 where
  pub target : Target
  pub is : o ≡ some target
  pub name : NameAt ts t
  pub word : word_at ts t ≡ target.name.word

aim : (ts : Tokens) (t : ℕ) (o : Option Target) → TargetAt ts (Some t) o → Aimed ts t o
aim ts t none a = absurd a
aim ts t (some x) a = record {
  target = x;
  is = refl;
  name = record { within = a.within; kind = ap (λ (y : Token). y.kind) a.name };
  word = ap (λ (y : Token). y.info.word) a.name;
}

module _ (text records values decls : List ℕ) (m k : ℕ) {p : ℕ} (place : p ≡ cell 2 decls k) where
  abbrev Bad : Bool → Type 0
  Bad b = (v : Chosen text records values decls m k) → b ≡ bad_mapping (outer_of v.listed) (table_of v.listed) (chosen_of v) (chosen_of v).target

  pub no_mapping : ((values : List ℕ) (v : View records values p) → TargetAt v.tokens None (declared_of v.declaration).target) → Bad false
  unfolding bad_mapping
  no_mapping target v = rw (no_target v.listed.tokens None (chosen_of v).target (target values (chosen_view v place)) refl)

  module _ {t : ℕ} (target : (values : List ℕ) (v : View records values p) → TargetAt v.tokens (Some t) (declared_of v.declaration).target) where
    aimed : (v : Chosen text records values decls m k) → Aimed v.listed.tokens t (chosen_of v).target
    aimed v = aim v.listed.tokens t (chosen_of v).target (target values (chosen_view v place))

    pub target_and_outer : Chosen text records values decls m k → TwoNames text records 0 t
    target_and_outer v = outer_and v.listed (aimed v).name

    pub target_record : Chosen text records values decls m k → 8 * t + 8 ≤ length records
    target_record v = name_record v.listed (aimed v).name

    module _ {a : Bool} (outer : (w : TwoNames text records 0 t) → a ≡ same_words w) where
      -- the target, looked up
      opened : (v : Chosen text records values decls m k)
          → bad_mapping (outer_of v.listed) (table_of v.listed) (chosen_of v) (chosen_of v).target
          ≡ (a || not (good_target (chosen_of v).bits (aimed v).target.bits
          (declared_at (table_of v.listed) (number_of (table_of v.listed) (word_at v.listed.tokens t)))))
      unfolding bad_mapping
      opened v =
          let x = aimed v in
          let same : same_bytes (outer_of v.listed) x.target.name.word ≡ a
          = sym (outer (outer_and v.listed x.name) ∙ rw (outer_word v.listed, x.word)) in
          rw (x.is, same, x.word)

      pub outer_target : a ≡ true → Bad true
      outer_target y v = sym (opened v ∙ rw y)

      module _ {j : ℕ} (meaning : j ≡ inside_cell records t) (not_outer : a ≡ false) where
        pub unknown_target : m ≤ j → Bad true
        unknown_target z v = sym (opened v ∙ rw (not_outer, found_nowhere v.listed (aimed v).name meaning z))

        module _ (known : j < m) where
          there : (v : Chosen text records values decls m k) → number_of (table_of v.listed) (word_at v.listed.tokens t) ≡ some j
          there v = found_there v.listed (aimed v).name meaning known

          abbrev found : Chosen text records values decls m k → Chosen text records values decls m j
          found v = chosen_at v.listed known

          pub target_room : Chosen text records values decls m k → 2 * j + 2 ≤ length decls
          target_room v = chosen_room (found v)

          pub both_views : {q : ℕ} → q ≡ cell 2 decls j → Chosen text records values decls m k → View records values p × View records values q
          both_views e v = (chosen_view v place, chosen_view (found v) e)

          pub judged_target : {q : ℕ} {g : Bool} → q ≡ cell 2 decls j
              → ((v : View records values p) (w : View records values q) (x : Target) → (declared_of v.declaration).target ≡ some x
              → g ≡ good_target (declared_of v.declaration).bits x.bits (some (declared_of w.declaration))) → Bad (not g)
          judged_target e good v =
              let c = found v in
              let at : declared_at (table_of v.listed) (some j) ≡ some (chosen_of c)
              = map_found (declaration_list v.listed.description) j c.declaration c.found in
              sym (opened v ∙ rw (not_outer, there v, at) (ap not (sym (good (chosen_view v place) (chosen_view c e) (aimed v).target (aimed v).is))))
