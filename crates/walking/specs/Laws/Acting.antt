-- What a token does, by its kind.
use Rattle.std.specs.Prelude.{ℕ, zero, suc, ◌+◌, ◌*◌, ◌<◌, ◌≤◌, ◌≡◌, refl, Bool, true, false, List, eqb, ltb, length, drop}
use Rattle.std.proofs.Common.{sym, ap, ◌∙◌, subst, arith}
use borrow.Author.Tests.{eq-eqb, ne_eqb}
use Rattle.cells.specs.Cells.{cell}
use Rattle.rules.specs.Text.Tokens.{kind_no, Name, LPar, Comma, BEGIN, END}
use Rattle.rules.specs.Limits.{deepest}
use Rattle.bounds.specs.Cited.Counts.{endless}
use Rattle.records.specs.Holds.{kind_byte}
use Rattle.records.specs.Words.{word_at}
use Rattle.reading.specs.Kinds.{next_no}
use Rattle.reading.specs.Reading.{Kinded, Reading, table_of}
use Rattle.reading.specs.Laws.Reading.{kinded}
use Rattle.counting.specs.Machine.{State, opened, closed, another, counted, turned, takes_step, turns, acting, named, acted}
use Rattle.counting.specs.Holding.{Shows, Standing, Does}
use Rattle.reading.specs.Indexes.{index_of}
use Rattle.walking.specs.Walking.{Scene, Acting, Acted, Named, Activates, word, behind}
use Rattle.counting.specs.declared.counts.Nest.{Nest}

module _ {records table room : List ℕ} {m n i : ℕ} {x : Nest} (a : Acting records table room m n i x) where
  pub few_declared : m ≤ 256
  few_declared = a.scene.reading.ready.few

  pub acting_kinds : Kinded records n
  acting_kinds = kinded a.scene.reading

  pub standing : Standing room x
  standing = (a.state, a.shows)

  -- an activation
  module _ (name : kind_byte records i ≡ kind_no Name) {k inside : ℕ}
      (index : (decls : List ℕ) (n : ℕ) (v : Reading records decls m n) → i < n → kind_byte records i ≡ kind_no Name → k ≡ index_of (table_of v) (word_at v.tokens i))
      (is : inside ≡ cell 8 table k) where
    inside_is : (g : Scene records table m n) → inside ≡ g.counts (word g i)
    inside_is g = is ∙ (ap (cell 8 table) (index g.decls n g.reading a.within name) ∙ g.knows (word g i))

    pub inside_low : inside ≤ endless
    inside_low = omega (arith, inside_is a.scene, a.scene.low (word a.scene i))

    pub activates : {r : Nest} → ((room : List ℕ) → Does (counted (1 + inside)) room x room r) → Activates records table m n i x r
    activates {r} d g room = subst (λ q. Does (counted (1 + q)) room x room r) (inside_is g) (d room)

pub table_room : {records table room : List ℕ} {m n i k : ℕ} {x : Nest} → Acting records table room m n i x → k ≤ 256 → 8 * k + 8 ≤ length table
table_room a h = omega (arith, a.scene.room)

-- a name
module _ {records table room : List ℕ} {m n i : ℕ} {x : Nest} (now : Acting records table room m n i x) {mode : ℕ} where
  pub name_elsewhere : (mode ≡ 0 → ⊥) → Named records table m n i mode x x
  name_elsewhere h g r = by mode h
    where
      by : (q : ℕ) → (q ≡ 0 → ⊥) → Does (named g.counts q (word g i) (behind g i)) r x r x
      by zero h = absurd (h refl)
      by (suc q) h = λ z s. s

  module _ (start : mode ≡ 0) {k : ℕ} (next : (v : Kinded records n) → k ≡ next_no (drop (i + 1) v.tokens)) where
    at_start : {r : Nest} (b : Bool) (g : Scene records table m n) (room : List ℕ) → eqb (behind g i) 3 ≡ b → Does (acting g.counts b (word g i)) room x room r
        → Does (named g.counts mode (word g i) (behind g i)) room x room r
    at_start {r} b g room e d z s =
        subst (λ q. Shows room r (named g.counts q (word g i) (behind g i) z)) (sym start) (subst (λ c. Shows room r (acting g.counts c (word g i) z)) (sym e) (d z s))

    pub name_rests : (k ≡ kind_no LPar → ⊥) → Named records table m n i mode x x
    name_rests h g room = at_start false g room (ne_eqb (behind g i) 3 (λ e. h (next (kinded g.reading) ∙ e))) (λ z s. s)

    pub name_activates : {r : Nest} → k ≡ kind_no LPar → Activates records table m n i x r → Named records table m n i mode x r
    name_activates h d g room = at_start true g room (eq-eqb (behind g i) 3 (sym (next (kinded g.reading)) ∙ h)) (d g room)

-- the arms by kinds
module _ {records table old : List ℕ} {m n i : ℕ} {x : Nest} (now : Acting records table old m n i x) (mode : ℕ) {kind : ℕ} (is : kind ≡ kind_byte records i) where
  module _ (g : Scene records table m n) where
    abbrev done : ℕ → State → State
    done q = acted g.counts mode q (word g i) (behind g i)

  arm : {new : List ℕ} {r : Nest} → ((g : Scene records table m n) → Does (done g kind) old x new r) → Acted records table old new m n i mode x r
  arm {new} {r} d g z s = subst (λ q. Shows new r (done g q z)) is (d g z s)

  module _ {new : List ℕ} {r : Nest} where
    by_kind : (q : ℕ) → kind ≡ q → ((g : Scene records table m n) → Does (done g q) old x new r) → Acted records table old new m n i mode x r
    by_kind q e d = arm (λ g z s. subst (λ k. Shows new r (done g k z)) (sym e) (d g z s))

    pub begin_acts : kind ≡ kind_no BEGIN → Does (λ z. opened (ltb (length z.frames) deepest) z) old x new r → Acted records table old new m n i mode x r
    unfolding acted
    begin_acts e d = by_kind 19 e (λ g. d)

    pub end_acts : kind ≡ kind_no END → Does (λ z. closed z.frames z) old x new r → Acted records table old new m n i mode x r
    unfolding acted
    end_acts e d = by_kind 20 e (λ g. d)

    pub comma_acts : kind ≡ kind_no Comma → Does (λ z. another z.frames z) old x new r → Acted records table old new m n i mode x r
    unfolding acted
    comma_acts e d = by_kind 9 e (λ g. d)

  module _ {r : Nest} where
    pub name_acts : kind ≡ kind_no Name → Named records table m n i mode x r → Acted records table old old m n i mode x r
    unfolding acted
    name_acts e d = by_kind 0 e (λ g. d g old)

  -- what is no name, BEGIN, END or comma
  module _ (a : kind ≡ kind_no Name → ⊥) (b : kind ≡ kind_no BEGIN → ⊥) (c : kind ≡ kind_no END → ⊥) (d : kind ≡ kind_no Comma → ⊥) where
    abbrev chosen : Bool → Bool → State → State
    chosen t w z = elim t [ true ↦ counted 1 z | false ↦ elim w [ true ↦ turned z | false ↦ z ] ]

    rest_is : (g : Scene records table m n) (z : State) → done g kind z ≡ chosen (takes_step kind) (turns kind) z
    unfolding acted
    rest_is g z = rw (ne_eqb kind 0 a, ne_eqb kind 19 b, ne_eqb kind 20 c, ne_eqb kind 9 d, acted)

    module _ {t : Bool} (u : t ≡ takes_step kind) where
      pub step_acts : {r : Nest} → t ≡ true → ((room : List ℕ) → Does (counted 1) room x room r) → Acted records table old old m n i mode x r
      step_acts {r} v f = arm (λ g z s. subst (Shows old r) (sym (rest_is g z ∙ ap (λ q. chosen q (turns kind) z) (sym u ∙ v))) (f old z s))

      module _ (v : t ≡ false) {w : Bool} (y : w ≡ turns kind) where
        turn_or : (e : Bool) → w ≡ e → (g : Scene records table m n) (z : State) → done g kind z ≡ chosen false e z
        turn_or e q g z = rest_is g z ∙ (ap (λ p. chosen p (turns kind) z) (sym u ∙ v) ∙ ap (λ p. chosen false p z) (sym y ∙ q))

        pub turn_acts : {r : Nest} → w ≡ true → ((room : List ℕ) → Does turned room x room r) → Acted records table old old m n i mode x r
        turn_acts {r} e f = arm (λ g z s. subst (Shows old r) (sym (turn_or true e g z)) (f old z s))

        pub other_acts : w ≡ false → Acted records table old old m n i mode x x
        other_acts e = arm (λ g z s. subst (Shows old x) (sym (turn_or false e g z)) s)
