-- Laws of hints: putting one changes no label, and a label that a hint leads to is known.
-- Assumes nothing.
use Rattle.std.specs.Prelude.{ℕ, zero, suc, ◌+◌, ◌-◌, ◌*◌, ◌<◌, ◌≤◌, ◌≡◌, Bool, true, ◌||◌, List, length}
use Rattle.std.proofs.Common.{sym, ap, ◌∙◌, arith}
use Rattle.std.proofs.Math.Bool.{or-true}
use Rattle.std.proofs.Math.Decide.{dec_lt}
use Rattle.rules.specs.Text.Tokens.{Name, kind_no}
use Rattle.cells.specs.Cells.{cell, put_cell}
use Rattle.cells.proofs.Laws.{length_put, cell_other}
use Rattle.rules.specs.Text.Scan.{same_bytes}
use Rattle.rules.specs.Grammar.Trees.{Tokens}
use Rattle.rules.specs.Declarations.{Word}
use Rattle.rules.specs.Faults.Declared.{is_known}
use Rattle.records.specs.Holds.{kind_byte, Tabled}
use Rattle.records.specs.Words.{word_at, TwoNames, same_words}
use Rattle.scopes.specs.Hints.{Hinting}
use Rattle.room.specs.Whole.{scopes_end}
use Rattle.scopes.specs.Labels.{Labelled, names_from, Pushed}
use Rattle.scopes.specs.Laws.Labels.{two_words, scope_kept}

pub hinting : {old new : List ℕ} (at p : ℕ) → scopes_end ≤ at → new ≡ put_cell 2 old at p → Hinting old new
hinting {old} {new} at p h e = record {
  size = ap length e ∙ length_put 2 old (2 * at) p;
  kept = λ j l. ap (λ b. cell 2 b j) e ∙ cell_other 2 old at p j (λ q. omega arith);
}

-- a label that was pushed stays, with a hint to it
pub pushed_hinted : {text records old mid new : List ℕ} {n i base top r : ℕ} → Pushed text records old mid n i base top r → r ≤ scopes_end → Hinting mid new
    → Pushed text records old new n i base top r
pushed_hinted {r = r} p l h = record {
  low = p.low;
  high = p.high;
  kept = λ j m q. h.kept j m ∙ p.kept j m q;
  labelled = λ x. let y = p.labelled x in record {
    room = omega (arith, y.room, h.size);
    inside = λ j m. rw (h.kept j (omega arith)) (y.inside j m);
    names = λ j m. rw (h.kept j (omega arith)) (y.names j m);
  };
  scope = λ v s x. scope_kept r (omega arith) (λ j m. h.kept j (omega arith)) (p.scope v s x);
}

-- THE LABEL THAT A HINT LEADS TO
known_from : (ts : Tokens) (labels : List ℕ) (w : Word) (base k c : ℕ) → k < c → same_bytes (word_at ts (cell 2 labels (base + k))) w ≡ true
    → is_known w (names_from ts labels base c) ≡ true
unfolding names_from is_known
known_from ts labels w base k zero l e = absurd (omega arith)
known_from ts labels w base k (suc c) l e = by (dec_lt k c) (λ m. known_from ts labels w base k c m e)
  where
    by : Dec (k < c) → (k < c → is_known w (names_from ts labels base c) ≡ true) → is_known w (names_from ts labels base (suc c)) ≡ true
    by (yes m) f = ap (◌||◌ (same_bytes (word_at ts (cell 2 labels (base + c))) w)) (f m) ∙ or-true (same_bytes (word_at ts (cell 2 labels (base + c))) w)
    by (no m) f =
        let last : c ≡ k = omega arith in
        ap (λ b. b || is_known w (names_from ts labels base c)) (ap (λ x. same_bytes (word_at ts (cell 2 labels (base + x))) w) last ∙ e)

module _ {text records labels : List ℕ} {n top name k label : ℕ} (labelled : Labelled records labels n top) (inside : name < n) (is_name : kind_byte records name ≡ kind_no Name)
    (high : k < top) (at : label ≡ cell 2 labels k) where
  abbrev pub hinted_pair : Tabled text records n → TwoNames text records label name
  hinted_pair v = two_words v label name (rw at (labelled.inside k high)) (rw at (labelled.names k high)) inside is_name

  pub hinted_known : (base : ℕ) → base ≤ k → {r : Bool} → ((w : TwoNames text records label name) → r ≡ same_words w) → (v : Tabled text records n) → r ≡ true
      → is_known (word_at v.tokens name) (names_from v.tokens labels base (top - base)) ≡ true
  hinted_known base low {r} same v e =
      let there : base + (k - base) ≡ k = omega arith in
      known_from v.tokens labels (word_at v.tokens name) base (k - base) (top - base) (omega arith)
      (ap (λ x. same_bytes (word_at v.tokens (cell 2 labels x)) (word_at v.tokens name)) there
      ∙ ap (λ x. same_bytes (word_at v.tokens x) (word_at v.tokens name)) (sym at) ∙ sym (same (hinted_pair v)) ∙ e)
