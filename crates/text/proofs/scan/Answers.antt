-- `text::scan` meets its contract: what is written so far, and the scan of the rest, come to the whole scan.
-- Assumes nothing.
use borrow.Author.Rules.{rules}
use native.Mathlib.Omega.{arith}
use native.Mathlib.Nat.{zero-add}
use mathlib.Core.Path.{◌≡◌, refl, sym, ap, subst, ◌∙◌}
use mathlib.Core.List.{List}
use Prim.Native.Nat.{ℕ, ◌+◌, ◌-◌, ◌*◌, ◌^◌, ◌<◌, ◌≤◌}
use lib.ListN.{length, get_or, drop, length-drop}
use Rattle.cells.specs.Cells.{put_cell}
use Rattle.cells.proofs.Laws.{length_put}
use Rattle.rules.specs.Text.Bytes.{class_of, class_in}
use Rattle.rules.specs.Text.Tokens.{Token, kind_no}
use Rattle.rules.specs.Text.Scan.{Scan, End, fine, refuse, scan_end, followed, lexeme, bad_lexeme, scan}
use Rattle.classes.specs.Classes.{Classed}
use Rattle.classes.specs.Laws.Runs.{right, classed}
use Rattle.lexemes.specs.Lexemes.{size_of, lexeme_of}
use Rattle.text.specs.Laws.Lexemes.{nothing_back, refused_back, token_back, IsToken}
use Rattle.text.specs.Laws.Scans.{from, from_end, from_nothing, from_token, from_full, from_refused}
use Rattle.text.specs.Laws.Sound.{Sound, Placed, lexeme_sound}
use Rattle.text.specs.Table.{pack, record_of, record_cells, value_by, value_of, value_cells, write_cells, ended_at, scanned_of}
use Rattle.std.specs.Prelude.{Result, Ok, Err}
use Rattle.rules.specs.Refusals.{refusal_at}
use Rattle.rules.specs.declared.refusals.Refusal.{Refusal}
use Rattle.lexemes.specs.declared.lexemes.Lexeme.{Lexeme}
use Rattle.lexemes.specs.declared.lexemes.Lexeme.TheVariants.{Nothing, Token as At}
use Rattle.lexemes.specs.declared.lexemes.Token.{Token as Found}
use Rattle.lexemes.specs.declared.lexemes.Misspelling.{Misspelling}
use Rattle.lexemes.specs.Misspellings.{refusal_number}
use Rattle.lexemes.specs.Laws.Misspellings.{numbered}
use Rattle.text.proofs.scan.Invariants.{Inv, Left}
use Rattle.text.proofs.scan.Goals as goal

abbrev Done : List ℕ → List ℕ → List ℕ → Result ℕ Refusal → List ℕ → List ℕ → Type 0
Done text records₀ values₀ r records values =
    record {
      value : r ≡ scanned_of (scan text);
      records_after : records ≡ write_cells 8 records₀ 0 (record_cells (scan text).tokens);
      values_after : values ≡ write_cells 8 values₀ 0 (value_cells 0 (scan text).tokens);
    }

module _ {text records₀ values₀ records values : List ℕ} {count before : ℕ} where
  stored : (t : Token) (s : Scan) {x y f : ℕ} {records' values' : List ℕ} → x ≡ record_of t → y ≡ value_of before t → f ≡ t.info.free
      → records' ≡ put_cell 8 records count x → values' ≡ put_cell 8 values count y
      → Left text records₀ values₀ (followed t s) records values count before → Left text records₀ values₀ s records' values' (count + 1) f
  unfolding write_cells value_cells
  stored t s ex ey ef er ev l = record {
    answer = ap (λ (n : ℕ). ended_at n s.end) (omega arith) ∙ l.answer;
    in_records = rw (er, ex) l.in_records;
    in_values = rw (ev, ey, ef) l.in_values;
  }

  finished : (e : End) → Left text records₀ values₀ (scan_end e) records values count before → Done text records₀ values₀ (ended_at count e) records values
  unfolding write_cells value_cells
  finished e l = record { value = ap (λ (n : ℕ). ended_at n e) (omega arith) ∙ l.answer; records_after = l.in_records; values_after = l.in_values }

-- what the code writes is what the table has for a token
same_record : (t : Token) {x k s at : ℕ} → x ≡ pack k s at → k ≡ kind_no t.kind → s ≡ size_of t → t.info.place ≡ at → x ≡ record_of t
same_record t e kind size place = e ∙ rw (kind, size, place)

same_value : (t : Token) {y k v : ℕ} (before : ℕ) → y ≡ value_by k v before → k ≡ kind_no t.kind → v ≡ t.info.value → y ≡ value_of before t
same_value t before e kind value = e ∙ rw (kind, value)

starts : (text records values classes : List ℕ) → Classed classes → Inv text records values classes records values 0 0 0
unfolding scan
starts text records values classes e = record {
  classed = e;
  within = omega arith;
  few = omega arith;
  long_records = refl;
  long_values = refl;
  left = record { answer = rw zero-add; in_records = refl; in_values = refl };
}

module _ {text records₀ values₀ classes records values : List ℕ} {at count before : ℕ}
    (inv : Inv text records₀ values₀ classes records values at count before) where
  turned : {s : Scan} → from text at (8192 - count) ≡ s → Left text records₀ values₀ s records values count before
  turned e = subst (λ (s : Scan). Left text records₀ values₀ s records values count before) e inv.left

  ended_here : length text ≤ at → Done text records₀ values₀ (Ok count) records values
  ended_here h = finished fine (turned (from_end text at (8192 - count) h))

  module _ (h : at < length text) {l : Result Lexeme Misspelling} (found : l ≡ lexeme_of (lexeme at (get_or text at 0) (drop (at + 1) text))) where
    room : length (drop (at + 1) text) ≡ length text - (at + 1)
    room = length-drop (at + 1) text

    module _ {n : ℕ} (e : l ≡ Ok (Nothing n)) where
      nothing_fits : at + (n + 1) ≤ length text
      nothing_fits =
          let is : lexeme at (get_or text at 0) (drop (at + 1) text) ≡ _ = nothing_back _ n (sym e ∙ found) in
          omega (arith, room, subst (Sound at (length (drop (at + 1) text))) is (lexeme_sound at (get_or text at 0) (drop (at + 1) text)))

      nothing_more : length text ≤ 32768 → n + 1 < 2 ^ 64
      nothing_more short = omega (arith, nothing_fits)

      nothing_sum : length text ≤ 32768 → at + (n + 1) < 2 ^ 64
      nothing_sum short = omega (arith, nothing_fits)

      nothing_less : length text - (at + (n + 1)) < length text - at
      nothing_less = omega (arith, nothing_fits)

      nothing_passed : Inv text records₀ values₀ classes records values (at + (n + 1)) count before
      nothing_passed = record {
        classed = inv.classed;
        within = nothing_fits;
        few = inv.few;
        long_records = inv.long_records;
        long_values = inv.long_values;
        left = turned (from_nothing text at h (8192 - count) n (nothing_back _ n (sym e ∙ found)));
      }

    refused_here : {x : Misspelling} {m : ℕ} → l ≡ Err x → m ≡ refusal_number x → Done text records₀ values₀ (Err (refusal_at m at)) records values
    refused_here {x} {m} e q =
        let is : lexeme at (get_or text at 0) (drop (at + 1) text) ≡ bad_lexeme (refusal_number x) =
        refused_back _ x (numbered at (get_or text at 0) (drop (at + 1) text)) (sym e ∙ found) in
        finished (refuse m at) (turned (from_refused text at h (8192 - count) m (is ∙ ap bad_lexeme (sym q))))

    module _ {t : Found} (e : l ≡ Ok (At t)) where
      back : IsToken (lexeme at (get_or text at 0) (drop (at + 1) text)) t.more t.kind t.size t.value t.free
      back = token_back _ t (sym e ∙ found)

      placed : Placed at (length (drop (at + 1) text)) t.more back.it
      placed = subst (Sound at (length (drop (at + 1) text))) back.is (lexeme_sound at (get_or text at 0) (drop (at + 1) text))

      token_fits : at + (t.more + 1) ≤ length text
      token_fits = omega (arith, room, placed.within)

      token_more : length text ≤ 32768 → t.more + 1 < 2 ^ 64
      token_more short = omega (arith, token_fits)

      token_sum : length text ≤ 32768 → at + (t.more + 1) < 2 ^ 64
      token_sum short = omega (arith, token_fits)

      token_less : length text - (at + (t.more + 1)) < length text - at
      token_less = omega (arith, token_fits)

      full : count ≡ 8192 → Done text records₀ values₀ (Err (refusal_at 13 at)) records values
      full c = finished (refuse 13 at) (turned (from_full text at h (8192 - count) t.more back.it back.is (omega arith)))

      token_passed : {x y : ℕ} {records' values' : List ℕ} → (count ≡ 8192 → ⊥) → y ≡ value_by t.kind t.value before → x ≡ pack t.kind t.size at
          → records' ≡ put_cell 8 records count x → values' ≡ put_cell 8 values count y
          → Inv text records₀ values₀ classes records' values' (at + (t.more + 1)) (count + 1) t.free
      token_passed {x} {y} more ey ex er ev =
          let fewer : 8192 - count - 1 ≡ 8192 - (count + 1) = omega arith in
          let rest : from text at (8192 - count) ≡ followed back.it (from text (at + (t.more + 1)) (8192 - (count + 1)))
          = rw fewer at (from_token text at h (8192 - count) t.more back.it back.is (omega (arith, inv.few))) in
          record {
            classed = inv.classed;
            within = token_fits;
            few = omega (arith, inv.few);
            long_records = rw er (length_put 8 records (8 * count) x ∙ inv.long_records);
            long_values = rw ev (length_put 8 values (8 * count) y ∙ inv.long_values);
            left =
                stored back.it _ (same_record back.it ex back.kind back.size placed.place)
                (same_value back.it before ey back.kind back.value) back.free er ev (turned rest);
          }

pub loop-at-init : goal.loop-at-init
unfolding right class_of class_in
loop-at-init c = starts _ _ _ _ (classed _ refl tt)

pub overflow_add-at : goal.overflow_add-at
unfolding right class_of class_in
overflow_add-at c = search (rules, nothing_more c.loop-at.invariant c.loop-at-test.true c.lexeme_at.ensures (c.in-Ok-Nothing.is ∙ ap Ok c.in-Ok-Nothing.field-0-is))

pub overflow_add-at-in-Ok-Nothing : goal.overflow_add-at-in-Ok-Nothing
unfolding right class_of class_in
overflow_add-at-in-Ok-Nothing c = search (rules, nothing_sum c.loop-at.invariant c.loop-at-test.true c.lexeme_at.ensures (c.in-Ok-Nothing.is ∙ ap Ok c.in-Ok-Nothing.field-0-is))

pub loop-at-smaller-in-Ok-Nothing : goal.loop-at-smaller-in-Ok-Nothing
unfolding right class_of class_in
loop-at-smaller-in-Ok-Nothing c = nothing_less c.loop-at.invariant c.loop-at-test.true c.lexeme_at.ensures (c.in-Ok-Nothing.is ∙ ap Ok c.in-Ok-Nothing.field-0-is)

pub loop-at-preserved-in-Ok-Nothing : goal.loop-at-preserved-in-Ok-Nothing
unfolding right class_of class_in
loop-at-preserved-in-Ok-Nothing c = nothing_passed c.loop-at.invariant c.loop-at-test.true c.lexeme_at.ensures (c.in-Ok-Nothing.is ∙ ap Ok c.in-Ok-Nothing.field-0-is)

pub returns-then-count-eq-MOST_TOKENS : goal.returns-then-count-eq-MOST_TOKENS
unfolding right class_of class_in
returns-then-count-eq-MOST_TOKENS c =
    full c.loop-at.invariant c.loop-at-test.true c.lexeme_at.ensures (c.in-Ok-Token.is ∙ ap Ok c.in-Ok-Token.field-0-is)
    c.if-count-eq-MOST_TOKENS.true

pub overflow_add-at-in-Ok-Token : goal.overflow_add-at-in-Ok-Token
unfolding right class_of class_in
overflow_add-at-in-Ok-Token c = search (rules, token_more c.loop-at.invariant c.loop-at-test.true c.lexeme_at.ensures (c.in-Ok-Token.is ∙ ap Ok c.in-Ok-Token.field-0-is))

pub overflow_add-at-in-Ok-Token-2 : goal.overflow_add-at-in-Ok-Token-2
unfolding right class_of class_in
overflow_add-at-in-Ok-Token-2 c = search (rules, token_sum c.loop-at.invariant c.loop-at-test.true c.lexeme_at.ensures (c.in-Ok-Token.is ∙ ap Ok c.in-Ok-Token.field-0-is))

pub loop-at-smaller : goal.loop-at-smaller
unfolding right class_of class_in
loop-at-smaller c = token_less c.loop-at.invariant c.loop-at-test.true c.lexeme_at.ensures (c.in-Ok-Token.is ∙ ap Ok c.in-Ok-Token.field-0-is)

-- a token is stored, and the three ways out
pub loop-at-preserved : goal.loop-at-preserved
unfolding right class_of class_in
loop-at-preserved c =
    token_passed c.loop-at.invariant c.loop-at-test.true c.lexeme_at.ensures
    (c.in-Ok-Token.is ∙ ap Ok c.in-Ok-Token.field-0-is) c.if-count-eq-MOST_TOKENS.false c.value_cell-cell.ensures c.packed.ensures c.put_token.ensures.records_after
    c.put_token.ensures.values_after

pub returns-in-Err : goal.returns-in-Err
unfolding right class_of class_in
returns-in-Err c =
    refused_here c.loop-at.invariant c.loop-at-test.true c.lexeme_at.ensures c.in-Err.is c.number.ensures

pub returns : goal.returns
unfolding right class_of class_in
returns c = ended_here c.loop-at.invariant c.loop-at-test.false
