-- Laws of the first two passes: the refusals of the scan and of the grammar, and the table of a description.
use Rattle.std.specs.Prelude.{ℕ, zero, suc, ◌*◌, ◌<◌, ◌≤◌, ◌≡◌, Bool, List, [], ◌∷◌, ⊤, Result, Ok, Err}
use Rattle.std.proofs.Math.Path.{refl, sym}
use Rattle.std.proofs.Common.{ap, ◌∙◌, subst, subst₂, arith}
use Rattle.std.proofs.Math.Bool.{true, false}
use borrow.Author.Tests.{ltb-true, ltb-false}
use Rattle.std.proofs.Math.Dec.{ltb}
use Rattle.std.proofs.Math.ListN.{length}
use Rattle.rules.specs.Text.Tokens.{Name, tk}
use Rattle.rules.specs.Text.Scan.{scan, Scan, End, fine, refuse, plain_info}
use Rattle.rules.specs.Grammar.Trees.{Tokens, Description, flatten}
use Rattle.rules.specs.Grammar.Verdict.{Crowded}
use Rattle.laws_grammar.specs.Cited.Answer.{Answer, accepted, refused20, refused21}
use Rattle.laws_grammar.specs.Grammar.Answer.{Right, Accepted}
use Rattle.rules.specs.Limits.{longest_text}
use Rattle.rules.specs.Answers.{refused, place_of, Checks, unreadable, no_description, too_deep}
use Rattle.laws_grammar.specs.Cited.Rows.{recognise}
use Rattle.laws_grammar.specs.Grammar.Exact.{right}
use Rattle.laws_grammar.specs.Grammar.Nesting.{shallow_nest}
use Rattle.text.specs.Table.{record_cells, value_cells, write_cells, ended_at, scanned_of}
use Rattle.text.specs.Laws.Callers.{token_stands, refused_inside}
use Rattle.rules.specs.Refusals.{refusal_at}
use Rattle.rules.specs.declared.refusals.Refusal.{Refusal}
use Rattle.grammar.specs.Records.{Records, KindsStand, answer_of, Answers}
use Rattle.grammar.specs.declared.Misplaced.{Misplaced}
use Rattle.grammar.specs.declared.Misplaced.TheVariants.{Unexpected, TooDeep}
use Rattle.records.specs.Holds.{token_at, Holds}
use Rattle.reader.specs.Laws.Tabled.{tabled}
use Rattle.reader.specs.Parsed.{Refuses, Written, place_by, Stands, Scans}

-- how a scan ended
ended_by : (s : Scan) (n : ℕ) → Ok n ≡ scanned_of s → (s.end ≡ fine) × (n ≡ length s.tokens)
ended_by s n e = go s.end refl e
  where
    go : (x : End) → s.end ≡ x → Ok n ≡ ended_at (length s.tokens) x → (s.end ≡ fine) × (n ≡ length s.tokens)
    go fine q r = (q, cc)
    go (refuse m p) q r = let z : ◌≡◌ {A = ℕ} 0 1 = cc in absurd (omega arith)

refused_by : (s : Scan) (m p : ℕ) → Err (refusal_at m p) ≡ scanned_of s → s.end ≡ refuse m p
refused_by s m p e = go s.end refl e
  where
    go : (x : End) → s.end ≡ x → Err (refusal_at m p) ≡ ended_at (length s.tokens) x → s.end ≡ refuse m p
    go fine q r = let z : ◌≡◌ {A = ℕ} 0 1 = cc in absurd (omega arith)
    go (refuse x y) q r =
        let same : refusal_at m p ≡ refusal_at x y = cc in
        q ∙ ap (λ (f : Refusal). refuse f.number f.place) (sym same)

pub refused_scan : {text : List ℕ} {r : Refusal} {s : Result ℕ Refusal} → length text ≤ longest_text → s ≡ scanned_of (scan text) → s ≡ Err r
    → Refuses text r.number r.place
refused_scan {text} {r} short e q =
    let is = refused_by (scan text) r.number r.place (sym q ∙ e) in
    record { checks = unreadable short is; near = omega (arith, refused_inside text r.number r.place is) }

-- the recogniser's answer by its constructor
twenty : (x : Answer) (k : ℕ) → Err (Unexpected k) ≡ answer_of x → x ≡ refused20 k
twenty accepted k e = let z : ◌≡◌ {A = ℕ} 0 1 = cc in absurd (omega arith)
twenty (refused20 j) k e = cc
twenty (refused21 j) k e = let z : ◌≡◌ {A = ℕ} 0 1 = cc in absurd (omega arith)

twenty_one : (x : Answer) (k : ℕ) → Err (TooDeep k) ≡ answer_of x → x ≡ refused21 k
twenty_one accepted k e = let z : ◌≡◌ {A = ℕ} 0 1 = cc in absurd (omega arith)
twenty_one (refused20 j) k e = let z : ◌≡◌ {A = ℕ} 0 1 = cc in absurd (omega arith)
twenty_one (refused21 j) k e = cc

accepting : (x : Answer) → Ok tt ≡ answer_of x → x ≡ accepted
accepting accepted e = refl
accepting (refused20 j) e = let z : ◌≡◌ {A = ℕ} 0 1 = cc in absurd (omega arith)
accepting (refused21 j) e = let z : ◌≡◌ {A = ℕ} 0 1 = cc in absurd (omega arith)

-- the place of a token, and of the end
place_here : (text : List ℕ) (ts : Tokens) (k : ℕ) → k < length ts → place_of text ts k ≡ (token_at ts k).info.place
unfolding place_of
place_here text [] k h = absurd (omega arith)
place_here text (t ∷ ts) zero h = refl
place_here text (t ∷ ts) (suc k) h = place_here text ts k (omega arith)

place_past : (text : List ℕ) (ts : Tokens) (k : ℕ) → length ts ≤ k → place_of text ts k ≡ length text
unfolding place_of
place_past text [] k h = refl
place_past text (t ∷ ts) zero h = absurd (omega arith)
place_past text (t ∷ ts) (suc k) h = place_past text ts k (omega arith)

module _ {text records values : List ℕ} (w : Written text records values) where
  abbrev ts : Tokens
  ts = (scan text).tokens

  pub written_holds : Holds text records values ts
  written_holds =
      subst₂ (λ x y. Holds text x y ts) (sym w.is_a) (sym w.is_b) (tabled text w.before_a w.before_b w.short w.room_a w.room_b)

  module _ (n : ℕ) (e : Ok n ≡ scanned_of (scan text)) where
    all : n ≡ length ts
    all = (ended_by (scan text) n e).1

    pub written_records : Records records n
    written_records =
        record {
          room = omega (arith, all, written_holds.record_room);
          small = λ i h. rw (written_holds.entry i (omega (arith, all))).kind (token_stands text (tk Name (plain_info 0)) i (omega (arith, all))).kind;
        }

    kinds_stand : KindsStand ts records n
    kinds_stand = record { count = sym all; stand = λ i h. (written_holds.entry i (omega (arith, all))).kind }

    place_is : (k : ℕ) → place_by records n k (length text) ≡ place_of text ts k
    unfolding place_by
    place_is k = at_place (ltb k n) refl
      where
        at_place : (r : Bool) → ltb k n ≡ r → place_by records n k (length text) ≡ place_of text ts k
        at_place true q =
            let h : k < length ts = omega (arith, all, ltb-true k n q) in
            rw (place_by, q) ((written_holds.entry k h).place ∙ sym (place_here text ts k h))
        at_place false q = rw (place_by, q) (sym (place_past text ts k (omega (arith, all, ltb-false k n q))))

    place_near : (k p : ℕ) → p ≡ place_by records n k (length text) → p ≤ longest_text
    unfolding place_by
    place_near k p q = at_place (ltb k n) refl
      where
        at_place : (r : Bool) → ltb k n ≡ r → p ≤ longest_text
        at_place true z =
            let at = written_holds.entry k (omega (arith, all, ltb-true k n z)) in
            omega (arith, w.short, at.inside, at.place, (rw (place_by, z) at q))
        at_place false z = omega (arith, w.short, (rw (place_by, z) at q))

    -- what the recogniser says of them
    answered : (r : Result ⊤ Misplaced) → Answers records n r → r ≡ answer_of (recognise ts)
    answered r h = h ts kinds_stand

    by_answer : (x : Answer) → recognise ts ≡ x → Right ts x
    by_answer x q = subst (Right ts) q (right ts)

    pub refused_20 : (k p : ℕ) → Answers records n (Err (Unexpected k)) → p ≡ place_by records n k (length text) → Refuses text 20 p
    refused_20 k p h q =
        record {
          checks = subst (λ x. Checks text (refused 20 x)) (sym (q ∙ place_is k))
              (no_description w.short (ended_by (scan text) n e).0 (by_answer (refused20 k) (twenty (recognise ts) k (answered (Err (Unexpected k)) h))));
          near = place_near k p q;
        }

    pub refused_21 : (k p : ℕ) → Answers records n (Err (TooDeep k)) → p ≡ place_by records n k (length text) → Refuses text 21 p
    refused_21 k p h q =
        record {
          checks = subst (λ x. Checks text (refused 21 x)) (sym (q ∙ place_is k))
              (too_deep w.short (ended_by (scan text) n e).0 (by_answer (refused21 k) (twenty_one (recognise ts) k (answered (Err (TooDeep k)) h))));
          near = place_near k p q;
        }

    pub parsed : Answers records n (Ok tt) → Stands text records values n
    parsed h =
        let is : Accepted ts = by_answer accepted (accepting (recognise ts) (answered (Ok tt) h)) in
        let d : Description = is.whole.0 in
        let reads : flatten d ≡ ts = is.whole.1 in
        let shallow : (j : ℕ) → ¬ Crowded (flatten d) j = subst (λ x. (j : ℕ) → ¬ Crowded x j) (sym reads) is.shallow in
        record {
          short = w.short;
          readable = (ended_by (scan text) n e).0;
          holds = written_holds;
          count = all;
          description = d;
          reads = reads;
          shallow = shallow;
          nested = shallow_nest d shallow;
        }

-- what the recogniser asks, and what follows from its answers
module _ {text records : List ℕ} {n : ℕ} (v : Scans text records n) where
  pub scans_records : Records records n
  scans_records = written_records v.written n v.fine

  pub scans_room : 8 * n ≤ length records
  scans_room = scans_records.room

  pub scans_fine : {r : Result ⊤ Misplaced} → Answers records n r → r ≡ Ok tt → Stands text records v.values n
  scans_fine {r} h e = parsed v.written n v.fine (subst (Answers records n) e h)

  pub scans_20 : {r : Result ⊤ Misplaced} {k p : ℕ} → Answers records n r → r ≡ Err (Unexpected k) → p ≡ place_by records n k (length text) → Refuses text 20 p
  scans_20 {r} {k} {p} h e q = refused_20 v.written n v.fine k p (subst (Answers records n) e h) q

  pub scans_21 : {r : Result ⊤ Misplaced} {k p : ℕ} → Answers records n r → r ≡ Err (TooDeep k) → p ≡ place_by records n k (length text) → Refuses text 21 p
  scans_21 {r} {k} {p} h e q = refused_21 v.written n v.fine k p (subst (Answers records n) e h) q

-- behind a scan that is fine
unfoldable pub scanned : (text a b : List ℕ) {records values : List ℕ} {n : ℕ} {s : Result ℕ Refusal} → length text ≤ longest_text → 65536 ≤ length a → 65536 ≤ length b
    → records ≡ write_cells 8 a 0 (record_cells (scan text).tokens) → values ≡ write_cells 8 b 0 (value_cells 0 (scan text).tokens)
    → s ≡ scanned_of (scan text) → s ≡ Ok n → Scans text records n
scanned text a b {records} {values} short room_a room_b is_a is_b e q =
    record {
      values = values;
      written = record { before_a = a; before_b = b; short = short; room_a = room_a; room_b = room_b; is_a = is_a; is_b = is_b };
      fine = sym q ∙ e;
    }
