-- Laws of the passes behind the declarations: what each needs, its refusals, and the texts that pass.
-- Assumes nothing.
use Rattle.std.specs.Prelude.{ℕ, zero, suc, ◌/◌, ◌%◌, ◌<◌, ◌≤◌, ◌≡◌, List, [], ◌∷◌, length, Ok, Err}
use Rattle.std.proofs.Common.{sym, ap₂, ◌∙◌, subst, arith}
use Rattle.std.proofs.Math.Path.{ap}
use Rattle.std.proofs.Math.Option.{some}
use Rattle.std.proofs.lemmas.List.{length-map}
use Rattle.std.proofs.Math.ListN.{get_elem?}
use Rattle.rules.specs.Text.Scan.{scan}
use Rattle.rules.specs.Grammar.Trees.{Tokens, Declaration, Description}
use Rattle.rules.specs.Declarations.{declared_of, declarations, outer_name, total_words}
use Rattle.rules.specs.Faults.Fault.{Fault, fault, by_place_of, by_number_of, least}
use Rattle.rules.specs.Faults.Declared.{faults30}
use Rattle.rules.specs.Limits.{most_declarations, most_words}
use Rattle.rules.specs.Faults.Bodies.{faults40}
use Rattle.rules.specs.Faults.Whole.{faults50}
use Rattle.rules.specs.Answers.{Verdict as Answer, accepted, refused, or_else, judgement, Checks}
use Rattle.table.specs.Declarations.{declaration_list, all_declared, DeclaredAt}
use Rattle.keys.specs.Keys.{no_key, least_key, least_number_key, Smalls}
use Rattle.keys.specs.Laws.Keys.{by_place, by_number, no_fault, place_first, place_near, number_first, number_near}
use Rattle.table.specs.Ready.{Ready}
use Rattle.reader.specs.Copied.{Copied}
use Rattle.accepted.specs.Accepted.{Declares, Lawful}
use Rattle.bodies.specs.Bodies.{BodiesView, faults_of_bodies}
use Rattle.bodies.specs.Laws.Fixed.{ready_bodies}
use Rattle.bodies.specs.Laws.Small.{faults_small}
use Rattle.whole.specs.Written.{Written, whole}
use Rattle.whole.specs.Laws.Written.{reading}
use Rattle.whole.specs.Laws.Between.{faults_small as small_faults_50}
use Rattle.rules.specs.declared.refusals.Refusal.{Refusal}
use Rattle.reader.specs.Judged.{Judges, refuses, accepts}

within : (list : List Declaration) (k : ℕ) (x : Declaration) → get_elem? list k ≡ some x → k < length list
within [] k x e = absurd (let z : ◌≡◌ {A = ℕ} 0 1 = cc in omega arith)
within (y ∷ list) zero x e = omega arith
within (y ∷ list) (suc k) x e = omega (arith, within list k x e)

-- the declarations are where they were
pub declares_kept : {text records values room decls : List ℕ} {m n : ℕ} → Copied decls room most_declarations → 512 ≤ length decls
    → Declares text records values room m n → Declares text records values decls m n
declares_kept {text} {records} {values} {room} {decls} {m} copied long v =
    let r = v.ready in
    let d = v.description in
    let few : length (declaration_list d) ≤ most_declarations = omega (arith, r.count, r.few) in
    record {
      description = d;
      reads = v.reads;
      verdict = v.verdict;
      spelled = v.spelled;
      count = v.count;
      ready = record {
        holds = r.holds;
        stands = r.stands;
        shallow = r.shallow;
        declared = record {
          room = omega arith;
          few = r.declared.few;
          each = λ k x e. subst (λ i. DeclaredAt (scan text).tokens i x) (sym (copied.same k (omega (arith, within (declaration_list d) k x e)))) (r.declared.each k x e);
        };
        count = r.count;
        few = r.few;
        means = r.means;
        lawful = r.lawful;
      };
    }

module _ (d : Description) (fine : faults30 (outer_name d).word (declarations d) ≡ []) where
  abbrev first : List Fault
  first = faults40 (outer_name d).word (declarations d) (declarations d)

  abbrev last : List Fault
  last = faults50 (declarations d)

  abbrev count : Answer
  count = accepted (length (declarations d)) (total_words (declarations d))

  behind_30 : judgement d ≡ or_else (least by_place_of first) (or_else (least by_number_of last) count)
  unfolding judgement least
  behind_30 = ap (λ fs. or_else (least by_place_of fs) (or_else (least by_place_of first) (or_else (least by_number_of last) count))) fine

  first_40 : {m p : ℕ} → least by_place_of first ≡ some (fault m p) → judgement d ≡ refused m p
  first_40 e = behind_30 ∙ ap (λ o. or_else o (or_else (least by_number_of last) count)) e

  behind_40 : first ≡ [] → judgement d ≡ or_else (least by_number_of last) count
  unfolding least
  behind_40 e = behind_30 ∙ ap (λ fs. or_else (least by_place_of fs) (or_else (least by_number_of last) count)) e

  first_50 : {m p : ℕ} → first ≡ [] → least by_number_of last ≡ some (fault m p) → judgement d ≡ refused m p
  first_50 s e = behind_40 s ∙ ap (λ o. or_else o count) e

  none_at_all : first ≡ [] → last ≡ [] → judgement d ≡ count
  unfolding least
  none_at_all s e = behind_40 s ∙ ap (λ fs. or_else (least by_number_of fs) count) e

abbrev pub to_judge_bodies : {text records values decls room : List ℕ} {m n : ℕ} → Declares text records values decls m n → 65536 ≤ length room
    → BodiesView text records values decls room m
to_judge_bodies v large = ready_bodies v.ready v.spelled (omega arith)

-- from the least key of the 40s
module _ {text records values decls room : List ℕ} {m n key : ℕ} (v : Declares text records values decls m n) (large : 65536 ≤ length room)
    (told : (v : BodiesView text records values decls room m) → key ≡ least_key (faults_of_bodies v)) where
  is_40 : key ≡ least_key (faults40 (outer_name v.description).word (declarations v.description) (declarations v.description))
  is_40 = told (to_judge_bodies v large)

  small_40 : Smalls (faults40 (outer_name v.description).word (declarations v.description) (declarations v.description))
  small_40 = faults_small v.ready

  pub refused_40 : {r : Refusal} → (key ≡ no_key → ⊥) → (r.number ≡ key % 128) × (r.place ≡ key / 128) → Judges text records values decls (Err r)
  refused_40 h e =
      refuses (rw (e.0, e.1)
      record {
        checks = subst (Checks text) (first_40 v.description v.ready.lawful (place_first _ key small_40 is_40 h)) v.verdict;
        near = place_near _ key small_40 is_40 h;
      })

  pub lawful_40 : key ≡ no_key → Lawful text records values decls m n
  lawful_40 e = record { declares = v; sound = no_fault by_place _ small_40 (sym is_40 ∙ e) }

-- from the least key of the 50s
module _ {text records values decls : List ℕ} {m n : ℕ} (v : Lawful text records values decls m n) where
  abbrev pub to_judge_whole : Written text records decls m n
  to_judge_whole = record {
    values = values;
    tokens = (scan text).tokens;
    description = v.declares.description;
    ready = v.declares.ready;
    count = v.declares.count;
  }

  module _ {key : ℕ} (told : (w : Written text records decls m n) → key ≡ least_number_key (faults50 (whole w))) where
    abbrev d : Description
    d = v.declares.description

    is_50 : key ≡ least_number_key (faults50 (declarations d))
    is_50 = told to_judge_whole

    small_50 : Smalls (faults50 (declarations d))
    small_50 = small_faults_50 (reading to_judge_whole)

    pub refused_50 : {r : Refusal} → (key ≡ no_key → ⊥) → (r.number ≡ key / 65536) × (r.place ≡ key % 65536) → Judges text records values decls (Err r)
    refused_50 h e =
        refuses (rw (e.0, e.1)
        record {
          checks = subst (Checks text) (first_50 d v.declares.ready.lawful v.sound (number_first _ key small_50 is_50 h)) v.declares.verdict;
          near = number_near _ key small_50 is_50 h;
        })

    pub accepted_50 : {words : ℕ} → key ≡ no_key
        → ((text : List ℕ) (ts : Tokens) (d : Description) → Ready text records values decls ts d m → words ≡ total_words (declarations d)) × (words ≤ most_words)
        → Judges text records values decls (Ok (record { declarations = m; words = words; tokens = n }))
    accepted_50 {words} e counts =
        let none : faults50 (declarations d) ≡ [] = no_fault by_number _ small_50 (sym is_50 ∙ e) in
        let w : words ≡ total_words (declarations d) = counts.0 text _ d v.declares.ready in
        let m_is : length (declarations d) ≡ m = ap length (all_declared d) ∙ length-map (declaration_list d) declared_of ∙ sym v.declares.ready.count in
        accepts record {
          lawful = v;
          whole = none;
          counted = w;
          few_words = counts.1;
          verdict = subst (Checks text) (none_at_all d v.declares.ready.lawful v.sound none ∙ ap₂ accepted m_is (sym w)) v.declares.verdict;
        }
