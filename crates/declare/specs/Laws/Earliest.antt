-- Laws: the first declaration with a fault has the least one, since places increase.
-- Assumes nothing.
use Prim.Native.Nat.{ℕ, ◌+◌, ◌*◌, ◌<◌, ◌≤◌, min}
use Rattle.std.specs.Prelude.{◌≡◌, refl, Bool, List, [], ◌∷◌, ◌++◌}
use Rattle.std.proofs.Math.Bool.{true, false}
use Rattle.std.proofs.Common.{append-nil, arith}
use Rattle.std.proofs.Math.Decide.{dec_lt}
use Rattle.rules.specs.Limits.{longest_text}
use Rattle.rules.specs.Declarations.{Word, Declared, Table, words_of}
use Rattle.rules.specs.Faults.Fault.{Fault, fault, when}
use Rattle.rules.specs.Faults.Declared.{is_known, twice, large, too_many, bad_mapping, mappings, faults30}
use Rattle.keys.specs.Keys.{key, least_by, least_key, Smalls, none_small, also_small}
use Rattle.keys.specs.Laws.Keys.{smalls_append, least_append}
use Rattle.declare.specs.Faults.{is_large, is_too_many, number_or, own_number}
use Rattle.declare.specs.Laws.Faults.{faults_from}

-- the faults of declarations: for each of them one or none, at its name
pub data Marks : Table → List Fault → Type 0 where
  no_marks : Marks [] []
  mark : (b : Bool) (n : ℕ) {d : Declared} {ds : Table} {fs : List Fault} → n < 128 → Marks ds fs → Marks (d ∷ ds) (when b n d.name.place ++ fs)

twice_marks : (known : List Word) (ds : Table) → Marks ds (twice known ds)
unfolding twice
twice_marks known [] = no_marks
twice_marks known (d ∷ ds) = mark (is_known d.name.word known) 30 (omega arith) (twice_marks (d.name.word ∷ known) ds)

large_marks : (ds : Table) → Marks ds (large ds)
unfolding large
large_marks [] = no_marks
large_marks (d ∷ ds) = mark (is_large d) 31 (omega arith) (large_marks ds)

many_marks : (n w : ℕ) (ds : Table) → Marks ds (too_many n w ds)
unfolding too_many
many_marks n w [] = no_marks
many_marks n w (d ∷ ds) = mark (is_too_many n w d) 32 (omega arith) (many_marks (n + 1) (w + words_of d) ds)

mapping_marks : (outer : Word) (all ds : Table) → Marks ds (mappings outer all ds)
unfolding mappings
mapping_marks outer all [] = no_marks
mapping_marks outer all (d ∷ ds) = mark (bad_mapping outer all d d.target) 33 (omega arith) (mapping_marks outer all ds)

-- the names stand at places from one to another
pub data Within (first last : ℕ) : Table → Type 0 where
  none_within : Within first last []
  also_within : {d : Declared} {ds : Table} → first ≤ d.name.place → d.name.place ≤ last → Within first last ds → Within first last (d ∷ ds)

marks_small : {first : ℕ} {ds : Table} {fs : List Fault} → Within first longest_text ds → Marks ds fs → Smalls fs
marks_small none_within no_marks = none_small
marks_small (also_within l q w) (mark true n h m) = also_small (record { number = h; place = q }) (marks_small w m)
marks_small (also_within l q w) (mark false n h m) = marks_small w m

marks_late : {first last : ℕ} {ds : Table} {fs : List Fault} → first ≤ longest_text + 1 → Within first last ds → Marks ds fs → first * 128 ≤ least_key fs
unfolding least_by
marks_late z none_within no_marks = omega arith
marks_late z (also_within l q w) (mark true n h m) = omega (arith, marks_late z w m)
marks_late z (also_within l q w) (mark false n h m) = marks_late z w m

pub faults_small : (outer : Word) (ds : Table) → Within 0 longest_text ds → Smalls (faults30 outer ds)
unfolding faults30
faults_small outer ds w =
    smalls_append (marks_small w (twice_marks _ ds))
    (smalls_append (marks_small w (large_marks ds)) (smalls_append (marks_small w (many_marks 0 0 ds)) (marks_small w (mapping_marks outer ds ds))))

-- what is left behind a declaration with no fault
pub passed_on : (outer : Word) (all : Table) (known : List Word) (n w : ℕ) (d : Declared) (ds : Table) → own_number outer all known n w d ≡ 0
    → faults_from outer all known n w (d ∷ ds) ≡ faults_from outer all (d.name.word ∷ known) (n + 1) (w + words_of d) ds
unfolding own_number faults_from twice large too_many mappings
passed_on outer all known n w d ds e =
    by (is_known d.name.word known) (is_large d) (is_too_many n w d) (bad_mapping outer all d d.target) e
  where
    by : (a b c m : Bool) → number_or a 30 (number_or b 31 (number_or c 32 (number_or m 33 0))) ≡ 0
        → (when a 30 d.name.place ++ twice (d.name.word ∷ known) ds)
        ++ ((when b 31 d.name.place ++ large ds)
        ++ ((when c 32 d.name.place ++ too_many (n + 1) (w + words_of d) ds) ++ (when m 33 d.name.place ++ mappings outer all ds)))
        ≡ twice (d.name.word ∷ known) ds ++ (large ds ++ (too_many (n + 1) (w + words_of d) ds ++ mappings outer all ds))
    by true b c m z = absurd (omega arith)
    by false true c m z = absurd (omega arith)
    by false false true m z = absurd (omega arith)
    by false false false true z = absurd (omega arith)
    by false false false false z = refl

-- faults of which none stands before p, with r the least number of those at p, which is at least n; 0 for none
record Leads (p : ℕ) (fs : List Fault) (n r : ℕ) : Type 0 where
  pub later : r ≡ 0 → (p + 1) * 128 ≤ least_key fs
  pub least : 0 < r → least_key fs ≡ p * 128 + r
  pub after : 0 < r → n ≤ r
  pub number : r < 128

no_lead : (p n : ℕ) → p ≤ longest_text → Leads p [] n 0
unfolding least_by
no_lead p n l = record { later = λ e. omega arith; least = λ h. absurd (omega arith); after = λ h. absurd (omega arith); number = omega arith }

-- one test in front, and others later
module _ (p n : ℕ) (small : p ≤ longest_text) (number : n < 128) (tail fs : List Fault) (r : ℕ) (late : (p + 1) * 128 ≤ least_key tail) where
  lead : (b : Bool) → 0 < n → Leads p fs (n + 1) r → Leads p ((when b n p ++ tail) ++ fs) n (number_or b n r)
  unfolding least_by
  lead true z l = record {
    later = λ e. absurd (omega arith);
    least = λ h. by (dec_lt 0 r);
    after = λ h. omega arith;
    number = number;
  }
    where
      by : Dec (0 < r) → min (p * 128 + n) (least_key (tail ++ fs)) ≡ p * 128 + n
      by (yes y) = omega (arith, least_append key tail fs, l.least y, l.after y)
      by (no f) = omega (arith, least_append key tail fs, l.later (omega arith))
  lead false z l = record {
    later = λ e. omega (arith, least_append key tail fs, l.later e);
    least = λ h. omega (arith, least_append key tail fs, l.least h, l.number);
    after = λ h. omega (arith, l.after h);
    number = l.number;
  }

-- the least fault is that of the first declaration with one
pub first_fault : {last : ℕ} (outer : Word) (all : Table) (known : List Word) (n w : ℕ) (d : Declared) (ds : Table) → 0 < own_number outer all known n w d
    → d.name.place ≤ longest_text → Within (d.name.place + 1) last ds
    → least_key (faults_from outer all known n w (d ∷ ds)) ≡ key (fault (own_number outer all known n w d) d.name.place)
unfolding own_number faults_from twice large too_many mappings
first_fault outer all known n w d ds h small within =
    let p = d.name.place in
    let mapping_lead = lead p 33 small (omega arith) (mappings outer all ds) [] 0 (late (mapping_marks outer all ds)) (bad_mapping outer all d d.target) (omega arith)
    (no_lead p 34 small) in
    let many_lead = lead p 32 small (omega arith) (too_many (n + 1) (w + words_of d) ds) _ _ (late (many_marks (n + 1) (w + words_of d) ds)) (is_too_many n w d) (omega arith)
    mapping_lead in
    let large_lead = lead p 31 small (omega arith) (large ds) _ _ (late (large_marks ds)) (is_large d) (omega arith) many_lead in
    let twice_lead = lead p 30 small (omega arith) (twice (d.name.word ∷ known) ds) _ _ (late (twice_marks (d.name.word ∷ known) ds)) (is_known d.name.word known)
    (omega arith) large_lead in
    simp append-nil at (twice_lead.least h)
  where
    late : {fs : List Fault} → Marks ds fs → (d.name.place + 1) * 128 ≤ least_key fs
    late m = marks_late (omega arith) within m
