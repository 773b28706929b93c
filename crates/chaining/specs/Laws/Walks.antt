-- Laws of the walk down a chain.
use Rattle.std.specs.Prelude.{ℕ, suc, ◌+◌, ◌-◌, ◌<◌, ◌≤◌, ◌≡◌, refl, Bool, ◌&&◌, eqb, ltb, length, Some, None}
use Rattle.std.proofs.Common.{sym, ◌∙◌, subst, add-one, arith}
use Rattle.std.proofs.Math.Path.{ap, ap₂}
use Rattle.std.proofs.Math.Bool.{true, false, ◌||◌}
use mathlib.Core.List.{List, [], ◌∷◌, ◌++◌, append_assoc, append-nil}
use Rattle.std.proofs.Math.Option.{Option, none, some}
use Rattle.std.proofs.Math.ListN.{get_elem?, length-append}
use Rattle.rules.specs.Limits.{longest_chain}
use Rattle.rules.specs.Declarations.{Word, Declared, Table, declared_of}
use Rattle.rules.specs.Whole.Sets.{member, calls_in}
use Rattle.rules.specs.Reasons.{no_reason, chained, first_over, body_of_number, chain_behind, refused_body, place_in, places_in, chain_of, chain_from, reason51}
use Rattle.rules.specs.Calls.Why.{reason_numbers}
use Rattle.laws_orders.proofs.Orders.Tests.{impossible}
use Rattle.reading.specs.Reading.{Reading, table_of}
use Rattle.reading.specs.Meanings.{declares}
use Rattle.reading.specs.Bodies.{act_at}
use Rattle.reading.specs.Bits.{holds}
use Rattle.reading.specs.Laws.Meanings.{table_size_lem}
use Rattle.chains.specs.Chains.{in_level, activates_one, Levelled}
use Rattle.chains.specs.Laws.Chains.{level_more}
use Rattle.chaining.specs.Firsts.{first_in, start_by, start_of, Numbered}
use Rattle.chaining.specs.Walks.{Going, Walked}
use Rattle.chaining.specs.Laws.Firsts.{level_first}
use Rattle.chaining.specs.declared.walks.Walk.{Walk}
use Rattle.chaining.specs.declared.walks.Numbers.{Numbers}

-- where a walk begins
starts_none : (ds : Table) (place : ℕ) → start_of ds place ≡ none → reason51 ds place ≡ no_reason
unfolding reason51
starts_none ds place e = by (refused_body ds place ds) e
  where
    by : (o : Option Word) → start_by ds o ≡ none → chain_from ds o ≡ no_reason
    by none e = refl
    by (some n) e = ap (chain_of ds) e

starts_at : (ds : Table) (place b : ℕ) → start_of ds place ≡ some b → reason51 ds place ≡ chained (places_in ds (chain_behind ds longest_chain [] b))
unfolding reason51
starts_at ds place b e = by (refused_body ds place ds) e
  where
    by : (o : Option Word) → start_by ds o ≡ some b → chain_from ds o ≡ chained (places_in ds (chain_behind ds longest_chain [] b))
    by none e = impossible (cc)
    by (some n) e = ap (chain_of ds) e

module _ {records decls : List ℕ} {m n place b : ℕ} (at : (v : Reading records decls m n) → Numbered m b (start_of (table_of v) place)) where
  pub start_none : {w : Walk} {numbers : Numbers} → m ≤ b → w.body ≡ None → w.numbers ≡ numbers → numbers.n ≡ reason_numbers no_reason
      → Walked records decls m n place longest_chain w
  start_none l g e z = record {
    goes = λ t. impossible (cc);
    ended = λ f v. ap (λ (x : Numbers). x.n) e ∙ (z ∙ ap reason_numbers (sym (starts_none (table_of v) place ((at v).nothing l))));
  }

  pub start_one : (w : Walk) → b < m → w.body ≡ Some b → ((j : ℕ) → holds w.listed.w j ≡ false) → w.numbers.n ≡ reason_numbers (chained [])
      → Walked records decls m n place longest_chain w
  unfolding member
  start_one w l g h z = record {
    goes = λ {b = c} t v.
        let same : b ≡ c = cc in
        record {
          places = [];
          bodies = [];
          held = h;
          numbers = z;
          count = refl;
          body_there = omega (arith, same);
          is = starts_at (table_of v) place c ((at v).one l ∙ ap some same);
        };
    ended = λ f. impossible (cc);
  }

-- one step
module _ {records decls : List ℕ} {m n place k : ℕ} (level : List ℕ) (all : Bool) (w : Walk)
    (lev : (v : Reading records decls m n) → Levelled (table_of v) level all k) (x : Walked records decls m n place (k + 1) w) {a : ℕ} (g : w.body ≡ Some a) (small : k < 16)
    {more : Numbers} (put : (v : Reading records decls m n) (places : List ℕ) → w.numbers.n ≡ reason_numbers (chained places)
    → 2 + length places ≡ 17 - k → more.n ≡ reason_numbers (chained (places ++ (place_in (table_of v) a ∷ [])))) {b : Bool} (has : b ≡ holds w.listed.w a) where
  going : (v : Reading records decls m n) → Going (table_of v) m place (suc k) w a
  going v = rw (add-one k) at (x.goes g v)

  listed : (v : Reading records decls m n) → more.n ≡ reason_numbers (chained ((going v).places ++ (place_in (table_of v) a ∷ [])))
  listed v = put v (going v).places (going v).numbers (omega (arith, (going v).count))

  -- the chain that is left
  abbrev rest : (v : Reading records decls m n) (c : Option ℕ) → List ℕ
  rest v c = elim c [ none ↦ [] | some d ↦ chain_behind (table_of v) k (a ∷ (going v).bodies) d ]

  behind_closed : b ≡ true → (v : Reading records decls m n) → chain_behind (table_of v) (suc k) (going v).bodies a ≡ a ∷ []
  unfolding chain_behind
  behind_closed t v =
      ap (λ (y : Bool). elim y [ true ↦ a ∷ [] | false ↦ a ∷ rest v (first_over (table_of v) k (calls_in (body_of_number (table_of v) a))) ])
      (sym ((going v).held a) ∙ (sym has ∙ t))

  behind_open : b ≡ false → (v : Reading records decls m n) → chain_behind (table_of v) (suc k) (going v).bodies a
      ≡ a ∷ rest v (first_in (table_of v) (in_level (table_of v) level all) (calls_in (act_at (table_of v) a)))
  unfolding chain_behind
  behind_open f v =
      ap (λ (y : Bool). elim y [ true ↦ a ∷ [] | false ↦ a ∷ rest v (first_over (table_of v) k (calls_in (body_of_number (table_of v) a))) ])
      (sym ((going v).held a) ∙ (sym has ∙ f))
      ∙ ap (λ (y : Option ℕ). a ∷ rest v y) (level_first (table_of v) k level all (calls_in (body_of_number (table_of v) a)) (lev v))

  -- the reason, by what is left behind the body
  with_rest : (v : Reading records decls m n) (r : List ℕ) → chain_behind (table_of v) (suc k) (going v).bodies a ≡ a ∷ r
      → reason51 (table_of v) place ≡ chained (((going v).places ++ (place_in (table_of v) a ∷ [])) ++ places_in (table_of v) r)
  unfolding places_in
  with_rest v r e =
      (going v).is ∙ (ap (λ (l : List ℕ). chained ((going v).places ++ places_in (table_of v) l)) e
      ∙ ap chained (sym (append_assoc (going v).places (place_in (table_of v) a ∷ []) (places_in (table_of v) r))))

  over : {r : Walk} → r.body ≡ None → r.numbers ≡ more
      → ((v : Reading records decls m n) → chain_behind (table_of v) (suc k) (going v).bodies a ≡ a ∷ []) → Walked records decls m n place k r
  unfolding places_in
  over f e h = record {
    goes = λ t. impossible (cc);
    ended = λ q v. ap (λ (y : Numbers). y.n) e ∙ (listed v ∙ ap reason_numbers (sym (with_rest v [] (h v)
        ∙ ap chained (append-nil ((going v).places ++ (place_in (table_of v) a ∷ []))))));
  }

  pub step_closed : {r : Walk} → b ≡ true → r.body ≡ None → r.numbers ≡ more → Walked records decls m n place k r
  step_closed t f e = over f e (behind_closed t)

  module _ (f : b ≡ false) {c : ℕ} (next : (v : Reading records decls m n) → Numbered m c (first_in (table_of v) (in_level (table_of v) level all) (calls_in (act_at (table_of v) a)))) where
    pub step_none : {r : Walk} → m ≤ c → r.body ≡ None → r.numbers ≡ more → Walked records decls m n place k r
    step_none l q e = over q e (λ v. behind_open f v ∙ ap (λ (y : Option ℕ). a ∷ rest v y) ((next v).nothing l))

    pub step_on : (r : Walk) (one : List ℕ) → c < m → r.body ≡ Some c → r.numbers ≡ more → ((j : ℕ) → holds one j ≡ eqb j a)
        → ((j : ℕ) → holds r.listed.w j ≡ (holds one j || holds w.listed.w j)) → Walked records decls m n place k r
    unfolding member
    step_on r one l t e o u = record {
      goes = λ {b = d} y v.
          let same : c ≡ d = cc in
          record {
            places = (going v).places ++ (place_in (table_of v) a ∷ []);
            bodies = a ∷ (going v).bodies;
            held = λ j. u j ∙ ap₂ ◌||◌ (o j) ((going v).held j);
            numbers = ap (λ (z : Numbers). z.n) e ∙ listed v;
            count = omega (arith, (going v).count, length-append (going v).places (place_in (table_of v) a ∷ []));
            body_there = omega (arith, same);
            is = with_rest v (chain_behind (table_of v) k (a ∷ (going v).bodies) d)
                (behind_open f v ∙ (ap (λ (z : Option ℕ). a ∷ rest v z) ((next v).one l)
                ∙ ap (λ (z : ℕ). a ∷ chain_behind (table_of v) k (a ∷ (going v).bodies) z) same));
          };
      ended = λ q. impossible (cc);
    }

-- a walk that is over stays so
pub step_over : {records decls : List ℕ} {m n place k : ℕ} (w : Walk) → w.body ≡ None → Walked records decls m n place (k + 1) w → Walked records decls m n place k w
step_over w f x = record { goes = λ t. impossible (cc); ended = x.ended }

pub body_there : {records decls : List ℕ} {m n place k : ℕ} {w : Walk} → Reading records decls m n → Walked records decls m n place k w
    → (b : ℕ) → w.body ≡ Some b → b < m
body_there v x b g = (x.goes g v).body_there

-- the last body
pub last_listed : {records decls : List ℕ} {m n place : ℕ} (w : Walk) {a : ℕ} {more : Numbers} → w.body ≡ Some a → Walked records decls m n place 0 w
    → ((v : Reading records decls m n) (places : List ℕ) → w.numbers.n ≡ reason_numbers (chained places)
    → 2 + length places ≡ 18 → more.n ≡ reason_numbers (chained (places ++ (place_in (table_of v) a ∷ []))))
    → (v : Reading records decls m n) → more.n ≡ reason_numbers (reason51 (table_of v) place)
unfolding chain_behind places_in
last_listed w g x put v =
    let h = x.goes g v in put v h.places h.numbers (omega (arith, h.count)) ∙ ap reason_numbers (sym h.is)

-- one level above another
pub level_above : {records decls : List ℕ} {m n k : ℕ} (w r : List ℕ) (all : Bool) → ((v : Reading records decls m n) → Levelled (table_of v) w all k)
    → ((v : Reading records decls m n) (j : ℕ) → holds r j ≡ (ltb j m && activates_one (table_of v) (in_level (table_of v) w all) j))
    → (v : Reading records decls m n) → Levelled (table_of v) r false (k + 1)
level_above {m = m} {k = k} w r all x h v = rw (add-one k) (level_more (table_of v) m k w r all (table_size_lem v) (x v) (h v))

-- the place of a body
pub with_place : {records decls : List ℕ} {m n k q : ℕ} {numbers : List ℕ} (places : List ℕ) (v : Reading records decls m n) → k < m
    → ((d : Declared) → get_elem? (table_of v) k ≡ some d → q ≡ d.name.place) → numbers ≡ reason_numbers (chained (places ++ (q ∷ [])))
    → numbers ≡ reason_numbers (chained (places ++ (place_in (table_of v) k ∷ [])))
with_place {k = k} {q} places v l h e =
    let found = (declares v k l).found in
    let d = declared_of (declares v k l).declaration in
    let p : q ≡ place_in (table_of v) k = h d found ∙ sym (ap (λ (o : Option Declared). elim o [ none ↦ 0 | some d ↦ d.name.place ]) found) in
    e ∙ ap (λ (x : ℕ). reason_numbers (chained (places ++ (x ∷ [])))) p

-- the top level is that of the longest chain
module _ {records decls : List ℕ} {m n k : ℕ} (low : k ≤ longest_chain) (high : longest_chain ≤ k) where
  pub top_level : (w : List ℕ) → ((v : Reading records decls m n) → Levelled (table_of v) w false k) → (v : Reading records decls m n) → Levelled (table_of v) w false longest_chain
  top_level w x v = let same : k ≡ longest_chain = omega arith in subst (λ (i : ℕ). Levelled (table_of v) w false i) same (x v)

  pub top_walked : {place : ℕ} {w : Walk} → Walked records decls m n place longest_chain w → Walked records decls m n place k w
  top_walked {place} {w} x = let same : longest_chain ≡ k = omega arith in subst (λ (i : ℕ). Walked records decls m n place i w) same x
