-- The resume profile, from the contract of the call to the paths and the runs of the rules.
-- Assumes nothing.
use Rattle.std.specs.Prelude.{ℕ, zero, suc, ◌+◌, ◌-◌, ◌<◌, ◌≤◌, ◌≡◌, refl, Bool, true, false, cond, ◌||◌, List, [], ◌∷◌, ◌↔◌, ◌⊎◌, eqb, length, get_or, drop}
use Rattle.std.proofs.Common.{sym, ap, ◌∙◌, subst, inl, inr, arith, lt-ltb, le-ltb, eqb-true}
use Rattle.std.proofs.Math.Bool.{or-false, or_assoc}
use Rattle.std.proofs.lemmas.Bool.{false≢true}
use Rattle.std.proofs.Math.Option.{none, some, none-ne-some, some-injective}
use Rattle.std.proofs.Math.ListN.{get_elem?}
use Rattle.rules.specs.Limits.{longest_text}
use Rattle.rules.specs.Text.Tokens.{Name, tk}
use Rattle.rules.specs.Text.Scan.{scan, plain_info}
use Rattle.rules.specs.Grammar.Trees.{Description, flatten}
use Rattle.rules.specs.Declarations.{Declared, Table, declarations, body_of, words_of, first_word}
use Rattle.rules.specs.Steps.Evaluation.{Carriers}
use Rattle.rules.specs.Steps.Control.{Live, Mv, work}
use Rattle.rules.specs.Steps.Runs.{Conf, running, finished, stopped, failed, perform, step, Steps, begin}
use Rattle.rules.specs.Whole.Sets.{member}
use Rattle.rules.specs.Faults.Whole.{main_name}
use Rattle.rules.specs.Answers.{Lawful, little_endian, bytes_of, refused_numbers}
use Rattle.rules.specs.Agreement.{ending_in, carriers_at}
use Rattle.rules.specs.Paths.{TooEarly, storage_of, folded, Profile, passes, fails, Profiles, no_body, no_storage, early, in_time, ProfileAnswers, not_accepted, profiled, ends_by, test_ended}
use Rattle.rules.specs.Calls.Memory.{Memory, Enough, number_bytes, answered, settled}
use Rattle.rules.specs.Calls.Profile.{ProfileCall, profile_number, profile_numbers, short_memory, long_text, answer}
use Rattle.laws_grammar.specs.Grammar.Exact.{unique}
use Rattle.laws_grammar.specs.Answers.{one_verdict, accepted_iff_lawful}
use Rattle.laws_orders.proofs.Orders.Tests.{or_either}
use Rattle.laws_orders.proofs.Orders.Owners.{owner_at}
use Rattle.laws.specs.Refusals.Numbered.{checks_numbered}
use Rattle.text.specs.Laws.Callers.{token_stands}
use Rattle.paths.specs.Cited.Early.{early_places}
use Rattle.paths.proofs.Least.{Under}
use Rattle.paths.proofs.Verdict.{accepted_none}
use Rattle.paths.proofs.Kept.{carriers_in, output_kept}
use Rattle.paths.proofs.Profile.{listed_exactly, accepted_is_orderly, only_answer, no_store_before}
use Rattle.nesting.specs.Holding.{unseen}
use Rattle.resuming.specs.Laws.Near.{Near, all_near, places_under}
use Rattle.isps.specs.Laws.Calls.{four_bytes}
use Rattle.rules.specs.Late.{StoresLate}

pub one_profile : {text test output : List ℕ} {before after after' : Memory} {n n' : ℕ} → ProfileCall text test output before after n
    → ProfileCall text test output before after' n' → (n ≡ n') × (after ≡ after')
one_profile (short_memory s e a) (short_memory s' e' a') = (e ∙ sym e', a ∙ sym a')
one_profile (short_memory s e a) (long_text m l e' a') = absurd (s m)
one_profile (short_memory s e a) (answer x m l c e' a') = absurd (s m)
one_profile (long_text m l e a) (short_memory s e' a') = absurd (s m)
one_profile (long_text m l e a) (long_text m' l' e' a') = (e ∙ sym e', a ∙ sym a')
one_profile (long_text m l e a) (answer x m' l' c e' a') = absurd (omega arith)
one_profile (answer x m l c e a) (short_memory s e' a') = absurd (s m)
one_profile (answer x m l c e a) (long_text m' l' e' a') = absurd (omega arith)
one_profile {text} {test} {output} {before} (answer x m l c e a) (answer x' m' l' c' e' a') =
    let same : x ≡ x' = only_answer text test output c c' in
    (e ∙ ap profile_number same ∙ sym e', a ∙ ap (λ y. settled (profile_numbers text y) before) same ∙ sym a')

-- the first number of an answer
abbrev profile_code : Profile → ℕ
profile_code passes = 0
profile_code (fails m p) = 4

profile_code_lem : (text : List ℕ) (x : Profile) (b : List ℕ) → little_endian 4 (answered (profile_numbers text x) b) ≡ profile_code x
unfolding little_endian answered number_bytes bytes_of
profile_code_lem text passes b = refl
profile_code_lem text (fails m p) b = refl

-- what a call has answered that was lent enough
record Answers (text test output : List ℕ) (before after : Memory) (n : ℕ) : Type 0 where
  pub profile : Profile
  pub answers : ProfileAnswers text test output profile
  pub number : n ≡ profile_number profile
  pub answer : after.answer ≡ answered (profile_numbers text profile) before.answer

answers : {text test output : List ℕ} {before after : Memory} {n : ℕ} → ProfileCall text test output before after n → Enough before → length text ≤ longest_text
    → Answers text test output before after n
answers (short_memory s e a) enough short = absurd (s enough)
answers (long_text m l e a) enough short = absurd (omega arith)
answers (answer x m l c e a) enough short = record { profile = x; answers = c; number = e; answer = ap (λ y. y.answer) a }

-- the third number of a refusal
place_in : (text : List ℕ) (m p : ℕ) (b : List ℕ) → p < 4294967296 → little_endian 4 (drop 8 (answered (refused_numbers text m p) b)) ≡ p
unfolding little_endian answered number_bytes bytes_of
place_in text m p b l = four_bytes p l

-- the tokens of a text
scanned_near : (text : List ℕ) → length text ≤ longest_text → Near (scan text).tokens
scanned_near text short = all_near (scan text).tokens (λ i h. omega (arith, (token_stands text (tk Name (plain_info 0)) i h).before))

under_member : (p : ℕ) (ps : List ℕ) → Under unseen ps → member p ps ≡ true → p < unseen
unfolding member
under_member p [] h e = absurd (false≢true e)
under_member p (q ∷ ps) h e = by (under_member p ps h.1) (or_either (eqb p q) (member p ps) e)
  where
    by : (member p ps ≡ true → p < unseen) → (eqb p q ≡ true) ⊎ (member p ps ≡ true) → p < unseen
    by rest (inl f) = omega (arith, eqb-true p q f, h.0)
    by rest (inr f) = rest f

-- the words of a carrier belong to it
owner_of : (ds : Table) (i : ℕ) (d : Declared) (k : ℕ) → get_elem? ds i ≡ some d → k < words_of d → owner_at ds (first_word ds i + k) ≡ i
unfolding owner_at first_word
owner_of [] i d k e h = absurd (none-ne-some d e)
owner_of (x ∷ ds) zero d k e h =
    let q : d ≡ x = cc in
    let b : k < words_of x = subst (λ (z : Declared). k < words_of z) q h in
    ap (λ t. cond t 0 (suc (owner_at ds (0 + k - words_of x)))) (lt-ltb (0 + k) (words_of x) (omega arith))
owner_of (x ∷ ds) (suc i) d k e h =
    let w : ℕ = words_of x + first_word ds i + k in
    let rest : w - words_of x ≡ first_word ds i + k = omega arith in
    ap (λ t. cond t 0 (suc (owner_at ds (w - words_of x)))) (le-ltb w (words_of x) (omega arith)) ∙ ap suc (ap (owner_at ds) rest ∙ owner_of ds i d k e h)

module _ {text test output : List ℕ} {before after : Memory} {n : ℕ} (call : ProfileCall text test output before after n) (enough : Enough before)
    (short : length text ≤ longest_text) where
  given : Answers text test output before after n
  given = answers call enough short

  module _ {m w : ℕ} (lawful : Lawful text m w) where
    abbrev ds : Table
    ds = declarations lawful.description

    profiles_by : (x : Profile) → ProfileAnswers text test output x → Profiles ds (folded test) (folded output) x
    profiles_by x (not_accepted c) =
        let e = one_verdict text c ((accepted_iff_lawful text m w).1 lawful) in let z : ◌≡◌ {A = ℕ} 0 1 = cc in absurd (omega arith)
    profiles_by x (profiled d stands c z) =
        subst (λ y. Profiles (declarations y) (folded test) (folded output) x) (unique d lawful.description (stands ∙ sym lawful.stands)) z

    its : Profiles ds (folded test) (folded output) given.profile
    its = profiles_by given.profile given.answers

    pub no_test_exactly : (n ≡ 90) ↔ (body_of ds (folded test) ≡ none)
    no_test_exactly = by given.profile its given.number
      where
        by : (x : Profile) → Profiles ds (folded test) (folded output) x → n ≡ profile_number x → (n ≡ 90) ↔ (body_of ds (folded test) ≡ none)
        by x (no_body e) q = (λ z. e, λ z. q)
        by x (no_storage b e) q = (λ z. absurd (omega arith), λ z. absurd (b z))
        by x (early o p b e t l) q = (λ z. absurd (omega arith), λ z. absurd (b z))
        by x (in_time o b e l) q = (λ z. absurd (omega arith), λ z. absurd (b z))

    pub no_output_exactly : (n ≡ 91) ↔ ((¬ (body_of ds (folded test) ≡ none)) × (storage_of ds (folded output) ≡ none))
    no_output_exactly = by given.profile its given.number
      where
        by : (x : Profile) → Profiles ds (folded test) (folded output) x → n ≡ profile_number x
            → (n ≡ 91) ↔ ((¬ (body_of ds (folded test) ≡ none)) × (storage_of ds (folded output) ≡ none))
        by x (no_body e) q = (λ z. absurd (omega arith), λ z. absurd (z.0 e))
        by x (no_storage b e) q = (λ z. (b, e), λ z. q)
        by x (early o p b e t l) q = (λ z. absurd (omega arith), λ z. absurd (none-ne-some o (sym z.1 ∙ e)))
        by x (in_time o b e l) q = (λ z. absurd (omega arith), λ z. absurd (none-ne-some o (sym z.1 ∙ e)))

    module _ (body : ¬ (body_of ds (folded test) ≡ none)) (o : ℕ) (storage : storage_of ds (folded output) ≡ some o) where
      abbrev Lowest : ℕ → Type 0
      Lowest p = TooEarly ds (folded test) o p × ((q : ℕ) → TooEarly ds (folded test) o q → p ≤ q)

      -- it passes, or it fails at the lowest place
      abbrev Either : Profile → Type 0
      Either x = ((x ≡ passes) × ((p : ℕ) → ¬ TooEarly ds (folded test) o p)) ⊎ ((p : ℕ) × (x ≡ fails 92 p) × Lowest p)

      either_by : (x : Profile) → Profiles ds (folded test) (folded output) x → Either x
      either_by x (no_body e) = absurd (body e)
      either_by x (no_storage b e) = absurd (none-ne-some o (sym e ∙ storage))
      either_by x (early u p b e t l) =
          let s : u ≡ o = some-injective u o (sym e ∙ storage) in
          inr (p, refl, (subst (λ z. TooEarly ds (folded test) z p) s t, λ q y. l q (subst (λ z. TooEarly ds (folded test) z q) (sym s) y)))
      either_by x (in_time u b e l) =
          let s : u ≡ o = some-injective u o (sym e ∙ storage) in inl (refl, λ q y. l q (subst (λ z. TooEarly ds (folded test) z q) (sym s) y))

      one_of : Either given.profile
      one_of = either_by given.profile its

      pub passes_exactly_number : (n ≡ 0) ↔ ((p : ℕ) → ¬ TooEarly ds (folded test) o p)
      passes_exactly_number = by one_of
        where
          by : Either given.profile → (n ≡ 0) ↔ ((p : ℕ) → ¬ TooEarly ds (folded test) o p)
          by (inl h) = (λ z. h.1, λ z. given.number ∙ ap profile_number h.0)
          by (inr h) = (λ z. absurd (omega (arith, given.number ∙ ap profile_number h.1)), λ z. absurd (z h.0 h.2.0))

      pub passes_exactly : (ending_in after.answer ≡ 0) ↔ ((p : ℕ) → ¬ TooEarly ds (folded test) o p)
      passes_exactly = by one_of
        where
          code : ending_in after.answer ≡ profile_code given.profile
          code = ap ending_in given.answer ∙ profile_code_lem text given.profile before.answer

          by : Either given.profile → (ending_in after.answer ≡ 0) ↔ ((p : ℕ) → ¬ TooEarly ds (folded test) o p)
          by (inl h) = (λ z. h.1, λ z. code ∙ ap profile_code h.0)
          by (inr h) = (λ z. absurd (omega (arith, code ∙ ap profile_code h.1)), λ z. absurd (z h.0 h.2.0))

      -- places lie in the text, so that they fit into four bytes
      early_near : (p : ℕ) → TooEarly ds (folded test) o p → p < 4294967296
      early_near p t =
          omega (
            arith,
            under_member p (early_places ds (folded test) o)
                (places_under lawful.description (subst Near (sym lawful.stands) (scanned_near text short)) (folded test) o)
                ((listed_exactly ds (folded test) o
                (accepted_is_orderly text m w ((accepted_iff_lawful text m w).1 lawful) lawful.description lawful.stands) p).1 t),
          )

      pub fails_exactly : (p : ℕ) → ((n ≡ 92) × (little_endian 4 (drop 8 after.answer) ≡ p)) ↔ Lowest p
      fails_exactly p = by one_of
        where
          there : (k : ℕ) → given.profile ≡ fails 92 k → k < 4294967296 → little_endian 4 (drop 8 after.answer) ≡ k
          there k e l =
              ap (λ x. little_endian 4 (drop 8 x)) (given.answer ∙ ap (λ x. answered (profile_numbers text x) before.answer) e)
              ∙ place_in text 92 k before.answer l

          by : Either given.profile → ((n ≡ 92) × (little_endian 4 (drop 8 after.answer) ≡ p)) ↔ Lowest p
          by (inl h) = (λ z. absurd (omega (arith, z.0, given.number ∙ ap profile_number h.0)), λ z. absurd (h.1 p z.0))
          by (inr h) =
              let place = there h.0 h.1 (early_near h.0 h.2.0) in (
                λ z. subst Lowest (sym place ∙ z.1) h.2,
                λ z.
                    let a : p ≤ h.0 = z.1 h.0 h.2.0 in
                    let b : h.0 ≤ p = h.2.1 p z.0 in
                    (given.number ∙ ap profile_number h.1, place ∙ omega arith),
              )

      pub fails_there : (p : ℕ) → Lowest p → after.answer ≡ answered (refused_numbers text 92 p) before.answer
      fails_there p l = given.answer ∙ ap (λ x. answered (profile_numbers text x) before.answer) (by one_of)
        where
          by : Either given.profile → given.profile ≡ fails 92 p
          by (inl h) = absurd (h.1 p l.0)
          by (inr h) =
              let a : p ≤ h.0 = l.1 h.0 h.2.0 in
              let b : h.0 ≤ p = h.2.1 p l.0 in
              h.1 ∙ ap (fails 92) (omega arith)

  -- a call that passes
  module _ (passed : n ≡ 0) where
    -- a description of which the profile has the number 0
    abbrev Named : Description → Type 0
    Named d = (¬ (body_of (declarations d) (folded test) ≡ none)) × ((o : ℕ) × storage_of (declarations d) (folded output) ≡ some o)

    pub passed_lawful : (m : ℕ) × (w : ℕ) × (l : Lawful text m w) × Named l.description
    passed_lawful = by given.profile given.answers given.number
      where
        on : (d : Description) (x : Profile) → Profiles (declarations d) (folded test) (folded output) x → n ≡ profile_number x → Named d
        on d x (no_body e) q = absurd (omega arith)
        on d x (no_storage b e) q = absurd (omega arith)
        on d x (early o p b e t l) q = absurd (omega arith)
        on d x (in_time o b e l) q = (b, (o, e))

        by : (x : Profile) → ProfileAnswers text test output x → n ≡ profile_number x → (m : ℕ) × (w : ℕ) × (l : Lawful text m w) × Named l.description
        by x (not_accepted c) q = absurd (omega (arith, checks_numbered c))
        by x (profiled {n = k} {w = u} d s c z) q =
            let l = (accepted_iff_lawful text k u).0 c in (
              k,
              u,
              l,
              on l.description x
                  (subst (λ y. Profiles (declarations y) (folded test) (folded output) x) (unique d l.description (s ∙ sym l.stands)) z) q,
            )

    module _ (d : Description) (stands : flatten d ≡ (scan text).tokens) (o : ℕ) (storage : storage_of (declarations d) (folded output) ≡ some o) where
      abbrev table : Table
      table = declarations d

      accepts : Profiles table (folded test) (folded output) passes
      accepts = by given.profile given.answers given.number
        where
          on : (x : Profile) → Profiles table (folded test) (folded output) x → n ≡ profile_number x → Profiles table (folded test) (folded output) passes
          on x (no_body e) q = absurd (omega arith)
          on x (no_storage b e) q = absurd (omega arith)
          on x (early u p b e t l) q = absurd (omega arith)
          on x (in_time u b e l) q = in_time u b e l

          by : (x : Profile) → ProfileAnswers text test output x → n ≡ profile_number x → Profiles table (folded test) (folded output) passes
          by x (not_accepted c) q = absurd (omega (arith, checks_numbered c))
          by x (profiled d' s c z) q =
              on x (subst (λ y. Profiles (declarations y) (folded test) (folded output) x) (unique d' d (s ∙ sym stands)) z) q

      -- one more step behind some
      more : (j : ℕ) (c : Conf) (r : Live) (t : Carriers) (p : Steps table j c (running r t)) (m : Mv r)
          → (q : Steps table (suc j) c (step table r m t))
          × (test_ended table (folded test) (suc j) c (step table r m t) q
          ≡ (test_ended table (folded test) j c (running r t) p || ends_by table (folded test) r m (perform table (work r m) t)))
      more zero c r t p m =
          subst (λ x. (q : Steps table 1 x (step table r m t))
          × (test_ended table (folded test) 1 x (step table r m t) q ≡ ends_by table (folded test) r m (perform table (work r m) t)))
          (sym p) ((m, refl), or-false (ends_by table (folded test) r m (perform table (work r m) t)))
      more (suc j) (running u v) r t p m =
          let g = more j (step table u p.0 v) r t p.1 m in
          let E : Bool = ends_by table (folded test) u p.0 (perform table (work u p.0) v) in
          let F : Bool = ends_by table (folded test) r m (perform table (work r m) t) in
          let T : Bool = test_ended table (folded test) j (step table u p.0 v) (running r t) p.1 in
          ((p.0, g.0), ap (λ b. E || b) g.1 ∙ sym (or_assoc E T F))
      more (suc j) (finished v) r t p m = absurd p
      more (suc j) (stopped v) r t p m = absurd p
      more (suc j) (failed x y v) r t p m = absurd p

      module _ (s : Carriers) where
        abbrev start : Conf
        start = begin table (main_name table) s

        late_from : (j k : ℕ) (c e : Conf) (p : Steps table j start c) (q : Steps table k c e)
            → StoresLate table (folded test) o (test_ended table (folded test) j start c p) k c e q
        late_from j zero c e p q = tt
        late_from j (suc k) (running r t) e p q =
            let g = more j start r t p q.0 in (
              no_store_before table (folded test) (folded output) accepts o storage s j r t p q.0,
              subst (λ b. StoresLate table (folded test) o b k (step table r q.0 t) e q.1) g.1
                  (late_from (suc j) k (step table r q.0 t) e g.0 q.1),
            )
        late_from j (suc k) (finished t) e p q = tt
        late_from j (suc k) (stopped t) e p q = tt
        late_from j (suc k) (failed x y t) e p q = tt

        module _ (k : ℕ) (e : Conf) (q : Steps table k start e) where
          pub every_store_late : StoresLate table (folded test) o false k start e q
          every_store_late = late_from 0 k start e refl q

          pub output_unchanged : test_ended table (folded test) k start e q ≡ false → (x : Declared) → get_elem? table o ≡ some x → (j : ℕ) → j < words_of x
              → get_or (carriers_at e) (first_word table o + j) 0 ≡ get_or s (first_word table o + j) 0
          output_unchanged quiet x there j l =
              ap (λ c. get_or c (first_word table o + j) 0) (same e)
              ∙ output_kept table (folded test) o (accepted_none table (folded test) (folded output) accepts o storage) s (first_word table o + j)
              (owner_of table o x j there l) k e q quiet
            where
              same : (c : Conf) → carriers_at c ≡ carriers_in c
              same (running r t) = refl
              same (finished t) = refl
              same (stopped t) = refl
              same (failed m p t) = refl
