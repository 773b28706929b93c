-- The chain that 51 is given is true of the text: each body activates the next one, and the last one is listed before or is the 17th. Where 51 is refused
-- there is one.
use Prim.Native.Nat.{ℕ, zero, suc, ◌+◌}
use Rattle.std.specs.Prelude.{◌≡◌, Bool, ◌&&◌, ◌||◌, ◌⊎◌, eqb, length}
use Rattle.std.proofs.Math.Path.{refl, ap}
use Rattle.std.proofs.Common.{sym, ◌∙◌, subst, inr, arith, eq-eqb, eqb-true}
use Rattle.std.proofs.Math.Bool.{true, false}
use Rattle.std.proofs.lemmas.Bool.{false≢true}
use mathlib.Core.List.{List, [], ◌∷◌, ◌++◌}
use Rattle.std.proofs.Math.Logic.{inl}
use Rattle.std.proofs.Math.Option.{Option, none, some, none-ne-some, some-injective}
use Rattle.std.proofs.Math.ListN.{get_elem?}
use Rattle.rules.specs.Limits.{longest_chain}
use Rattle.rules.specs.Grammar.Trees.{Action}
use Rattle.rules.specs.Declarations.{Word, Declared, Table, number_of, body_number, body_of}
use Rattle.rules.specs.Steps.Runs.{act_or, body_act}
use Rattle.rules.specs.Whole.Sets.{member, calls_in, calls_i, any_name, chain_over}
use Rattle.rules.specs.Faults.Fault.{Fault, fault, when}
use Rattle.rules.specs.Faults.Bodies.{faults40}
use Rattle.rules.specs.Faults.Whole.{mains, begins_chain, chains, groups_faults, faults50}
use Rattle.rules.specs.Truth.{Activates, Activating, Closing, ChainTrue}
use Rattle.laws_accepted.proofs.Accepted.Named.{and_both}
use Rattle.rules.specs.Reasons.{chained, first_over, body_of_number, chain_behind, refused_body, places_in, chain_of, chain_from, reason51}
use Rattle.reasons.specs.Laws.Refused.{Among, among_either, among_when}
use Rattle.reasons.specs.Laws.Fifties.{mains_50, from_52}
use Rattle.reasons.specs.Laws.Activations.{Known, AllKnown, body_known}

module _ (ds : Table) where
  -- the first activation that begins a chain over k
  record Over (k : ℕ) (ns : List Word) (c : ℕ) : Type 0 where
    number : ℕ
    name : Word
    there : get_elem? ns number ≡ some name
    is : number_of ds name ≡ some c
    over : chain_over ds k name ≡ true

  first_over_lem : (k : ℕ) (ns : List Word) (c : ℕ) → first_over ds k ns ≡ some c → Over k ns c
  unfolding first_over
  first_over_lem k [] c e = absurd (none-ne-some c e)
  first_over_lem k (n ∷ ns) c e = by (chain_over ds k n) refl e (λ h. first_over_lem k ns c h)
    where
      by : (b : Bool) → chain_over ds k n ≡ b → elim b [ true ↦ number_of ds n | false ↦ first_over ds k ns ] ≡ some c → (first_over ds k ns ≡ some c → Over k ns c) → Over k (n ∷ ns) c
      by true q h rest = record { number = 0; name = n; there = refl; is = h; over = q }
      by false q h rest = let r = rest h in record { number = suc r.number; name = r.name; there = r.there; is = r.is; over = r.over }

  -- a chain begins with its body
  record Begins (b : ℕ) (bs : List ℕ) : Type 0 where
    rest : List ℕ
    is : bs ≡ b ∷ rest

  begins : (k : ℕ) (listed : List ℕ) (b : ℕ) → Begins b (chain_behind ds k listed b)
  unfolding chain_behind
  begins zero listed b = record { rest = []; is = refl }
  begins (suc k) listed b = by (member b listed)
    where
      by : (o : Bool) → Begins b (elim o [
        | true ↦ b ∷ []
        | false ↦ b ∷ elim (first_over ds k (calls_in (body_of_number ds b))) [ none ↦ [] | some c ↦ chain_behind ds k (b ∷ listed) c ]
      ])
      by true = record { rest = []; is = refl }
      by false = record { rest = _; is = refl }

  joined : (b c : ℕ) (bs : List ℕ) → Activates ds b c → Begins c bs → Activating ds bs → Activating ds (b ∷ bs)
  joined b c bs a s l = subst (λ (x : List ℕ). Activating ds (b ∷ x)) (sym s.is) (a, subst (Activating ds) s.is l)

  -- LINKED: each body activates the next one
  chain_linked : (k : ℕ) (listed : List ℕ) (b : ℕ) → Activating ds (chain_behind ds k listed b)
  unfolding chain_behind
  chain_linked zero listed b = tt
  chain_linked (suc k) listed b = by (member b listed) (λ c. chain_linked k (b ∷ listed) c)
    where
      on : (o : Option ℕ) → first_over ds k (calls_in (body_of_number ds b)) ≡ o → ((c : ℕ) → Activating ds (chain_behind ds k (b ∷ listed) c))
          → Activating ds (b ∷ elim o [ none ↦ [] | some c ↦ chain_behind ds k (b ∷ listed) c ])
      on none e rest = tt
      on (some c) e rest =
          let f = first_over_lem k (calls_in (body_of_number ds b)) c e in
          joined b c (chain_behind ds k (b ∷ listed) c) (record { number = f.number; name = f.name; called = f.there; is = f.is }) (begins k (b ∷ listed) c) (rest c)

      by : (o : Bool) → ((c : ℕ) → Activating ds (chain_behind ds k (b ∷ listed) c)) → Activating ds (elim o [
        | true ↦ b ∷ []
        | false ↦ b ∷ elim (first_over ds k (calls_in (body_of_number ds b))) [ none ↦ [] | some c ↦ chain_behind ds k (b ∷ listed) c ]
      ])
      by true rest = tt
      by false rest = on (first_over ds k (calls_in (body_of_number ds b))) refl rest

  -- a name that begins a chain has a body with activations
  record Leads (k b : ℕ) : Type 0 where
    over : any_name (chain_over ds k) (calls_in (body_of_number ds b)) ≡ true

  leads : (k : ℕ) (n : Word) (b : ℕ) → number_of ds n ≡ some b → chain_over ds (suc k) n ≡ true → Leads k b
  unfolding chain_over body_act body_of
  leads k n b e h = record { over = ap (λ (o : Option ℕ). any_name (chain_over ds k) (calls_in (act_or (body_number ds o)))) (sym e) ∙ h }

  abbrev NotNone : Option ℕ → Type 0
  NotNone none = ⊥
  NotNone (some c) = Unit {0}

  record Next (k : ℕ) (ns : List Word) : Type 0 where
    number : ℕ
    is : first_over ds k ns ≡ some number

  next_over : (k : ℕ) (ns : List Word) → AllKnown ds ns → any_name (chain_over ds k) ns ≡ true → Next k ns
  unfolding first_over any_name
  next_over k [] x h = absurd (false≢true h)
  next_over k (n ∷ ns) x h = chosen (by (chain_over ds k n) h (λ q. next_over k ns x.1 q))
    where
      chosen : (o : Option ℕ) × (first_over ds k (n ∷ ns) ≡ o) × NotNone o → Next k (n ∷ ns)
      chosen (none, e, t) = absurd t
      chosen (some c, e, t) = record { number = c; is = e }

      by : (b : Bool) → (b || any_name (chain_over ds k) ns) ≡ true → (any_name (chain_over ds k) ns ≡ true → Next k ns)
          → (o : Option ℕ) × (elim b [ true ↦ number_of ds n | false ↦ first_over ds k ns ] ≡ o) × NotNone o
      by true q rest = (some x.0.number, x.0.is, tt)
      by false q rest = let r = rest q in (some r.number, r.is, tt)

  module _ (known : (b : ℕ) → AllKnown ds (calls_in (body_of_number ds b))) where
    closed_on : (listed : List ℕ) (b c : ℕ) (bs : List ℕ) → Begins c bs → Closing (b ∷ listed) bs → Closing listed (b ∷ bs)
    closed_on listed b c bs s x = subst (λ (l : List ℕ). Closing listed (b ∷ l)) (sym s.is) (subst (Closing (b ∷ listed)) s.is x)

    abbrev Ends : List ℕ → ℕ → List ℕ → Type 0
    Ends listed k bs = (length bs ≡ suc (suc k)) ⊎ Closing listed bs

    -- CLOSED OR PASSED: the last body is listed before, or k + 1 bodies are listed
    chain_ends : (k : ℕ) (listed : List ℕ) (b : ℕ) → ((j : ℕ) → suc j ≡ k → Leads j b) → (length (chain_behind ds k listed b) ≡ suc k) ⊎ Closing listed (chain_behind ds k listed b)
    unfolding chain_behind
    chain_ends zero listed b l = inl refl
    chain_ends (suc k) listed b l = by (member b listed) refl (λ c h. chain_ends k (b ∷ listed) c h)
      where
        next : Next k (calls_in (body_of_number ds b))
        next = next_over k (calls_in (body_of_number ds b)) (known b) (l k refl).over

        onward : Over k (calls_in (body_of_number ds b)) next.number
        onward = first_over_lem k (calls_in (body_of_number ds b)) next.number next.is

        further : (j : ℕ) → suc j ≡ k → Leads j next.number
        further j e = leads j onward.name next.number onward.is (ap (λ (i : ℕ). chain_over ds i onward.name) e ∙ onward.over)

        added : (length (chain_behind ds k (b ∷ listed) next.number) ≡ suc k) ⊎ Closing (b ∷ listed) (chain_behind ds k (b ∷ listed) next.number)
            → (length (b ∷ chain_behind ds k (b ∷ listed) next.number) ≡ suc (suc k)) ⊎ Closing listed (b ∷ chain_behind ds k (b ∷ listed) next.number)
        added (inl e) = inl (ap suc e)
        added (inr x) = inr (closed_on listed b next.number (chain_behind ds k (b ∷ listed) next.number) (begins k (b ∷ listed) next.number) x)

        by : (o : Bool) → member b listed ≡ o
            → ((c : ℕ) → ((j : ℕ) → suc j ≡ k → Leads j c) → (length (chain_behind ds k (b ∷ listed) c) ≡ suc k) ⊎ Closing (b ∷ listed) (chain_behind ds k (b ∷ listed) c))
            → Ends listed k (elim o [
              | true ↦ b ∷ []
              | false ↦ b ∷ elim (first_over ds k (calls_in (body_of_number ds b))) [ none ↦ [] | some c ↦ chain_behind ds k (b ∷ listed) c ]
            ])
        by true q rest = inr q
        by false q rest =
            subst (λ (o : Option ℕ). Ends listed k (b ∷ elim o [ none ↦ [] | some c ↦ chain_behind ds k (b ∷ listed) c ])) (sym next.is) (added (rest next.number further))

begins_over : (ds : Table) (n : Word) (o : Option Action) → begins_chain ds n o ≡ true → chain_over ds longest_chain n ≡ true
begins_over ds n none e = absurd (false≢true e)
begins_over ds n (some a) e = e

refused_body_lem : (all : Table) (p : ℕ) (ds : Table) (n : Word) → refused_body all p ds ≡ some n
    → (i : ℕ) × (d : Declared) × (get_elem? ds i ≡ some d) × (d.name.place ≡ p) × (d.name.word ≡ n) × (chain_over all longest_chain n ≡ true)
unfolding refused_body
refused_body_lem all p [] n e = absurd (none-ne-some n e)
refused_body_lem all p (d ∷ ds) n e = by (eqb d.name.place p && begins_chain all d.name.word d.body) refl e (λ h. refused_body_lem all p ds n h)
  where
    by : (b : Bool) → (eqb d.name.place p && begins_chain all d.name.word d.body) ≡ b → elim b [ true ↦ some d.name.word | false ↦ refused_body all p ds ] ≡ some n
        → (refused_body all p ds ≡ some n
        → (i : ℕ) × (x : Declared) × (get_elem? ds i ≡ some x) × (x.name.place ≡ p) × (x.name.word ≡ n) × (chain_over all longest_chain n ≡ true))
        → (i : ℕ) × (x : Declared) × (get_elem? (d ∷ ds) i ≡ some x) × (x.name.place ≡ p) × (x.name.word ≡ n) × (chain_over all longest_chain n ≡ true)
    by true q h rest =
        let w = some-injective d.name.word n h in
        let x = and_both (eqb d.name.place p) (begins_chain all d.name.word d.body) q in
        (0, d, refl, eqb-true d.name.place p x.0, w, subst (λ (y : Word). chain_over all longest_chain y ≡ true) w (begins_over all d.name.word d.body x.1))
    by false q h rest = let r = rest h in (suc r.0, r.1, r.2, r.3, r.4, r.5)

record Picked (o : Option Word) : Type 0 where
  name : Word
  is : o ≡ some name

picked : (all : Table) (p : ℕ) (ds : Table) → Among (fault 51 p) (chains all ds) → Picked (refused_body all p ds)
unfolding chains refused_body
picked all p [] x = absurd x
picked all p (d ∷ ds) x = by (among_either (fault 51 p) (when (begins_chain all d.name.word d.body) 51 d.name.place) (chains all ds) x) (picked all p ds)
  where
    behind : (b : Bool) → Picked (refused_body all p ds) → Picked (elim b [ true ↦ some d.name.word | false ↦ refused_body all p ds ])
    behind true r = record { name = d.name.word; is = refl }
    behind false r = r

    here : (b c : Bool) → b ≡ true → c ≡ true → Picked (elim (b && c) [ true ↦ some d.name.word | false ↦ refused_body all p ds ])
    here b c e q = record { name = d.name.word; is = rw (e, q) refl }

    by : Among (fault 51 p) (when (begins_chain all d.name.word d.body) 51 d.name.place) ⊎ Among (fault 51 p) (chains all ds)
        → (Among (fault 51 p) (chains all ds) → Picked (refused_body all p ds))
        → Picked (elim (eqb d.name.place p && begins_chain all d.name.word d.body) [ true ↦ some d.name.word | false ↦ refused_body all p ds ])
    by (inl y) rest =
        let z = among_when (fault 51 p) (begins_chain all d.name.word d.body) 51 d.name.place y in
        here (eqb d.name.place p) (begins_chain all d.name.word d.body) (eq-eqb d.name.place p (ap (λ (f : Fault). f.place) z.1)) z.0
    by (inr y) rest = behind (eqb d.name.place p && begins_chain all d.name.word d.body) (rest y)

-- a name that begins a chain is declared
declared_over : (ds : Table) (k : ℕ) (n : Word) → chain_over ds (suc k) n ≡ true → Known ds n
unfolding chain_over body_act body_of body_number calls_in calls_i any_name
declared_over ds k n h = by (number_of ds n) refl h
  where
    by : (o : Option ℕ) → number_of ds n ≡ o → any_name (chain_over ds k) (calls_in (act_or (body_number ds o))) ≡ true → Known ds n
    by none e q = absurd (false≢true q)
    by (some b) e q = record { number = b; is = e }

-- WHERE 51 IS REFUSED THERE IS A CHAIN TO NAME, AND IT IS TRUE OF THE TEXT.
pub record ChainNamed (ds : Table) (p : ℕ) : Type 0 where
  pub places : List ℕ
  pub is : reason51 ds p ≡ chained places
  pub true_of_text : ChainTrue ds p places

-- 51 comes from a chain
of_chains : (ds : Table) (p : ℕ) → Among (fault 51 p) (faults50 ds) → Among (fault 51 p) (chains ds ds)
unfolding faults50
of_chains ds p x = by (among_either (fault 51 p) (mains false ds) (chains ds ds ++ groups_faults ds ds) x)
  where
    last : Among (fault 51 p) (chains ds ds) ⊎ Among (fault 51 p) (groups_faults ds ds) → Among (fault 51 p) (chains ds ds)
    last (inl y) = y
    last (inr y) = absurd (omega (arith, from_52 ds ds (fault 51 p) y))

    by : Among (fault 51 p) (mains false ds) ⊎ Among (fault 51 p) (chains ds ds ++ groups_faults ds ds) → Among (fault 51 p) (chains ds ds)
    by (inl y) = absurd (omega (arith, mains_50 false ds (fault 51 p) y))
    by (inr y) = last (among_either (fault 51 p) (chains ds ds) (groups_faults ds ds) y)

pub chain_named : (outer : Word) (ds : Table) (p : ℕ) → faults40 outer ds ds ≡ [] → Among (fault 51 p) (faults50 ds) → ChainNamed ds p
unfolding reason51
chain_named outer ds p of40 x =
    let w = picked ds p ds (of_chains ds p x) in
    let n = w.name in
    let r = refused_body_lem ds p ds n w.is in
    let d = declared_over ds 15 n r.5 in
    let b = d.number in
    let bs = chain_behind ds longest_chain [] b in
    let s = begins ds longest_chain [] b in
    record {
      places = places_in ds bs;
      is = ap (chain_from ds) w.is ∙ ap (chain_of ds) d.is;
      true_of_text = record {
        name = n;
        refused = record { number = r.0; declared = r.1; there = r.2; placed = r.3; named = r.4; over = r.5 };
        first = b;
        its_number = d.is;
        others = s.rest;
        are = ap (places_in ds) s.is;
        linked = subst (Activating ds) s.is (chain_linked ds longest_chain [] b);
        closes_or_passes = subst (λ (l : List ℕ). (length l ≡ suc longest_chain) ⊎ Closing [] l) s.is
            (chain_ends ds (λ c. body_known ds outer c of40) longest_chain [] b (λ j e. leads ds j n b d.is (ap (λ (i : ℕ). chain_over ds i n) e ∙ r.5)));
      };
    }
