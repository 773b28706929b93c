-- Laws of the loops over the members of a group: the earliest one that races, and the one at the place.
use Rattle.std.specs.Prelude.{ℕ, ◌+◌, ◌<◌, ◌≤◌, ◌≡◌, refl, Bool, true, false, List, [], ◌∷◌, ◌++◌, length, drop, Some, None}
use Rattle.std.proofs.Math.Path.{sym, ap, subst}
use Rattle.std.proofs.Common.{◌∙◌, arith, eq-eqb, ne_eqb, length-drop}
use Rattle.std.proofs.Math.Option.{Option, some}
use Rattle.rules.specs.Text.Tokens.{Token, Semi, kind_no}
use Rattle.rules.specs.Grammar.Trees.{Tokens}
use Rattle.rules.specs.Declarations.{Table}
use Rattle.rules.specs.Whole.Sets.{Sets, race}
use Rattle.laws_orders.proofs.Orders.Tests.{impossible}
use Rattle.reading.specs.Kinds.{next_no}
use Rattle.reading.specs.Behind.{behind}
use Rattle.reading.specs.Groups.{place_of}
use Rattle.reading.specs.Reading.{Kinded, Reading, table_of}
use Rattle.reading.specs.Laws.Reading.{kinded, next_token}
use Rattle.gathering.specs.Shown.{Gathers}
use Rattle.gathering.specs.Filling.{Complete}
use Rattle.whole.specs.GroupKeys.{Holding}
use Rattle.whole.specs.Laws.GroupKeys.{action_held, end_inside}
use Rattle.rules.specs.Reasons.{Member, earliest, Race, race_with, race_at, first_race, race_from}
use Rattle.racing.specs.Groups.{member_here, others_here, group_here}
use Rattle.racing.specs.Found.{Path, arrived, passes, member_at, race_of, PathTo, Leads, Chooses, RacesAt, InGroup}
use Rattle.racing.specs.declared.members.Pair.{Pair}
use Rattle.racing.specs.Laws.Bridge.{onward, others_onward}

module _ (ds : Table) (ts : Tokens) where
  path_up : {i k : ℕ} {xs : List Member} → Path ds ts i k xs → i ≤ k
  path_up arrived = omega arith
  path_up (passes e l s d t p) = omega (arith, path_up p)

  -- a path that has not arrived
  record Step (i k : ℕ) (xs : List Member) : Type 0 where
    end : ℕ
    rest : List Member
    is : xs ≡ member_here ds (drop i ts) ∷ rest
    low : i ≤ end
    short : end < length ts
    ends : drop end ts ≡ behind 0 (drop i ts)
    path : Path ds ts (end + 1) k rest

  step : {i k : ℕ} {xs : List Member} → i < k → Path ds ts i k xs → Step i k xs
  step h arrived = absurd (omega arith)
  step h (passes {xs = rest} e l s d t p) = record { end = e; rest = rest; is = refl; low = l; short = s; ends = d; path = p }

  over : {i k : ℕ} {xs : List Member} → k ≤ i → Path ds ts i k xs → xs ≡ []
  over h arrived = refl
  over h (passes e l s d t p) = absurd (omega (arith, path_up p))

  -- where an action ends is one token
  same_end : (e f : ℕ) → e < length ts → drop f ts ≡ drop e ts → f ≡ e
  same_end e f h q = omega (arith, ap length q, length-drop f ts, length-drop e ts)

  -- one member more
  longer : {i k : ℕ} {xs : List Member} (e : ℕ) → k ≤ e → e < length ts → drop e ts ≡ behind 0 (drop k ts) → next_no (drop e ts) ≡ kind_no Semi → Path ds ts i k xs
      → Path ds ts i (e + 1) (xs ++ (member_here ds (drop k ts) ∷ []))
  longer e l s d t arrived = passes e l s d t arrived
  longer e l s d t (passes f a b c g p) = passes f a b c g (longer e l s d t p)

-- the search for the earliest
pub record Choosing (records decls memo : List ℕ) (m n from later : ℕ) (r w : List ℕ) (i : ℕ) : Type 0 where
  pub leads : Leads records decls m n from later
  pub complete : Complete records decls memo m n
  pub held : (v : Reading records decls m n) → Holding r w (member_at v later).touches
  pub so_far : (v : Reading records decls m n) (xs : List Member) → PathTo v from later xs
      → (ys : List Member) × PathTo v i later ys × (earliest (member_at v later) xs ≡ earliest (member_at v later) ys)

member_held : {records decls memo : List ℕ} {m n : ℕ} (i : ℕ) (r w : List ℕ) (s : Bool) → Complete records decls memo m n → Gathers records decls memo m n i r w s
    → (v : Reading records decls m n) → Holding r w (member_at v i).touches
unfolding member_here
member_held i r w s c g v = action_held i r w s c g v

pub choose_starts : {records decls memo : List ℕ} {m n from later : ℕ} (r w : List ℕ) (s : Bool) → Leads records decls m n from later → Complete records decls memo m n
    → Gathers records decls memo m n later r w s → Choosing records decls memo m n from later r w from
choose_starts {later = later} r w s l c g = record { leads = l; complete = c; held = λ v. member_held later r w s c g v; so_far = λ v xs p. (xs, p, refl) }

-- whether two members race, as it is found
abbrev pub Racing : Bool → (r w r₁ w₁ : List ℕ) → Type 0
Racing b r w r₁ w₁ = (x y : Sets) → Holding r w x → Holding r₁ w₁ y → b ≡ race x y

module _ {records decls memo : List ℕ} {m n from later : ℕ} {r w : List ℕ} {i : ℕ} (inv : Choosing records decls memo m n from later r w i) where
  pub choose_none : later ≤ i → Chooses records decls m n from later later
  unfolding earliest
  choose_none h = record {
    near = omega arith;
    one = λ q v xs p. absurd (omega arith);
    nothing = λ q v xs p. let y = inv.so_far v xs p in y.2 ∙ ap (earliest (member_at v later)) (over (table_of v) v.tokens h y.1);
  }

  module _ (h : i < later) where
    -- where the member at i ends
    here : (v : Reading records decls m n) → Step (table_of v) v.tokens i later (inv.so_far v (inv.leads.path v).0 (inv.leads.path v).1).0
    here v = step (table_of v) v.tokens h (inv.so_far v (inv.leads.path v).0 (inv.leads.path v).1).1

    module _ (e : ℕ) (ends : (v : Kinded records n) → drop e v.tokens ≡ behind 0 (drop i v.tokens)) where
      pub its_end : e < n
      its_end =
          let v = inv.leads.reading in
          let s = here v in
          let q = same_end (table_of v) v.tokens s.end e s.short (ends (kinded v) ∙ sym s.ends) in
          omega (arith, q, s.short, v.count)

    module _ (r₁ w₁ : List ℕ) (s₁ : Bool) (g : Gathers records decls memo m n i r₁ w₁ s₁) {b : Bool} (t : Racing b r₁ w₁ r w) where
      races_is : (v : Reading records decls m n) → race (member_at v i).touches (member_at v later).touches ≡ b
      races_is v = sym (t (member_at v i).touches (member_at v later).touches (member_held i r₁ w₁ s₁ inv.complete g v) (inv.held v))

      pub choose_one : b ≡ true → Chooses records decls m n from later i
      unfolding earliest
      choose_one e = record {
        near = omega arith;
        one = λ q v xs p.
            let y = inv.so_far v xs p in
            let s = step (table_of v) v.tokens h y.1 in
            y.2 ∙ (ap (earliest (member_at v later)) s.is ∙ rw (races_is v ∙ e, earliest) refl);
        nothing = λ q v xs p. absurd (omega arith);
      }

      pub choose_on : (e : ℕ) → ((v : Kinded records n) → drop e v.tokens ≡ behind 0 (drop i v.tokens)) → b ≡ false → Choosing records decls memo m n from later r w (e + 1)
      unfolding earliest
      choose_on e ends f = record {
        leads = inv.leads;
        complete = inv.complete;
        held = inv.held;
        so_far = λ v xs p.
            let y = inv.so_far v xs p in
            let s = step (table_of v) v.tokens h y.1 in
            let q = same_end (table_of v) v.tokens s.end e s.short (ends (kinded v) ∙ sym s.ends) in (
              s.rest,
              subst (λ (z : ℕ). PathTo v (z + 1) later s.rest) (sym q) s.path,
              y.2 ∙ (ap (earliest (member_at v later)) s.is ∙ rw (races_is v ∙ f, earliest) refl),
            );
      }

-- the member at later, if it stands at the place
module _ {records decls : List ℕ} {m n from later place : ℕ} where
  pub at_other : {q : ℕ} → Reading records decls m n → ((v : Reading records decls m n) → q ≡ place_of (drop later v.tokens)) → (q ≡ place → ⊥)
      → RacesAt records decls m n from later place later
  unfolding race_at member_here
  at_other e w ne = record {
    near = omega arith;
    one = λ h v xs p. absurd (omega arith);
    nothing = λ h v xs p. rw (ne_eqb (place_of (drop later v.tokens)) place (λ z. ne (w v ∙ z)), race_at) refl;
  }

  pub at_place : {q r : ℕ} → ((v : Reading records decls m n) → q ≡ place_of (drop later v.tokens)) → q ≡ place → Chooses records decls m n from later r
      → RacesAt records decls m n from later place r
  unfolding race_at member_here
  at_place {r = r} w e c = record {
    near = c.near;
    one = λ h v xs p. rw (eq-eqb (place_of (drop later v.tokens)) place (sym (w v) ∙ e), race_at) (ap (race_with (member_at v later)) (c.one h v xs p));
    nothing = λ h v xs p. rw (eq-eqb (place_of (drop later v.tokens)) place (sym (w v) ∙ e), race_at) (ap (race_with (member_at v later)) (c.nothing h v xs p));
  }

-- the search for the member at the place
pub record Searching (records decls memo : List ℕ) (m n from place i : ℕ) : Type 0 where
  pub reading : Reading records decls m n
  pub complete : Complete records decls memo m n
  pub so_far : (v : Reading records decls m n) → (xs : List Member) × PathTo v from i xs
      × (race_from place [] (group_here (table_of v) (drop from v.tokens)) ≡ race_from place xs (group_here (table_of v) (drop i v.tokens)))

pub search_starts : {records decls memo : List ℕ} {m n from place : ℕ} → Reading records decls m n → Complete records decls memo m n
    → Searching records decls memo m n from place from
search_starts x c = record { reading = x; complete = c; so_far = λ v. ([], arrived, refl) }

no_onward : (ds : Table) (ts : Tokens) → (next_no ts ≡ kind_no Semi → ⊥) → onward ds ts ≡ []
unfolding onward
no_onward ds [] n = refl
no_onward ds (t ∷ ts) n = rw (ne_eqb (next_no (t ∷ ts)) (kind_no Semi) n, onward)

semi_onward : (ds : Table) (ts rest : Tokens) {t : Token} → ts ≡ t ∷ rest → next_no ts ≡ kind_no Semi → onward ds ts ≡ group_here ds rest
unfolding onward
semi_onward ds ts rest {t} e h = ap (onward ds) e ∙ rw (eq-eqb (next_no (t ∷ rest)) (kind_no Semi) (sym (ap next_no e) ∙ h), onward) refl

module _ {records decls memo : List ℕ} {m n from place i : ℕ} (inv : Searching records decls memo m n from place i) where
  pub search_leads : Leads records decls m n from i
  search_leads = record { reading = inv.reading; path = λ v. ((inv.so_far v).0, (inv.so_far v).1) }

  module _ {r : ℕ} (at : RacesAt records decls m n from i place r) where
    pub search_found : r < i → InGroup records decls m n from place (Some (record { earlier = r; later = i }))
    unfolding race_from
    search_found h = record {
      apart = λ {q} e. let same : ◌≡◌ {A = Pair} (record { earlier = r; later = i }) q = cc in subst (λ (x : Pair). x.earlier < x.later) same h;
      one = λ {q} e v.
          let same : ◌≡◌ {A = Pair} (record { earlier = r; later = i }) q = cc in
          let y = inv.so_far v in
          y.2 ∙ ap (λ (o : Option Race). first_race o (race_from place (y.0 ++ (member_at v i ∷ [])) (others_here (table_of v) 0 (drop i v.tokens))))
          (at.one h v y.0 y.1 ∙ ap (λ (x : Pair). some (race_of v x.earlier x.later)) same);
      nothing = λ e v. impossible (cc);
    }

    module _ (h : i ≤ r) (e : ℕ) (ends : (v : Kinded records n) → drop e v.tokens ≡ behind 0 (drop i v.tokens)) {k : ℕ}
        (kind : (v : Kinded records n) → k ≡ next_no (drop e v.tokens)) where
      left : (v : Reading records decls m n) → race_from place [] (group_here (table_of v) (drop from v.tokens))
          ≡ race_from place ((inv.so_far v).0 ++ (member_at v i ∷ [])) (onward (table_of v) (drop e v.tokens))
      unfolding race_from
      left v =
          let y = inv.so_far v in
          let xs = y.0 ++ (member_at v i ∷ []) in
          y.2 ∙ (ap (λ (o : Option Race). first_race o (race_from place xs (others_here (table_of v) 0 (drop i v.tokens)))) (at.nothing h v y.0 y.1)
          ∙ ap (race_from place xs) (others_onward (table_of v) 0 (drop i v.tokens) ∙ ap (onward (table_of v)) (sym (ends (kinded v)))))

      pub search_over : (k ≡ kind_no Semi → ⊥) → InGroup records decls m n from place None
      unfolding race_from
      search_over s = record {
        apart = λ q. impossible (cc);
        one = λ q v. impossible (cc);
        nothing = λ q v.
            left v ∙ ap (race_from place ((inv.so_far v).0 ++ (member_at v i ∷ []))) (no_onward (table_of v) (drop e v.tokens) (λ z. s (kind (kinded v) ∙ z)));
      }

      pub search_on : i ≤ e → k ≡ kind_no Semi → Searching records decls memo m n from place (e + 1)
      search_on l s = record {
        reading = inv.reading;
        complete = inv.complete;
        so_far = λ v.
            let y = inv.so_far v in
            let inside = end_inside e (kinded v) kind s in
            let semi = sym (kind (kinded v)) ∙ s in (
              y.0 ++ (member_at v i ∷ []),
              longer (table_of v) v.tokens e l (omega (arith, inside, v.count)) (ends (kinded v)) semi y.1,
              left v ∙ ap (race_from place (y.0 ++ (member_at v i ∷ []))) (semi_onward (table_of v) (drop e v.tokens) (drop (e + 1) v.tokens) (next_token (kinded v) e inside) semi),
            );
      }
