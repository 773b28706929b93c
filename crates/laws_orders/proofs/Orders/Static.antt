-- An orderly description is well formed in the footprints of its sets.
use Rattle.std.specs.Prelude.{ℕ, ◌≡◌, refl, Bool, true, false, cond, ◌||◌, List, [], ◌∷◌, ◌++◌, ◌⊎◌}
use Rattle.std.proofs.Common.{sym, ◌∙◌, subst, inl, inr}
use Rattle.std.proofs.lemmas.Bool.{false≢true}
use Rattle.rules.specs.Text.Scan.{same_bytes}
use Rattle.rules.specs.Grammar.Precedence.{Expr}
use Rattle.rules.specs.Declarations.{Word, Table}
use Rattle.rules.specs.Steps.Actions.{Act, seq, par, label, ins, Ins, iff, decode, repeat, leave, restart, call, stop, noop, transfer, Alts, no_alts, alt}
use Rattle.rules.specs.Steps.Runs.{body_act}
use Rattle.rules.specs.Whole.Sets.{Sets, sets, union, member, race, meet, reads_of, sets_of, sets_i, sets_alts, body_sets, touched}
use Rattle.rules.specs.Limits.{longest_chain}
use Rattle.rules.specs.Whole.Sets.{stops_in, stops_i, stops_alts, body_stops, may_stop}
use Rattle.laws_orders.proofs.Orders.Orderly.{AllApart, AllApartI, AllApartAlts, Orderly, without, jumps_out, jumps_i, jumps_alts}
use Rattle.laws_orders.proofs.Orders.Foot.{Within, Sub, Indep, Sub-refl, Sub-trans}
use Rattle.laws_orders.proofs.Orders.Ok.{Env, under, In, OkA, OkI, OkAlts, BodiesOk, in_body}
use Rattle.laws_orders.proofs.Orders.Ok.{member as as_member}
use Rattle.laws_orders.proofs.Orders.Tests.{or_neither, or_left, or_right, member_left, member_right, member_either, no_meeting}
use Rattle.laws_orders.proofs.Orders.Owners.{owner_at}
use Rattle.laws_orders.proofs.Orders.Carriers.{foot_of, prints_of}
use Rattle.laws_orders.proofs.Orders.Chains.{sets_closed, stops_closed}

-- every one of some names is among the labels
abbrev AllIn : List Word → List Word → Type 0
AllIn ls [] = Unit {0}
AllIn ls (k ∷ ks) = In k ls × AllIn ls ks

all_left : (ls xs ys : List Word) → AllIn ls (xs ++ ys) → AllIn ls xs
all_left ls [] ys h = tt
all_left ls (x ∷ xs) ys h = (h.0, all_left ls xs ys h.1)

all_right : (ls xs ys : List Word) → AllIn ls (xs ++ ys) → AllIn ls ys
all_right ls [] ys h = h
all_right ls (x ∷ xs) ys h = all_right ls xs ys h.1

-- inside a label, the jumps to it may be made too
all_inside : (l : Word) (ls ks : List Word) → AllIn ls (without l ks) → AllIn (l ∷ ls) ks
unfolding without
all_inside l ls [] h = tt
all_inside l ls (k ∷ ks) h = by (same_bytes k l) (all_inside l ls ks) h
  where
    by :
        (b : Bool) → (AllIn ls (without l ks) → AllIn (l ∷ ls) ks) → AllIn ls (elim b [ true ↦ without l ks | false ↦ k ∷ without l ks ])
        → cond b (Unit {0}) (In k ls) × AllIn (l ∷ ls) ks
    by true ih q = (tt, ih q)
    by false ih q = (q.0, ih q.1)

-- what is known of an action: its sets, whether it may stop, and where it jumps
record Deeds : Type 0 where
  touches : Sets
  stops : Bool
  jumps : List Word

abbrev deeds : Sets → Bool → List Word → Deeds
deeds x b js = record { touches = x; stops = b; jumps = js }

infixl 60 ◌with◌
abbrev ◌with◌ : Deeds → Deeds → Deeds
x with y = deeds (union x.touches y.touches) (x.stops || y.stops) (x.jumps ++ y.jumps)

module _ (ds : Table) where
  sub_by :
      (x z : Sets) → ((c : ℕ) → member c x.reads ≡ true → member c z.reads ≡ true)
      → ((c : ℕ) → member c x.writes ≡ true → member c z.writes ≡ true)
      → Sub (foot_of ds x) (foot_of ds z)
  sub_by x z r w =
      record {
        reads = λ i p. either (owner_at ds i) (member_either (owner_at ds i) x.reads x.writes p);
        writes = λ i p. w (owner_at ds i) p;
      }
    where
      either : (c : ℕ) → (member c x.reads ≡ true) ⊎ (member c x.writes ≡ true) → member c (z.reads ++ z.writes) ≡ true
      either c (inl e) = member_left c z.reads z.writes (r c e)
      either c (inr e) = member_right c z.reads z.writes (w c e)

  sub_left : (x y : Sets) → Sub (foot_of ds x) (foot_of ds (union x y))
  sub_left x y = sub_by x (union x y) (λ c p. member_left c x.reads y.reads p) (λ c p. member_left c x.writes y.writes p)

  sub_right : (x y : Sets) → Sub (foot_of ds y) (foot_of ds (union x y))
  sub_right x y = sub_by y (union x y) (λ c p. member_right c x.reads y.reads p) (λ c p. member_right c x.writes y.writes p)

  -- members that do not race have independent footprints
  apart : (x y : Sets) → race x y ≡ false → Indep (foot_of ds x) (foot_of ds y)
  unfolding race
  apart x y h =
      let n = or_neither (meet x.writes (y.reads ++ y.writes)) (meet y.writes (x.reads ++ x.writes)) h in
      record {
        wr_rd = λ i p q. no_meeting (owner_at ds i) x.writes (y.reads ++ y.writes) n.0 p q;
        rd_wr = λ i p q. no_meeting (owner_at ds i) y.writes (x.reads ++ x.writes) n.1 q p;
        wr_wr = λ i p q. no_meeting (owner_at ds i) x.writes (y.reads ++ y.writes) n.0 p (member_right (owner_at ds i) y.reads y.writes q);
      }

  -- a place allows what is known of an action
  record Fits (x : Deeds) (E : Env) : Type 0 where
    within : Sub (foot_of ds x.touches) E.foot
    stopping : x.stops ≡ true → E.may_stop ≡ true
    jumping : AllIn E.scope x.jumps

  fits_left : (x y : Deeds) (E : Env) → Fits (x with y) E → Fits x E
  fits_left x y E f =
      record {
        within = Sub-trans (sub_left x.touches y.touches) f.within;
        stopping = λ p. f.stopping (or_left x.stops y.stops p);
        jumping = all_left E.scope x.jumps y.jumps f.jumping;
      }

  fits_right : (x y : Deeds) (E : Env) → Fits (x with y) E → Fits y E
  fits_right x y E f =
      record {
        within = Sub-trans (sub_right x.touches y.touches) f.within;
        stopping = λ p. f.stopping (or_right x.stops y.stops p);
        jumping = all_right E.scope x.jumps y.jumps f.jumping;
      }

  -- a member, in its own footprint
  fits_member : (x : Deeds) → x.stops ≡ false → x.jumps ≡ [] → Fits x (as_member (foot_of ds x.touches))
  fits_member x e n =
      record { within = Sub-refl (foot_of ds x.touches); stopping = λ p. absurd (false≢true (sym e ∙ p)); jumping = subst (AllIn []) (sym n) tt }

  fits_label : (l : Word) (x : Deeds) (E : Env) → Fits (deeds x.touches x.stops (without l x.jumps)) E → Fits x (under l E)
  fits_label l x E f = record { within = f.within; stopping = f.stopping; jumping = all_inside l E.scope x.jumps f.jumping }

  -- a test reads, and does nothing else
  abbrev testing : Expr → Deeds
  testing e = deeds (sets (reads_of ds e) []) false []

  test_reads : (e : Expr) (x : Deeds) (E : Env) → Fits (testing e with x) E → Within ((prints_of ds).test e) E.foot.rd
  test_reads e x E f i p = (fits_left (testing e) x E f).within.reads i (member_left (owner_at ds i) (reads_of ds e) [] p)

  abbrev deeds_of : Act → Deeds
  deeds_of a = deeds (sets_of ds (body_sets ds longest_chain) a) (stops_in (body_stops ds longest_chain) a) (jumps_out a)

  abbrev deeds_i : Ins → Deeds
  deeds_i i = deeds (sets_i ds (body_sets ds longest_chain) i) (stops_i (body_stops ds longest_chain) i) (jumps_i i)

  abbrev deeds_alts : Alts → Deeds
  deeds_alts bs = deeds (sets_alts ds (body_sets ds longest_chain) bs) (stops_alts (body_stops ds longest_chain) bs) (jumps_alts bs)

  mutual
    unfolding sets_of sets_i sets_alts stops_in stops_i stops_alts jumps_out jumps_i jumps_alts touched may_stop

    fits_ok : (a : Act) (E : Env) → AllApart ds a → Fits (deeds_of a) E → OkA (prints_of ds) E a
    fits_ok (seq a b) E g f = (fits_ok a E g.0 (fits_left (deeds_of a) (deeds_of b) E f), fits_ok b E g.1 (fits_right (deeds_of a) (deeds_of b) E f))
    fits_ok (par a b) E g f = (
      foot_of ds (touched ds a),
      foot_of ds (touched ds b),
      record {
        first = (fits_left (deeds_of a) (deeds_of b) E f).within;
        second = (fits_right (deeds_of a) (deeds_of b) E f).within;
        apart = apart (touched ds a) (touched ds b) g.0.no_race;
      },
      fits_ok a (as_member (foot_of ds (touched ds a))) g.1 (fits_member (deeds_of a) g.0.first_goes_on g.0.first_stays),
      fits_ok b (as_member (foot_of ds (touched ds b))) g.2 (fits_member (deeds_of b) g.0.second_goes_on g.0.second_stays),
    )
    fits_ok (label l a) E g f = fits_ok a (under l E) g (fits_label l (deeds_of a) E f)
    fits_ok (ins i) E g f = fits_i_ok i E g f

    fits_i_ok : (i : Ins) (E : Env) → AllApartI ds i → Fits (deeds_i i) E → OkI (prints_of ds) E i
    fits_i_ok (iff e a) E g f = (test_reads e (deeds_of a) E f, fits_ok a E g (fits_right (testing e) (deeds_of a) E f))
    fits_i_ok (decode p e bs) E g f = (test_reads e (deeds_alts bs) E f, fits_alts_ok bs E g (fits_right (testing e) (deeds_alts bs) E f))
    fits_i_ok (repeat a) E g f = fits_ok a E g f
    fits_i_ok (leave l) E g f = f.jumping.0
    fits_i_ok (restart l) E g f = f.jumping.0
    fits_i_ok (call n) E g f = record { foot = f.within; stopping = f.stopping }
    fits_i_ok stop E g f = f.stopping refl
    fits_i_ok noop E g f = tt
    fits_i_ok (transfer d e) E g f = f.within

    fits_alts_ok : (bs : Alts) (E : Env) → AllApartAlts ds bs → Fits (deeds_alts bs) E → OkAlts (prints_of ds) E bs
    fits_alts_ok no_alts E g f = tt
    fits_alts_ok (alt c a bs) E g f =
        (fits_ok a E g.0 (fits_left (deeds_of a) (deeds_alts bs) E f), fits_alts_ok bs E g.1 (fits_right (deeds_of a) (deeds_alts bs) E f))

  -- The bodies of an orderly description are well formed.
  pub bodies_ok : Orderly ds → BodiesOk (prints_of ds) (body_act ds)
  bodies_ok o n =
      fits_ok (body_act ds n) (in_body (prints_of ds) n) (o.groups n)
      (record {
        within = rw (sets_closed ds longest_chain n (o.chains n)) (Sub-refl (foot_of ds (body_sets ds longest_chain n)));
        stopping = λ p. sym (stops_closed ds longest_chain n (o.chains n)) ∙ p;
        jumping = all_inside n [] (jumps_out (body_act ds n)) (subst (AllIn []) (sym (o.jumps n)) tt);
      })
