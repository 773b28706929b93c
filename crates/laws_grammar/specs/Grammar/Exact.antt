-- The recogniser's answer is right, and it is the only right one. Two descriptions with the same tokens are equal.
use Rattle.std.specs.Prelude.{◌≡◌, Bool, true, false, ℕ, suc, ◌+◌, ◌≤◌, ◌<◌, T, length, take, drop, get_or}
use Rattle.std.proofs.Math.Path.{refl, ap}
use Rattle.std.proofs.Common.{sym, ◌∙◌, subst, arith, length-append, take-append-drop, take-take}
use Rattle.std.proofs.Math.Option.{Option, none, some, none-ne-some, some-injective}
use mathlib.Core.List.{[], ◌∷◌, ◌++◌, append_assoc, append-nil}
use Rattle.std.proofs.Math.Decide.{dec_lt}
use Rattle.std.proofs.Math.Seq.{take-append_seam, get_or-append_seam}
use Rattle.rules.specs.Text.Tokens.{Token, tk, Name}
use Rattle.rules.specs.Grammar.Trees.{Tokens, Description, flatten}
use Rattle.laws_grammar.specs.Cited.Rows.{State, title, Stack, Move, after, row, lookup, too_deep, judge, run, recognise}
use Rattle.laws_grammar.specs.Grammar.Meanings.{stack_l}
use Rattle.laws_grammar.specs.Grammar.Reading.{read, sound}
use Rattle.laws_grammar.specs.Grammar.Complete.{complete}
use Rattle.laws_grammar.specs.Grammar.Follow.{trail, follow, onward, follow_append, follow_of_read, read_of_follow, cons_not_nil}
use Rattle.rules.specs.Grammar.Verdict.{any_info}
use Rattle.laws_grammar.specs.Grammar.Samples.{samples}
use Rattle.rules.specs.Grammar.Verdict.{opens, opened}
use Rattle.laws_grammar.specs.Grammar.Depth.{opened_append, opened_one, Deep, deep_title, step_deep, too_deep_full, full_too_deep}
use Rattle.rules.specs.Grammar.Verdict.{IsDescription, Begins, Crowded, Refused20, Refused21}
use Rattle.laws_grammar.specs.Grammar.Answer.{Right, Accepted}
use Rattle.laws_grammar.specs.Cited.Answer.{Answer, accepted, refused20, refused21}

abbrev start : Stack
start = title ∷ []

-- UNIQUE: a description's tokens determine it
pub unique : (d e : Description) → flatten d ≡ flatten e → d ≡ e
unique d e p =
    let x : (stack_l start).tree = (d, tt) in
    let y : (stack_l start).tree = (e, tt) in
    let q = sym (complete start x) ∙ ap (λ ts. read ts start) p ∙ complete start y in
    ap (λ z. z.0) (some-injective x y q)

-- what begins a description is what leads somewhere
follow_of_description : (ts : Tokens) → IsDescription ts → follow ts start ≡ some []
follow_of_description ts h =
    ap (λ l. follow l start) (sym h.1) ∙ follow_of_read (flatten h.0) start (h.0, tt) (complete start (h.0, tt))

description_of_follow : (ts : Tokens) → follow ts start ≡ some [] → IsDescription ts
description_of_follow ts h =
    let r = read_of_follow ts start h in
    (r.0.0, sound ts start r.0 r.1)

follow_onward : (ps ts : Tokens) (γ : Stack) → follow ps start ≡ some γ → follow (ps ++ ts) start ≡ follow ts γ
follow_onward ps ts γ h = follow_append ps ts start ∙ ap (onward ts) h

begins_of_follow : (ps : Tokens) (γ : Stack) → follow ps start ≡ some γ → Begins ps
begins_of_follow ps γ h =
    let rest = (stack_l γ).tokens (samples γ) [] in
    let e = follow_onward ps rest γ h ∙ follow_of_read rest γ (samples γ) (complete γ (samples γ)) in
    let d = description_of_follow (ps ++ rest) e in
    (d.0, rest, d.1)

onward_some : (ts : Tokens) (o : Option Stack) → onward ts o ≡ some [] → o ≡ none → ⊥
onward_some ts o h n = none-ne-some [] (ap (onward ts) (sym n) ∙ h)

begins_not_none : (ps : Tokens) → Begins ps → follow ps start ≡ none → ⊥
begins_not_none ps b n =
    onward_some b.1 (follow ps start) (sym (follow_append ps b.1 start) ∙ follow_of_description (ps ++ b.1) (b.0, b.2)) n

-- a prefix of what begins a description begins it too
begins_take : (n : ℕ) (ts : Tokens) → Begins ts → Begins (take n ts)
begins_take n ts b =
    (b.0, drop n ts ++ b.1, b.2 ∙ ap (λ l. l ++ b.1) (sym (take-append-drop n ts)) ∙ append_assoc (take n ts) (drop n ts) b.1)

begins_less : (n m : ℕ) (ts : Tokens) → n ≤ m → Begins (take m ts) → Begins (take n ts)
begins_less n m ts h b = subst Begins (take-take n m ts h) (begins_take n (take m ts) b)

begins_whole : (n : ℕ) (ts : Tokens) → IsDescription ts → Begins (take n ts)
begins_whole n ts h = begins_take n ts (h.0, [], h.1 ∙ sym (append-nil ts))

-- where the recogniser stands: behind ps, at number i, with ts to come, of the tokens all
module _ (all : Tokens) where
  take_here : (ps ts : Tokens) (i : ℕ) → ps ++ ts ≡ all → i ≡ length ps → take i all ≡ ps
  take_here ps ts i p e = ap (λ n. take n all) e ∙ ap (take (length ps)) (sym p) ∙ take-append_seam ps ts

  snoc : (ps ts : Tokens) (t : Token) → ps ++ (t ∷ ts) ≡ all → (ps ++ (t ∷ [])) ++ ts ≡ all
  snoc ps ts t p = append_assoc ps (t ∷ []) ts ∙ p

  length_snoc : (ps : Tokens) (t : Token) (i : ℕ) → i ≡ length ps → suc i ≡ length (ps ++ (t ∷ []))
  length_snoc ps t i e = omega (arith, length-append ps (t ∷ []))

  token_here : (ps ts : Tokens) (t : Token) (i : ℕ) → ps ++ (t ∷ ts) ≡ all → i ≡ length ps → get_or all i (tk Name any_info) ≡ t
  token_here ps ts t i p e = ap (λ n. get_or all n (tk Name any_info)) e ∙ ap (λ l. get_or l (length ps) (tk Name any_info)) (sym p) ∙ get_or-append_seam ps t ts (tk Name any_info)

  length_here : (ps ts : Tokens) (i : ℕ) → ps ++ ts ≡ all → i ≡ length ps → length all ≡ i + length ts
  length_here ps ts i p e = omega (arith, length-append ps ts, ap length p)

  record Here (ps ts : Tokens) (i : ℕ) (γ : Stack) : Type 0 where
    whole : ps ++ ts ≡ all
    at : i ≡ length ps
    led : follow ps start ≡ some γ
    deep : Deep γ (opened 0 ps)
    shallow : (j : ℕ) → j < i → ¬ Crowded all j

  begins_here : {ps ts : Tokens} {i : ℕ} {γ : Stack} → Here ps ts i γ → Begins (take i all)
  begins_here {ps} {ts} {i} {γ} h = subst Begins (sym (take_here ps ts i h.whole h.at)) (begins_of_follow ps γ h.led)

  -- the end of the tokens
  end_accepted : {ps : Tokens} {i : ℕ} → Here ps [] i [] → Accepted all
  end_accepted {ps} {i} h =
      let e : ps ≡ all = sym (append-nil ps) ∙ h.whole in
      record {
        whole = subst IsDescription e (description_of_follow ps h.led);
        shallow = λ j c. let l = length_here ps [] i h.whole h.at in let t = c.there in h.shallow j (omega arith) c;
      }

  end_refused : {ps : Tokens} {i : ℕ} {s : State} {σ : Stack} → Here ps [] i (s ∷ σ) → Refused20 all i
  end_refused {ps} {i} {s} {σ} h =
      let e : ps ≡ all = sym (append-nil ps) ∙ h.whole in
      let l = length_here ps [] i h.whole h.at in
      record {
        there = omega arith;
        begins = begins_here h;
        stops = λ q. absurd (omega arith);
        short = λ _ d. cons_not_nil (sym h.led ∙ ap (λ x. follow x start) e ∙ follow_of_description all d);
        shallow = h.shallow;
      }

  -- a token that leads nowhere
  token_refused : {ps ts : Tokens} {i : ℕ} {γ : Stack} (t : Token) → Here ps (t ∷ ts) i γ → follow (t ∷ []) γ ≡ none → Refused20 all i
  token_refused {ps} {ts} {i} {γ} t h n =
      let l = length_here ps (t ∷ ts) i h.whole h.at in
      let e = take_here (ps ++ (t ∷ [])) ts (suc i) (snoc ps ts t h.whole) (length_snoc ps t i h.at) in
      record {
        there = omega arith;
        begins = begins_here h;
        stops = λ _ b. begins_not_none (ps ++ (t ∷ [])) (subst Begins e b) (follow_onward ps (t ∷ []) γ h.led ∙ n);
        short = λ q. absurd (omega arith);
        shallow = h.shallow;
      }

  -- a token that leads on
  follow_one : (t : Token) (s : State) (σ : Stack) (m : Move) → lookup (row s) t.kind ≡ some m → follow (t ∷ []) (s ∷ σ) ≡ some (after m σ)
  unfolding follow trail
  follow_one t s σ m p = ap (trail σ (follow [])) p

  follow_none : (t : Token) (s : State) (σ : Stack) → lookup (row s) t.kind ≡ none → follow (t ∷ []) (s ∷ σ) ≡ none
  unfolding follow trail
  follow_none t s σ p = ap (trail σ (follow [])) p

  follow_empty : (t : Token) → follow (t ∷ []) [] ≡ none
  unfolding follow
  follow_empty t = refl

  led_on : {ps ts : Tokens} {i : ℕ} {s : State} {σ : Stack} (t : Token) (m : Move) → Here ps (t ∷ ts) i (s ∷ σ) → lookup (row s) t.kind ≡ some m
      → follow (ps ++ (t ∷ [])) start ≡ some (after m σ)
  led_on {ps} {ts} {i} {s} {σ} t m h p = follow_onward ps (t ∷ []) (s ∷ σ) h.led ∙ follow_one t s σ m p

  -- the token is crowded where its move is too deep, and only there
  crowded_here : {ps ts : Tokens} {i : ℕ} {s : State} {σ : Stack} (t : Token) (m : Move) → Here ps (t ∷ ts) i (s ∷ σ) → lookup (row s) t.kind ≡ some m
      → too_deep (suc (length σ)) m ≡ true → Crowded all i
  crowded_here {ps} {ts} {i} {s} {σ} t m h p d =
      let l = length_here ps (t ∷ ts) i h.whole h.at in
      let f = too_deep_full s σ t.kind m (opened 0 ps) p h.deep d in
      record {
        there = omega arith;
        opener = subst (λ x. T (opens x.kind)) (sym (token_here ps ts t i h.whole h.at)) f.0;
        full = subst (λ x. 32 ≤ opened 0 x) (sym (take_here ps (t ∷ ts) i h.whole h.at)) f.1;
      }

  not_crowded_here : {ps ts : Tokens} {i : ℕ} {s : State} {σ : Stack} (t : Token) (m : Move) → Here ps (t ∷ ts) i (s ∷ σ) → lookup (row s) t.kind ≡ some m
      → too_deep (suc (length σ)) m ≡ false → ¬ Crowded all i
  not_crowded_here {ps} {ts} {i} {s} {σ} t m h p d c =
      let o = subst (λ x. T (opens x.kind)) (token_here ps ts t i h.whole h.at) c.opener in
      let f = subst (λ x. 32 ≤ opened 0 x) (take_here ps (t ∷ ts) i h.whole h.at) c.full in
      subst T d (full_too_deep s σ t.kind m (opened 0 ps) p h.deep o f)

  too_deep_refused : {ps ts : Tokens} {i : ℕ} {s : State} {σ : Stack} (t : Token) (m : Move) → Here ps (t ∷ ts) i (s ∷ σ) → lookup (row s) t.kind ≡ some m
      → too_deep (suc (length σ)) m ≡ true → Refused21 all i
  too_deep_refused {ps} {ts} {i} {s} {σ} t m h p d =
      let e = take_here (ps ++ (t ∷ [])) ts (suc i) (snoc ps ts t h.whole) (length_snoc ps t i h.at) in
      record {
        crowded = crowded_here t m h p d;
        begins = subst Begins (sym e) (begins_of_follow (ps ++ (t ∷ [])) (after m σ) (led_on t m h p));
        shallow = h.shallow;
      }

  shallow_next : (i : ℕ) → ((j : ℕ) → j < i → ¬ Crowded all j) → ¬ Crowded all i → (j : ℕ) → j < suc i → ¬ Crowded all j
  shallow_next i h n j l = elim (dec_lt j i) [ yes b ↦ h j b | no b ↦ λ c. n (subst (λ x. Crowded all x) (omega arith) c) ]

  go_on : {ps ts : Tokens} {i : ℕ} {s : State} {σ : Stack} (t : Token) (m : Move) → Here ps (t ∷ ts) i (s ∷ σ) → lookup (row s) t.kind ≡ some m
      → too_deep (suc (length σ)) m ≡ false → Here (ps ++ (t ∷ [])) ts (suc i) (after m σ)
  go_on {ps} {ts} {i} {s} {σ} t m h p d =
      record {
        whole = snoc ps ts t h.whole;
        at = length_snoc ps t i h.at;
        led = led_on t m h p;
        deep = subst (Deep (after m σ)) (sym (opened_append 0 ps (t ∷ []) ∙ opened_one (opened 0 ps) t)) (step_deep s σ t.kind m (opened 0 ps) p h.deep);
        shallow = shallow_next i h.shallow (not_crowded_here t m h p d);
      }

  judge_deep : (ps ts : Tokens) (i : ℕ) (s : State) (σ : Stack) (t : Token) (m : Move) (b : Bool) → too_deep (suc (length σ)) m ≡ b → lookup (row s) t.kind ≡ some m
      → Here ps (t ∷ ts) i (s ∷ σ) → ((qs : Tokens) (γ : Stack) → Here qs ts (suc i) γ → Right all (run ts (suc i) γ))
      → Right all (elim b as (λ _. Answer) [ true ↦ refused21 i | false ↦ run ts (suc i) (after m σ) ])
  judge_deep ps ts i s σ t m true d p h ih = too_deep_refused t m h p d
  judge_deep ps ts i s σ t m false d p h ih = ih (ps ++ (t ∷ [])) (after m σ) (go_on t m h p d)

  judge_right : (ps ts : Tokens) (i : ℕ) (s : State) (σ : Stack) (t : Token) (o : Option Move) → lookup (row s) t.kind ≡ o
      → Here ps (t ∷ ts) i (s ∷ σ) → ((qs : Tokens) (γ : Stack) → Here qs ts (suc i) γ → Right all (run ts (suc i) γ))
      → Right all (judge σ i (run ts (suc i)) s o)
  unfolding judge
  judge_right ps ts i s σ t none p h ih = token_refused t h (follow_none t s σ p)
  judge_right ps ts i s σ t (some m) p h ih = judge_deep ps ts i s σ t m (too_deep (suc (length σ)) m) refl p h ih

  run_right : (ts ps : Tokens) (i : ℕ) (γ : Stack) → Here ps ts i γ → Right all (run ts i γ)
  unfolding run
  run_right [] ps i [] h = end_accepted h
  run_right [] ps i (s ∷ σ) h = end_refused h
  run_right (t ∷ ts) ps i [] h = token_refused t h (follow_empty t)
  run_right (t ∷ ts) ps i (s ∷ σ) h = judge_right ps ts i s σ t (lookup (row s) t.kind) refl h (λ qs γ. run_right ts qs (suc i) γ)

-- RIGHT: the recogniser's answer is as document 01 asks
pub right : (ts : Tokens) → Right ts (recognise ts)
unfolding recognise
right ts =
    run_right ts ts [] 0 start
    (record { whole = refl; at = refl; led = unfold follow in refl; deep = unfold opened in deep_title; shallow = λ j l. absurd (omega arith) })

-- ONLY: no other answer is
accepted_20 : (ts : Tokens) (k : ℕ) → Accepted ts → Refused20 ts k → ⊥
accepted_20 ts k a r =
    elim (dec_lt k (length ts)) [
      | yes l ↦ r.stops l (begins_whole (suc k) ts a.whole)
      | no n ↦ let t = r.there in r.short (omega arith) a.whole
    ]

less_20 : (ts : Tokens) (j k : ℕ) → j < k → k ≤ length ts → Begins (take k ts) → Refused20 ts j → ⊥
less_20 ts j k l t b r = r.stops (omega arith) (begins_less (suc j) k ts l b)

both_20_21 : (ts : Tokens) (j k : ℕ) → Refused20 ts j → Refused21 ts k → ⊥
both_20_21 ts j k r q =
    elim (dec_lt k j) [
      | yes l ↦ r.shallow k l q.crowded
      | no n ↦ let t = q.crowded.there in less_20 ts j (suc k) (omega arith) (omega arith) q.begins r
    ]

same_20 : (ts : Tokens) (j k : ℕ) → Refused20 ts j → Refused20 ts k → j ≡ k
same_20 ts j k r q =
    elim (dec_lt j k) [
      | yes l ↦ absurd (less_20 ts j k l q.there q.begins r)
      | no n ↦ elim (dec_lt k j) [
        | yes l ↦ absurd (less_20 ts k j l r.there r.begins q)
        | no n' ↦ omega arith
      ]
    ]

same_21 : (ts : Tokens) (j k : ℕ) → Refused21 ts j → Refused21 ts k → j ≡ k
same_21 ts j k r q =
    elim (dec_lt j k) [
      | yes l ↦ absurd (q.shallow j l r.crowded)
      | no n ↦ elim (dec_lt k j) [
        | yes l ↦ absurd (r.shallow k l q.crowded)
        | no n' ↦ omega arith
      ]
    ]

pub only : (ts : Tokens) (a b : Answer) → Right ts a → Right ts b → a ≡ b
only ts accepted accepted r q = refl
only ts accepted (refused20 k) r q = absurd (accepted_20 ts k r q)
only ts accepted (refused21 k) r q = absurd (r.shallow k q.crowded)
only ts (refused20 j) accepted r q = absurd (accepted_20 ts j q r)
only ts (refused20 j) (refused20 k) r q = ap refused20 (same_20 ts j k r q)
only ts (refused20 j) (refused21 k) r q = absurd (both_20_21 ts j k r q)
only ts (refused21 j) accepted r q = absurd (q.shallow j r.crowded)
only ts (refused21 j) (refused20 k) r q = absurd (both_20_21 ts k j q r)
only ts (refused21 j) (refused21 k) r q = ap refused21 (same_21 ts j k r q)

-- SOUND and COMPLETE, of the recogniser
pub accepted_right : (ts : Tokens) → recognise ts ≡ accepted → Accepted ts
accepted_right ts h = subst (Right ts) h (right ts)

pub accepted_of : (ts : Tokens) → Accepted ts → recognise ts ≡ accepted
accepted_of ts h = only ts (recognise ts) accepted (right ts) h

pub description_of_accepted : (ts : Tokens) → recognise ts ≡ accepted → IsDescription ts
description_of_accepted ts h = (accepted_right ts h).whole

pub accepted_of_description : (d : Description) → ((j : ℕ) → ¬ Crowded (flatten d) j) → recognise (flatten d) ≡ accepted
accepted_of_description d h = accepted_of (flatten d) (record { whole = (d, refl); shallow = h })
