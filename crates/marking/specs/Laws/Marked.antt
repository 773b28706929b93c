-- Where the tokens of an action have the cells that are worked out for them, its members are marked.
use Prim.Native.Nat.{ℕ, zero, suc, ◌+◌, ◌-◌, ◌≤◌, ◌<◌}
use Rattle.std.specs.Prelude.{◌≡◌, refl, Bool, true, false, List, [], ◌∷◌}
use Rattle.std.proofs.Common.{ap, ◌∙◌, lt-ltb}
use Rattle.std.proofs.Math.Path.{subst}
use native.Mathlib.Omega.{arith}
use Rattle.std.proofs.Math.ListN.{length}
use Rattle.rules.specs.Text.Tokens.{Info, tk, kind_no, Equals, Arrow, Becomes, BEGIN, END, Semi, NEXT}
use Rattle.rules.specs.Grammar.Trees.{Tokens, Operand, operand_tokens, Tail, tail_tokens, bits_tokens, joined_tokens}
use Rattle.rules.specs.Grammar.Trees.{Action, block, labelled, if_then, decode, repeat, leave, restart, activate, stop, no_op, transfer, action_tokens, Members, end, also, next, members_tokens}
use Rattle.rules.specs.Grammar.Trees.{Alternatives, counted, selected, alternatives_tokens, Counted, counted_end, counted_more, counted_tokens, Selected, select, otherwise, selected_tokens, SelectedMore, selected_end, selected_more, selected_more_tokens}
use Rattle.rules.specs.Faults.Whole.{has_more}
use Rattle.rules.specs.Limits.{deepest}
use Rattle.laws_grammar.specs.Cited.Nesting.{action_nest, members_nest, alternatives_nest, counted_nest, selected_nest, selected_more_nest}
use Rattle.laws_grammar.specs.Grammar.Positions.{operand_writes, tail_writes, selector_writes, action_writes}
use Rattle.laws_code.specs.Cited.Code.{action_size, expr_size, selector_size, behind_test}
use Rattle.laws_code.proofs.Links.Numbers.{size_before}
use Rattle.reading.specs.Groups.{more}
use Rattle.reading.specs.Laws.Groups.{more_members, lone_alternatives}
use Rattle.telling.specs.Cited.Grouped.{followed}
use Rattle.telling.specs.Cited.Cells.{Cells, inner, member_by, member_of, MemberMarked, Marked, MembersMarked, AlternativesMarked, CountedMarked, SelectedMarked, MoreMarked}
use Rattle.marking.specs.Machine.{Frame, frame, State, inside, ranked, begun, opened, acted, Told, Follows}
use Rattle.marking.specs.Laws.Passed.{bits_passed, subscript_passed, expression_passed, joined_passed, selector_passed}

expression_size : (o : Operand) (t : Tail) (ts : Tokens) → length (operand_tokens o (tail_tokens t ts)) ≡ expr_size o t + length ts
expression_size o t ts =
    let f = size_before (operand_writes o) (tail_tokens t ts) in
    let g = size_before (operand_writes o) (tail_tokens t []) in
    omega (arith, f, g, size_before (tail_writes t) ts, size_before (tail_writes t) [])

-- whether `;` stands behind an action of a block
followed_by : (a : Action) (m : Members) (ts : Tokens) → more (action_tokens a (members_tokens m ts)) ≡ followed m
followed_by a m ts = more_members a m ts ∙ by m
  where
    by : (m : Members) → has_more m ≡ followed m
    by (end y) = refl
    by (also y b l) = refl
    by (next y b l) = refl

-- the member that the token i is in, by its cells
abbrev member_in : ℕ → ℕ → ℕ → ℕ
member_in zero u i = u
member_in (suc r) u i = i

-- the cells of the token i tell the member that it is in
pub record Fits (s : State) (i : ℕ) : Type 0 where
  is : member_in s.rank s.up i ≡ s.around

pub inside_fits : (fs : List Frame) (x i : ℕ) → Fits (inside fs x) i
inside_fits fs x i = record { is = refl }

begun_fits : (p : ℕ) (b : Bool) (f : Frame) (fs : List Frame) → Fits (begun p b f fs) p
begun_fits p b f fs = record { is = by f.before b }
  where
    by : (j : ℕ) (b : Bool) → member_in (ranked j b) f.outer p ≡ inner f.outer p j b
    by zero false = refl
    by zero true = refl
    by (suc j) true = refl
    by (suc j) false = refl

module _ (K : Cells) (n : ℕ) where
  abbrev F : State → Tokens → Type 0
  F = Follows K n

  abbrev T : ℕ → State → Type 0
  T = Told K n

  member_told : (s : State) (i : ℕ) → Fits s i → T i s → member_of K i ≡ s.around
  member_told s i f t = by s.rank s.up t.rank t.up ∙ f.is
    where
      by : (r u : ℕ) → K.rank i ≡ r → K.up i ≡ u → member_of K i ≡ member_in r u i
      by zero u e d = ap (λ q. member_by K q i) e ∙ d
      by (suc r) u e d = ap (λ q. member_by K q i) e

  member_marked : (p : ℕ) (b : Bool) (x j : ℕ) (fs : List Frame) → T p (begun p b (frame x j) fs) → MemberMarked K x p j b
  member_marked p b x j fs t = by j b t.rank t.up
    where
      by : (j : ℕ) (b : Bool) → K.rank p ≡ ranked j b → K.up p ≡ x → MemberMarked K x p j b
      by zero false r u = tt
      by zero true r u = (r, u)
      by (suc j) true r u = (r, u)
      by (suc j) false r u = (r, u)

  -- the number of a token by what stands from it on
  told_at : (i k : ℕ) (s : State) → i + k ≡ n → T (n - k) s → T i s
  told_at i k s e t = let q : n - k ≡ i = omega arith in subst (λ j. T j s) q t

  first_told : (a : Action) (i : ℕ) (s : State) (ts : Tokens) → i + length (action_tokens a ts) ≡ n → F s (action_tokens a ts) → T i s
  first_told (block b a m) i s ts e h = told_at i _ s e h.0
  first_told (labelled l b a) i s ts e h = told_at i _ s e h.0
  first_told (if_then y o t w a) i s ts e h = told_at i _ s e h.0
  first_told (decode y o t w b v) i s ts e h = told_at i _ s e h.0
  first_told (repeat y a) i s ts e h = told_at i _ s e h.0
  first_told (leave y l) i s ts e h = told_at i _ s e h.0
  first_told (restart y l) i s ts e h = told_at i _ s e h.0
  first_told (activate l p r) i s ts e h = told_at i _ s e h.0
  first_told (stop y p r) i s ts e h = told_at i _ s e h.0
  first_told (no_op y p r) i s ts e h = told_at i _ s e h.0
  first_told (transfer l p v j q o t) i s ts e h = told_at i _ s e h.0

  -- behind BEGIN, `;` and NEXT
  opens : (i : ℕ) (s : State) (c : Bool) (y : Info) (ts : Tokens) → i + suc (length ts) ≡ n → more ts ≡ c → length s.frames < deepest
      → F s (tk BEGIN y ∷ ts) → F (begun (suc i) c (frame s.around 0) s.frames) ts
  unfolding acted
  opens i s c y ts e m l h =
      let q : n - length ts ≡ suc i = omega arith in
      subst (λ b. F (opened b (suc i) c s) ts) (lt-ltb (length s.frames) deepest l)
      (subst (λ b. F (acted (suc i) (kind_no BEGIN) b s) ts) m (subst (λ p. F (acted p (kind_no BEGIN) (more ts) s) ts) q h.1))

  goes_on : (i : ℕ) (f : Frame) (fs : List Frame) (z : ℕ) (c : Bool) (y : Info) (ts : Tokens) → i + suc (length ts) ≡ n → more ts ≡ c
      → F (inside (f ∷ fs) z) (tk Semi y ∷ ts) → F (begun (suc i) c (frame f.outer (suc f.before)) fs) ts
  unfolding acted
  goes_on i f fs z c y ts e m h =
      let q : n - length ts ≡ suc i = omega arith in
      let s = inside (f ∷ fs) z in
      subst (λ b. F (acted (suc i) (kind_no Semi) b s) ts) m (subst (λ p. F (acted p (kind_no Semi) (more ts) s) ts) q h.1)

  begins_anew : (i : ℕ) (f : Frame) (fs : List Frame) (z : ℕ) (c : Bool) (y : Info) (ts : Tokens) → i + suc (length ts) ≡ n → more ts ≡ c
      → F (inside (f ∷ fs) z) (tk NEXT y ∷ ts) → F (begun (suc i) c (frame f.outer 0) fs) ts
  unfolding acted
  begins_anew i f fs z c y ts e m h =
      let q : n - length ts ≡ suc i = omega arith in
      let s = inside (f ∷ fs) z in
      subst (λ b. F (acted (suc i) (kind_no NEXT) b s) ts) m (subst (λ p. F (acted p (kind_no NEXT) (more ts) s) ts) q h.1)

  -- what is to be shown of an action, and of the members behind one
  abbrev OfAction : State → ℕ → Action → Tokens → Type 0
  OfAction s i a ts = F s (action_tokens a ts) → Marked K s.around i a × F (inside s.frames s.around) ts

  abbrev OfMembers : ℕ → ℕ → ℕ → ℕ → List Frame → Members → Tokens → Type 0
  OfMembers x i j z fs m ts = F (inside (frame x j ∷ fs) z) (members_tokens m ts) → MembersMarked K x i j m × F (inside fs x) ts

  behind_size : (a : Action) (i : ℕ) (ts : Tokens) → i + suc (length (action_tokens a ts)) ≡ n → suc i + action_size a + length ts ≡ n
  behind_size a i ts e = omega (arith, size_before (action_writes a) ts)

  -- an action of a block, behind the token i and j members of its group, with those behind it
  abbrev first_in : ℕ → ℕ → ℕ → List Frame → Members → State
  first_in x i j fs m = begun (suc i) (followed m) (frame x j) fs

  member_run : (a : Action) (m : Members) (i x j : ℕ) (fs : List Frame) (ts : Tokens) → i + suc (length (action_tokens a (members_tokens m ts))) ≡ n
      → OfAction (first_in x i j fs m) (suc i) a (members_tokens m ts) → OfMembers x (suc i + action_size a) j (first_in x i j fs m).around fs m ts
      → F (first_in x i j fs m) (action_tokens a (members_tokens m ts))
      → (MemberMarked K x (suc i) j (followed m) × Marked K (inner x (suc i) j (followed m)) (suc i) a × MembersMarked K x (suc i + action_size a) j m) × F (inside fs x) ts
  member_run a m i x j fs ts e action members h =
      let r = action h in
      let q = members r.1 in
      ((member_marked (suc i) (followed m) x j fs (first_told a (suc i) (first_in x i j fs m) (members_tokens m ts) (omega arith) h), r.0, q.0), q.1)

  mutual
    unfolding acted

    pub action_marked : (a : Action) (i : ℕ) (s : State) (ts : Tokens) → i + length (action_tokens a ts) ≡ n → length s.frames + action_nest a ≤ deepest → Fits s i
        → OfAction s i a ts
    action_marked (block b a m) i s ts e l f h =
        let rest = members_tokens m ts in
        let x = s.around in
        let fs = s.frames in
        let z = first_in x i 0 fs m in
        member_run a m i x 0 fs ts e (λ q. action_marked a (suc i) z rest (omega arith) (omega arith) (begun_fits (suc i) (followed m) (frame x 0) fs) q)
        (λ q. members_marked m (suc i + action_size a) x 0 z.around fs ts (behind_size a i rest e) (omega arith) q)
        (opens i s (followed m) b (action_tokens a rest) e (followed_by a m ts) (omega arith) h)
    action_marked (labelled y b a) i s ts e l f h =
        action_marked a (suc (suc i)) (inside s.frames s.around) ts (omega arith) l (inside_fits s.frames s.around (suc (suc i))) h.1.1
    action_marked (if_then y o t w a) i s ts e l f h =
        let x = s.around in
        let fs = s.frames in
        let j = behind_test i o t in
        let rest = tk Arrow w ∷ action_tokens a ts in
        let r = action_marked a j (inside fs x) ts (omega (arith, expression_size o t rest)) (omega arith) (inside_fits fs x j) (expression_passed K n fs x o t rest h.1).1 in
        ((member_told s i f (told_at i _ s e h.0), r.0), r.1)
    action_marked (decode y o t w b v) i s ts e l f h =
        let x = s.around in
        let fs = s.frames in
        let j = behind_test i o t in
        let rest = tk Arrow w ∷ tk BEGIN b ∷ alternatives_tokens v ts in
        let size = expression_size o t rest in
        let inner = opens j (inside fs x) false b (alternatives_tokens v ts) (omega (arith, size)) (lone_alternatives v ts) (omega arith)
        (expression_passed K n fs x o t rest h.1).1 in
        let r = alternatives_marked v (suc j) x 0 fs ts (omega (arith, size)) (omega arith) inner in
        ((member_told s i f (told_at i _ s e h.0), r.0), r.1)
    action_marked (repeat y a) i s ts e l f h =
        let r = action_marked a (suc i) (inside s.frames s.around) ts (omega arith) l (inside_fits s.frames s.around (suc i)) h.1 in
        ((member_told s i f (told_at i _ s e h.0), r.0), r.1)
    action_marked (leave y k) i s ts e l f h = (member_told s i f (told_at i _ s e h.0), h.1.1)
    action_marked (restart y k) i s ts e l f h = (member_told s i f (told_at i _ s e h.0), h.1.1)
    action_marked (activate k p r) i s ts e l f h = (member_told s i f (told_at i _ s e h.0), h.1.1.1)
    action_marked (stop y p r) i s ts e l f h = (member_told s i f (told_at i _ s e h.0), h.1.1.1)
    action_marked (no_op y p r) i s ts e l f h = (member_told s i f (told_at i _ s e h.0), h.1.1.1)
    action_marked (transfer k p v j q o t) i s ts e l f h =
        let x = s.around in
        let fs = s.frames in
        let rest = operand_tokens o (tail_tokens t ts) in
        let joins = joined_tokens j (tk Equals q ∷ rest) in
        let passed = joined_passed K n fs x j (tk Equals q ∷ rest) (bits_passed K n fs x v joins (subscript_passed K n fs x p (bits_tokens v joins) h.1)) in
        (member_told s i f (told_at i _ s e h.0), expression_passed K n fs x o t ts passed.1)

    members_marked : (m : Members) (i x j z : ℕ) (fs : List Frame) (ts : Tokens) → i + length (members_tokens m ts) ≡ n → length fs + 1 + members_nest m ≤ deepest
        → OfMembers x i j z fs m ts
    members_marked (end y) i x j z fs ts e l h = (tt, h.1)
    members_marked (also y a m) i x j z fs ts e l h =
        let rest = members_tokens m ts in
        let s = first_in x i (suc j) fs m in
        member_run a m i x (suc j) fs ts e (λ q. action_marked a (suc i) s rest (omega arith) (omega arith) (begun_fits (suc i) (followed m) (frame x (suc j)) fs) q)
        (λ q. members_marked m (suc i + action_size a) x (suc j) s.around fs ts (behind_size a i rest e) (omega arith) q)
        (goes_on i (frame x j) fs z (followed m) y (action_tokens a rest) e (followed_by a m ts) h)
    members_marked (next y a m) i x j z fs ts e l h =
        let rest = members_tokens m ts in
        let s = first_in x i 0 fs m in
        member_run a m i x 0 fs ts e (λ q. action_marked a (suc i) s rest (omega arith) (omega arith) (begun_fits (suc i) (followed m) (frame x 0) fs) q)
        (λ q. members_marked m (suc i + action_size a) x 0 s.around fs ts (behind_size a i rest e) (omega arith) q)
        (begins_anew i (frame x j) fs z (followed m) y (action_tokens a rest) e (followed_by a m ts) h)

    alternatives_marked : (v : Alternatives) (i x j : ℕ) (fs : List Frame) (ts : Tokens) → i + length (alternatives_tokens v ts) ≡ n → length fs + 1 + alternatives_nest v ≤ deepest
        → F (inside (frame x j ∷ fs) x) (alternatives_tokens v ts) → AlternativesMarked K x i v × F (inside fs x) ts
    alternatives_marked (counted a t) i x j fs ts e l h =
        let gs = frame x j ∷ fs in
        let rest = counted_tokens t ts in
        let r = action_marked a i (inside gs x) rest e (omega arith) (inside_fits gs x i) h in
        let q = counted_marked t (i + action_size a) x j fs ts (omega (arith, size_before (action_writes a) rest)) (omega arith) r.1 in
        ((r.0, q.0), q.1)
    alternatives_marked (selected s) i x j fs ts e l h = selected_marked s i x j fs ts e l h

    counted_marked : (t : Counted) (i x j : ℕ) (fs : List Frame) (ts : Tokens) → i + length (counted_tokens t ts) ≡ n → length fs + 1 + counted_nest t ≤ deepest
        → F (inside (frame x j ∷ fs) x) (counted_tokens t ts) → CountedMarked K x i t × F (inside fs x) ts
    counted_marked (counted_end y) i x j fs ts e l h = (tt, h.1)
    counted_marked (counted_more y a t) i x j fs ts e l h =
        let gs = frame x j ∷ fs in
        let rest = counted_tokens t ts in
        let r = action_marked a (suc i) (inside gs x) rest (omega arith) (omega arith) (inside_fits gs x (suc i)) h.1 in
        let q = counted_marked t (suc i + action_size a) x j fs ts (omega (arith, size_before (action_writes a) rest)) (omega arith) r.1 in
        ((r.0, q.0), q.1)

    selected_marked : (s : Selected) (i x j : ℕ) (fs : List Frame) (ts : Tokens) → i + length (selected_tokens s ts) ≡ n → length fs + 1 + selected_nest s ≤ deepest
        → F (inside (frame x j ∷ fs) x) (selected_tokens s ts) → SelectedMarked K x i s × F (inside fs x) ts
    selected_marked (select s b a m) i x j fs ts e l h =
        let gs = frame x j ∷ fs in
        let k = suc (i + selector_size s) in
        let rest = selected_more_tokens m ts in
        let behind = tk Becomes b ∷ action_tokens a rest in
        let size = size_before (selector_writes s) behind in
        let r = action_marked a k (inside gs x) rest (omega (arith, size)) (omega arith) (inside_fits gs x k) (selector_passed K n gs x s behind h).1 in
        let q = more_marked m (k + action_size a) x j fs ts (omega (arith, size, size_before (action_writes a) rest)) (omega arith) r.1 in
        ((r.0, q.0), q.1)
    selected_marked (otherwise y b a d) i x j fs ts e l h =
        let gs = frame x j ∷ fs in
        let k = suc (suc i) in
        let r = action_marked a k (inside gs x) (tk END d ∷ ts) (omega arith) (omega arith) (inside_fits gs x k) h.1.1 in
        (r.0, r.1.1)

    more_marked : (m : SelectedMore) (i x j : ℕ) (fs : List Frame) (ts : Tokens) → i + length (selected_more_tokens m ts) ≡ n → length fs + 1 + selected_more_nest m ≤ deepest
        → F (inside (frame x j ∷ fs) x) (selected_more_tokens m ts) → MoreMarked K x i m × F (inside fs x) ts
    more_marked (selected_end y) i x j fs ts e l h = (tt, h.1)
    more_marked (selected_more y s) i x j fs ts e l h = selected_marked s (suc i) x j fs ts (omega arith) l h.1
