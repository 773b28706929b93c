-- Laws of the walk: each kind of token, and that a body read from its first token to its last has the least of its faults.
use Prim.Native.Nat.{ℕ, min}
use Rattle.std.specs.Prelude.{◌≡◌, Bool}
use Rattle.std.proofs.Math.Path.{refl, ap, subst}
use Rattle.std.proofs.Common.{sym, ap₂, ◌∙◌, arith}
use Rattle.std.proofs.Math.Bool.{true, false}
use Rattle.std.proofs.lemmas.Bool.{false≢true}
use mathlib.Core.List.{List, [], ◌∷◌, ◌++◌}
use Rattle.std.proofs.Math.Option.{none, some}
use Rattle.std.proofs.Math.Nat.{min_comm}
use borrow.Author.Tests.{ne_eqb}
use Rattle.std.proofs.Math.Dec.{eqb}
use Rattle.rules.specs.Text.Tokens.{Kind, Info, Token, tk, Name, RPar, Comma, Semi, Becomes, Arrow, BEGIN, END, NEXT, kind_no}
use Rattle.rules.specs.Text.Scan.{plain_info}
use Rattle.rules.specs.Grammar.Trees.{Tokens, Operand, operand_tokens, Tail, tail_tokens, Selector, selector_tokens, Action, block, labelled, if_then, decode, repeat, leave, restart, activate, stop, no_op, transfer, action_tokens, Members, end, also, next, members_tokens, Alternatives, counted, selected, alternatives_tokens, Counted, counted_end, counted_more, counted_tokens, Selected, select, otherwise, selected_tokens, SelectedMore, selected_end, selected_more, selected_more_tokens}
use Rattle.rules.specs.Declarations.{Table}
use Rattle.rules.specs.Steps.Actions.{act_of}
use Rattle.rules.specs.Whole.Sets.{Sets, touched, member}
use Rattle.rules.specs.Faults.Fault.{Fault, when}
use Rattle.rules.specs.Faults.Whole.{Scope, labelled_in, aims_out, has_more, member_faults, member_scope, group_faults, members_of, alternatives_groups, counted_groups, selected_groups, more_groups}
use Rattle.laws_grammar.specs.Cited.Kinds.{kind_at}
use Rattle.laws_grammar.specs.Grammar.Kinds.{kind_at_kind_no}
use Rattle.keys.specs.Keys.{least_number_key, no_key, number_key}
use Rattle.keys.specs.Laws.Keys.{least_append, least_bounded, least_none}
use Rattle.reading.specs.Laws.Hearing.{Apart, by_comma, by_semi, by_end, by_next, members_apart, counted_apart, more_apart}
use Rattle.scopes.specs.Laws.Behind.{plain, quiet, All, all_none, all_more, Quiet, plain_kind, quiet_kind, expression_made, transfer_made, selector_made}
use Rattle.reading.specs.Groups.{more, group_at}
use Rattle.reading.specs.Laws.Groups.{also_faults, group_members, more_members, lone_alternatives}
use Rattle.table.specs.Scans.{no}
use Rattle.scopes.specs.Walks.{walk, jump_at, jumps, labelling, last_open, faults_at, opens, outside, around}

pub min_assoc : (a b c : ℕ) → min (min a b) c ≡ min a (min b c)
min_assoc a b c = omega arith

-- the faults of the later members come with the first of their group
shuffled : (a b g w m o : ℕ) → min b w ≡ min m o → min (min a b) (min g w) ≡ min (min a (min g m)) o
shuffled a b g w m o e =
    min_assoc a b (min g w)
    ∙ (ap (min a) (sym (min_assoc b g w) ∙ (ap (λ (x : ℕ). min x w) (min_comm b g) ∙ (min_assoc g b w ∙ (ap (min g) e ∙ sym (min_assoc g m o)))))
    ∙ sym (min_assoc a (min g m) o))

module _ (ds : Table) where
  -- a token that only stands there
  pass : (σ : List Scope) (s : Scope) (p t : Token) (ts : Tokens) → eqb (no t) (kind_no Comma) ≡ false → Quiet (no t) → walk ds σ s p (t ∷ ts) ≡ walk ds σ s t ts
  unfolding walk jump_at jumps member
  pass σ s p t ts c q = rw (q.begin, q.end, q.semi, q.next, c, q.becomes, q.leave, q.restart, walk)

  abbrev last_of : Token → Tokens → Token
  last_of p [] = p
  last_of p (t ∷ ts) = last_of t ts

  pass_plain : (σ : List Scope) (s : Scope) (p : Token) (xs ts : Tokens) → All plain xs → walk ds σ s p (xs ++ ts) ≡ walk ds σ s (last_of p xs) ts
  pass_plain σ s p xs ts all_none = refl
  pass_plain σ s p xs ts (all_more {t} {ts = ys} e a) =
      let q = plain_kind (no t) e in pass σ s p t (ys ++ ts) q.0 q.1 ∙ pass_plain σ s t ys ts a

  -- tokens of a selector, at the scope around the block; a label is none of them
  pass_comma : (o : Scope) (σ : List Scope) (p t : Token) (ts : Tokens) → Quiet (no t) → walk ds (o ∷ σ) o p (t ∷ ts) ≡ walk ds (o ∷ σ) o t ts
  unfolding walk jump_at jumps member
  pass_comma o σ p t ts q = by (eqb (no t) (kind_no Comma)) refl
    where
      by : (b : Bool) → eqb (no t) (kind_no Comma) ≡ b → walk ds (o ∷ σ) o p (t ∷ ts) ≡ walk ds (o ∷ σ) o t ts
      by true e = rw (q.begin, q.end, q.semi, q.next, e, walk)
      by false e = pass (o ∷ σ) o p t ts e q

  pass_selector : (o : Scope) (σ : List Scope) (p : Token) (xs : Tokens) (b : Info) (ts : Tokens) → eqb (no p) 0 ≡ false → All quiet xs
      → walk ds (o ∷ σ) o p (xs ++ tk Becomes b ∷ ts) ≡ walk ds (o ∷ σ) o (tk Becomes b) ts
  unfolding walk labelling
  pass_selector o σ p xs b ts e all_none = ap (λ (x : Bool). walk ds (o ∷ σ) (elim x [ true ↦ labelled_in p.info.word o | false ↦ o ]) (tk Becomes b) ts) e
  pass_selector o σ p xs b ts e (all_more {t} {ts = ys} h a) =
      let q = quiet_kind (no t) h in
      pass_comma o σ p t (ys ++ tk Becomes b ∷ ts) q.1 ∙ pass_selector o σ t ys b ts q.0 a

  abbrev blank : Token
  blank = tk Name (plain_info 0)

  -- behind an action the walk goes on as if it had done nothing
  apart : {ts : Tokens} (o : Scope) (σ : List Scope) (s : Scope) (p : Token) → Apart ts → walk ds (o ∷ σ) s p ts ≡ walk ds (o ∷ σ) o blank ts
  unfolding walk
  apart o σ s p by_comma = refl
  apart o σ s p by_semi = refl
  apart o σ s p by_end = refl
  apart o σ s p by_next = refl

  abbrev onwards : List Scope → Tokens → List Fault
  onwards [] ts = []
  onwards (o ∷ σ) ts = walk ds (o ∷ σ) o blank ts

  -- what may stand behind a block: anything behind a body
  abbrev Then : List Scope → Tokens → Type 0
  Then [] ts = Unit {0}
  Then (o ∷ σ) ts = Apart ts

  closed : (ts : Tokens) (o : Scope) (σ : List Scope) (s : Scope) (p : Token) (e : Info) → Then σ ts → walk ds (o ∷ σ) s p (tk END e ∷ ts) ≡ onwards σ ts
  unfolding walk
  closed ts o [] s p e a = refl
  closed ts o (q ∷ σ) s p e a = apart q σ o (tk END e) a

  abbrev L : List Fault → ℕ
  L fs = least_number_key fs

  Found : List Fault → List Fault → List Fault → Type 0
  Found all these rest = L all ≡ min (L these) (L rest)

  silently : (xs ys : List Fault) → xs ≡ ys → Found xs [] ys
  unfolding Found
  silently xs ys e = ap L e ∙ omega (arith, least_none number_key, least_bounded number_key ys)

  loudly : (fs xs ys : List Fault) → xs ≡ ys → Found (fs ++ xs) fs ys
  unfolding Found
  loudly fs xs ys e = least_append number_key fs xs ∙ ap (λ (l : List Fault). min (L fs) (L l)) e

  pass_expression : (σ : List Scope) (s : Scope) (p : Token) (o : Operand) (t : Tail) (w : Info) (ts : Tokens)
      → walk ds σ s p (operand_tokens o (tail_tokens t (tk Arrow w ∷ ts))) ≡ walk ds σ s (tk Arrow w) ts
  unfolding walk jump_at jumps member
  pass_expression σ s p o t w ts =
      let m = expression_made o t in
      ap (walk ds σ s p) (m.writes (tk Arrow w ∷ ts)) ∙ pass_plain σ s p m.tokens (tk Arrow w ∷ ts) m.kinds

  none_also : (m : Members) → has_more m ≡ false → (before : List Sets) → also_faults ds before m ≡ []
  unfolding also_faults
  none_also (end i) e before = refl
  none_also (also i x n) e before = absurd (false≢true (sym e))
  none_also (next i x n) e before = refl

  least_three : (xs ys zs : List Fault) → L (xs ++ (ys ++ zs)) ≡ min (L xs) (min (L ys) (L zs))
  least_three xs ys zs = least_append number_key xs (ys ++ zs) ∙ ap (min (L xs)) (least_append number_key ys zs)

  absorbed : (fs : List Fault) {n : ℕ} → L fs ≡ n → min (L []) (L fs) ≡ n
  absorbed fs e = omega (arith, least_none number_key, least_bounded number_key fs)

  -- the faults from the beginning of a group on
  begins_group : Action → Members → Scope → Bool → List Fault
  begins_group a m s b = member_faults ds b [] a ++ (group_faults ds (member_scope ds b s) a ++ members_of ds s (touched ds (act_of a) ∷ []) m)

  -- where a group begins, given how its members are walked
  module _ (a : Action) (m : Members) (s : Scope) (σ : List Scope) (t : Token) (ts : Tokens)
      (inside : (r : Scope) → Found (walk ds (s ∷ σ) r t (action_tokens a (members_tokens m ts))) (group_faults ds r a) (walk ds (s ∷ σ) s blank (members_tokens m ts)))
      (others : (before : List Sets) → min (L (also_faults ds before m)) (L (walk ds (s ∷ σ) s blank (members_tokens m ts))) ≡ min (L (members_of ds s before m))
      (L (onwards σ ts))) where
    group_start : Found (group_at ds (action_tokens a (members_tokens m ts)) ++ walk ds (s ∷ σ) (member_scope ds (more (action_tokens a (members_tokens m ts))) s) t
        (action_tokens a (members_tokens m ts)))
        (begins_group a m s (has_more m)) (onwards σ ts)
    unfolding Found begins_group group_at
    group_start = by (has_more m) refl
      where
        all : Tokens
        all = action_tokens a (members_tokens m ts)

        earlier : List Sets
        earlier = touched ds (act_of a) ∷ []

        walked : (b : Bool) → has_more m ≡ b
            → L (walk ds (s ∷ σ) (member_scope ds (more all) s) t all) ≡ min (L (group_faults ds (member_scope ds b s) a))
            (L (walk ds (s ∷ σ) s blank (members_tokens m ts)))
        walked b e = ap (λ (x : Bool). L (walk ds (s ∷ σ) (member_scope ds x s) t all)) (more_members a m ts ∙ e) ∙ inside (member_scope ds b s)

        by : (b : Bool) → has_more m ≡ b → L (group_at ds all ++ walk ds (s ∷ σ) (member_scope ds (more all) s) t all) ≡ min (L (begins_group a m s b))
            (L (onwards σ ts))
        by true e =
            let g : L (group_at ds all) ≡ min (L (member_faults ds true [] a)) (L (also_faults ds earlier m)) =
            ap L (rw (more_members a m ts ∙ e, group_at) (group_members ds a m ts)) ∙ least_append number_key (member_faults ds true [] a)
            (also_faults ds earlier m) in
            least_append number_key (group_at ds all) (walk ds (s ∷ σ) (member_scope ds (more all) s) t all)
            ∙ (ap₂ min g (walked true e)
            ∙ (shuffled (L (member_faults ds true [] a)) _ (L (group_faults ds (some []) a)) _ (L (members_of ds s earlier m)) _ (others earlier)
            ∙ ap (λ (x : ℕ). min x (L (onwards σ ts))) (sym (least_three (member_faults ds true [] a) (group_faults ds (some []) a) (members_of ds s earlier m)))))
        by false e =
            let q : group_at ds all ≡ also_faults ds earlier m = rw (more_members a m ts ∙ e, group_at) (sym (none_also m e earlier)) in
            let g : L (group_at ds all) ≡ min no_key (L (also_faults ds earlier m)) = ap L q ∙ omega (arith, least_bounded number_key (also_faults ds earlier m)) in
            least_append number_key (group_at ds all) (walk ds (s ∷ σ) (member_scope ds (more all) s) t all)
            ∙ (ap₂ min g (walked false e)
            ∙ (shuffled no_key _ (L (group_faults ds s a)) _ (L (members_of ds s earlier m)) _ (others earlier)
            ∙ ap (λ (x : ℕ). min x (L (onwards σ ts)))
            (ap (λ (x : ℕ). min x (min (L (group_faults ds s a)) (L (members_of ds s earlier m)))) (sym (least_none number_key))
            ∙ sym (least_three (member_faults ds false [] a) (group_faults ds s a) (members_of ds s earlier m)))))

  then : (xs ys zs gs hs : List Fault) → Found xs gs ys → Found ys hs zs → Found xs (gs ++ hs) zs
  unfolding Found
  then xs ys zs gs hs p q =
      p ∙ (ap (min (L gs)) q ∙ (sym (min_assoc (L gs) (L hs) (L zs)) ∙ ap (λ (x : ℕ). min x (L zs)) (sym (least_append number_key gs hs))))

  -- the alternatives of DECODE stand in a block that is no group
  opened : (σ : List Scope) (s : Scope) (p : Token) (b : Info) (v : Alternatives) (ts : Tokens)
      → walk ds σ s p (tk BEGIN b ∷ alternatives_tokens v ts) ≡ walk ds (s ∷ σ) s (tk BEGIN b) (alternatives_tokens v ts)
  unfolding walk group_at
  opened σ s p b v ts = rw (lone_alternatives v ts, group_at)

  selector_walked : (x : Selector) (s : Scope) (σ : List Scope) (p : Token) (b : Info) (ts : Tokens) → eqb (no p) 0 ≡ false
      → walk ds (s ∷ σ) s p (selector_tokens x (tk Becomes b ∷ ts)) ≡ walk ds (s ∷ σ) s (tk Becomes b) ts
  selector_walked x s σ p b ts e =
      let m = selector_made x in ap (walk ds (s ∷ σ) s p) (m.writes (tk Becomes b ∷ ts)) ∙ pass_selector s σ p m.tokens b ts e m.kinds

  mutual
    unfolding walk jump_at jumps labelling member group_faults also_faults begins_group Found

    walk_action : (a : Action) (o : Scope) (σ : List Scope) (s : Scope) (p : Token) (ts : Tokens) → Apart ts
        → Found (walk ds (o ∷ σ) s p (action_tokens a ts)) (group_faults ds s a) (walk ds (o ∷ σ) o blank ts)
    walk_action (block b a m) o σ s p ts h =
        group_start a m s (o ∷ σ) (tk BEGIN b) ts (λ r. walk_action a s (o ∷ σ) r (tk BEGIN b) (members_tokens m ts) (members_apart m ts))
        (λ before. walk_members m s (o ∷ σ) s blank before ts h)
    walk_action (labelled n b a) o σ s p ts h = walk_action a o σ (labelled_in n.word s) (tk Becomes b) ts h
    walk_action (if_then i e t w a) o σ s p ts h =
        ap L (pass_expression (o ∷ σ) s _ e t w (action_tokens a ts)) ∙ walk_action a o σ s (tk Arrow w) ts h
    walk_action (decode i e t w b v) o σ s p ts h =
        ap L (pass_expression (o ∷ σ) s _ e t w (tk BEGIN b ∷ alternatives_tokens v ts) ∙ opened (o ∷ σ) s (tk Arrow w) b v ts)
        ∙ walk_alternatives v s (o ∷ σ) (tk BEGIN b) ts refl h
    walk_action (repeat i a) o σ s p ts h = walk_action a o σ s _ ts h
    walk_action (leave i n) o σ s p ts h = loudly (when (aims_out s n.word) 52 i.place) _ _ (apart o σ s (tk Name n) h)
    walk_action (restart i n) o σ s p ts h = loudly (when (aims_out s n.word) 52 i.place) _ _ (apart o σ s (tk Name n) h)
    walk_action (activate n l r) o σ s p ts h = silently _ _ (apart o σ s (tk RPar r) h)
    walk_action (stop i l r) o σ s p ts h = silently _ _ (apart o σ s (tk RPar r) h)
    walk_action (no_op i l r) o σ s p ts h = silently _ _ (apart o σ s (tk RPar r) h)
    walk_action (transfer n x b j e q t) o σ s p ts h =
        let m = transfer_made n x b j e q t in
        silently _ _ (ap (walk ds (o ∷ σ) s p) (m.writes ts) ∙ (pass_plain (o ∷ σ) s p m.tokens ts m.kinds ∙ apart o σ s _ h))

    -- with the faults of the members of the group that is open
    walk_members : (m : Members) (s : Scope) (σ : List Scope) (r : Scope) (p : Token) (before : List Sets) (ts : Tokens) → Then σ ts
        → min (L (also_faults ds before m)) (L (walk ds (s ∷ σ) r p (members_tokens m ts))) ≡ min (L (members_of ds s before m)) (L (onwards σ ts))
    walk_members (end i) s σ r p before ts h = ap (λ (l : List Fault). min (L []) (L l)) (closed ts s σ r p i h)
    walk_members (also i a m) s σ r p before ts h =
        let earlier = touched ds (act_of a) ∷ before in
        ap₂ min (least_append number_key (member_faults ds true before a) (also_faults ds earlier m))
        (walk_action a s σ (some []) (tk Semi i) (members_tokens m ts) (members_apart m ts))
        ∙ (shuffled (L (member_faults ds true before a)) _ (L (group_faults ds (some []) a)) _ (L (members_of ds s earlier m)) _
        (walk_members m s σ s blank earlier ts h)
        ∙ ap (λ (x : ℕ). min x (L (onwards σ ts))) (sym (least_three (member_faults ds true before a) (group_faults ds (some []) a) (members_of ds s earlier m))))
    walk_members (next i a m) s σ r p before ts h =
        absorbed _ (group_start a m s σ (tk NEXT i) ts (λ q. walk_action a s σ q (tk NEXT i) (members_tokens m ts) (members_apart m ts))
        (λ b. walk_members m s σ s blank b ts h))

    walk_alternatives : (v : Alternatives) (s : Scope) (σ : List Scope) (p : Token) (ts : Tokens) → eqb (no p) 0 ≡ false → Then σ ts
        → Found (walk ds (s ∷ σ) s p (alternatives_tokens v ts)) (alternatives_groups ds s v) (onwards σ ts)
    walk_alternatives (counted a c) s σ p ts e h =
        then _ _ _ (group_faults ds s a) (counted_groups ds s c) (walk_action a s σ s p (counted_tokens c ts) (counted_apart c ts)) (walk_counted c s σ blank ts h)
    walk_alternatives (selected x) s σ p ts e h = walk_selected x s σ p ts e h

    walk_counted : (c : Counted) (s : Scope) (σ : List Scope) (p : Token) (ts : Tokens) → Then σ ts
        → Found (walk ds (s ∷ σ) s p (counted_tokens c ts)) (counted_groups ds s c) (onwards σ ts)
    walk_counted (counted_end i) s σ p ts h = silently _ _ (closed ts s σ s p i h)
    walk_counted (counted_more i a c) s σ p ts h =
        then _ _ _ (group_faults ds s a) (counted_groups ds s c) (walk_action a s σ s (tk Comma i) (counted_tokens c ts) (counted_apart c ts))
        (walk_counted c s σ blank ts h)

    walk_selected : (x : Selected) (s : Scope) (σ : List Scope) (p : Token) (ts : Tokens) → eqb (no p) 0 ≡ false → Then σ ts
        → Found (walk ds (s ∷ σ) s p (selected_tokens x ts)) (selected_groups ds s x) (onwards σ ts)
    walk_selected (select x b a m) s σ p ts e h =
        ap L (selector_walked x s σ p b (action_tokens a (selected_more_tokens m ts)) e)
        ∙ then _ _ _ (group_faults ds s a) (more_groups ds s m) (walk_action a s σ s (tk Becomes b) (selected_more_tokens m ts) (more_apart m ts))
        (walk_more m s σ blank ts h)
    walk_selected (otherwise i b a e) s σ p ts q h =
        walk_action a s σ s (tk Becomes b) (tk END e ∷ ts) by_end ∙ ap (λ (l : List Fault). min (L (group_faults ds s a)) (L l)) (closed ts s σ s blank e h)

    walk_more : (m : SelectedMore) (s : Scope) (σ : List Scope) (p : Token) (ts : Tokens) → Then σ ts
        → Found (walk ds (s ∷ σ) s p (selected_more_tokens m ts)) (more_groups ds s m) (onwards σ ts)
    walk_more (selected_end i) s σ p ts h = silently _ _ (closed ts s σ s p i h)
    walk_more (selected_more i x) s σ p ts h = walk_selected x s σ (tk Comma i) ts refl h

  -- THE BODY: what the walk finds in a block
  pub walk_body : (b : Info) (a : Action) (m : Members) (p : Token) (ts : Tokens)
      → least_number_key (walk ds [] none p (action_tokens (block b a m) ts)) ≡ least_number_key (group_faults ds none (block b a m))
  unfolding walk group_faults begins_group Found
  walk_body b a m p ts =
      group_start a m none [] (tk BEGIN b) ts (λ r. walk_action a none [] r (tk BEGIN b) (members_tokens m ts) (members_apart m ts))
      (λ before. walk_members m none [] none blank before ts tt)
      ∙ omega (arith, least_none number_key, least_bounded number_key (begins_group a m none (has_more m)))

  pub walk_done : (σ : List Scope) (s : Scope) (p : Token) → walk ds σ s p [] ≡ []
  unfolding walk
  walk_done σ s p = refl

  module _ (σ : List Scope) (s : Scope) (p t : Token) (ts : Tokens) where
    kind_is : {k : ℕ} → no t ≡ k → t.kind ≡ kind_at k
    kind_is e = sym (kind_at_kind_no t.kind) ∙ ap kind_at e

    pub walk_last : no t ≡ 20 → last_open σ ≡ true → walk ds σ s p (t ∷ ts) ≡ []
    unfolding walk
    walk_last e l = subst (λ (k : Kind). walk ds σ s p (tk k t.info ∷ ts) ≡ []) (sym (kind_is e)) (rw (l, walk))

    pub walk_begin : no t ≡ 19 → walk ds σ s p (t ∷ ts) ≡ faults_at ds s t ts ++ walk ds (s ∷ σ) (member_scope ds (more ts) s) t ts
    unfolding walk faults_at opens member
    walk_begin e = subst (λ (k : Kind). walk ds σ s p (tk k t.info ∷ ts) ≡ faults_at ds s (tk k t.info) ts ++ walk ds (s ∷ σ) (member_scope ds (more ts) s)
        (tk k t.info) ts) (sym (kind_is e)) refl

    pub walk_end : no t ≡ 20 → last_open σ ≡ false → walk ds σ s p (t ∷ ts) ≡ faults_at ds s t ts ++ walk ds (outside σ) (around σ) t ts
    unfolding walk faults_at opens jump_at jumps member
    walk_end e l = subst (λ (k : Kind). walk ds σ s p (tk k t.info ∷ ts) ≡ faults_at ds s (tk k t.info) ts ++ walk ds (outside σ) (around σ) (tk k t.info) ts)
        (sym (kind_is e)) (rw (l, walk))

    pub walk_semi : no t ≡ 10 → walk ds σ s p (t ∷ ts) ≡ faults_at ds s t ts ++ walk ds σ (some []) t ts
    unfolding walk faults_at opens jump_at jumps member
    walk_semi e = subst (λ (k : Kind). walk ds σ s p (tk k t.info ∷ ts) ≡ faults_at ds s (tk k t.info) ts ++ walk ds σ (some []) (tk k t.info) ts)
        (sym (kind_is e)) refl

    pub walk_next : no t ≡ 21 → walk ds σ s p (t ∷ ts) ≡ faults_at ds s t ts ++ walk ds σ (member_scope ds (more ts) (around σ)) t ts
    unfolding walk faults_at opens member
    walk_next e = subst (λ (k : Kind). walk ds σ s p (tk k t.info ∷ ts) ≡ faults_at ds s (tk k t.info) ts ++ walk ds σ (member_scope ds (more ts) (around σ))
        (tk k t.info) ts) (sym (kind_is e)) refl

    pub walk_comma : no t ≡ 9 → walk ds σ s p (t ∷ ts) ≡ faults_at ds s t ts ++ walk ds σ (around σ) t ts
    unfolding walk faults_at opens jump_at jumps member
    walk_comma e = subst (λ (k : Kind). walk ds σ s p (tk k t.info ∷ ts) ≡ faults_at ds s (tk k t.info) ts ++ walk ds σ (around σ) (tk k t.info) ts)
        (sym (kind_is e)) refl

    pub walk_becomes : no t ≡ 12 → walk ds σ s p (t ∷ ts) ≡ faults_at ds s t ts ++ walk ds σ (labelling p s) t ts
    unfolding walk faults_at opens jump_at jumps member
    walk_becomes e = subst (λ (k : Kind). walk ds σ s p (tk k t.info ∷ ts) ≡ faults_at ds s (tk k t.info) ts ++ walk ds σ (labelling p s) (tk k t.info) ts)
        (sym (kind_is e)) refl

    pub walk_other : (no t ≡ 19 → ⊥) → (no t ≡ 20 → ⊥) → (no t ≡ 10 → ⊥) → (no t ≡ 21 → ⊥) → (no t ≡ 9 → ⊥) → (no t ≡ 12 → ⊥)
        → walk ds σ s p (t ∷ ts) ≡ faults_at ds s t ts ++ walk ds σ s t ts
    unfolding walk faults_at opens member
    walk_other b e m x c l =
        rw (ne_eqb (no t) (kind_no BEGIN) b, ne_eqb (no t) (kind_no END) e, ne_eqb (no t) (kind_no Semi) m, ne_eqb (no t) (kind_no NEXT) x, ne_eqb (no t) (kind_no Comma) c, ne_eqb (no t) (kind_no Becomes) l, walk, faults_at)
