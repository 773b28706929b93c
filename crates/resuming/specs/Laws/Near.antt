-- The places of transfers lie below the mark that stands for none, since all tokens lie in the text. So the lowest of them that is too early is told from none.
-- Assumes nothing.
use Prim.Native.Nat.{ℕ, zero, suc, ◌<◌}
use Rattle.std.specs.Prelude.{◌≡◌, Bool, true, false, cond, List, [], ◌∷◌, ◌++◌, length}
use Rattle.std.proofs.Math.Path.{refl}
use Rattle.std.proofs.Common.{sym, ap, ◌∙◌, subst, arith}
use Rattle.std.proofs.Math.Option.{Option, none, some, none-ne-some}
use Rattle.std.proofs.Math.ListN.{get_elem?}
use Rattle.rules.specs.Text.Tokens.{tk}
use Rattle.rules.specs.Limits.{longest_chain}
use Rattle.rules.specs.Grammar.Trees.{Tokens, bit, upto, OwnBits, unnamed, named, own_bits_tokens, MainBits, bitless, main_bits, main_bits_tokens, Declaration, plain, main, words, with_bits, bare_body, carrier, given, body, mapped, declaration_tokens, Heading, no_heading, heading, heading_tokens, Declarations, declared_all, declared_also, declarations_tokens, Description, description, flatten, Action, block, labelled, if_then, decode, repeat, leave, restart, activate, stop, no_op, transfer, action_tokens, Members, end, also, next, members_tokens, Alternatives, counted, selected, alternatives_tokens, Counted, counted_end, counted_more, counted_tokens, Selected, select, otherwise, selected_tokens, SelectedMore, selected_end, selected_more, selected_more_tokens}
use Rattle.rules.specs.Declarations.{Word, Declared, Table, declared_of, rest_of, declarations, body_of}
use Rattle.rules.specs.Steps.Actions.{access, joined_accesses, Act, in_turn, act_of, groups, alts_of, counted_alts, selected_alts, more_alts}
use Rattle.rules.specs.Steps.Runs.{body_act}
use Rattle.rules.specs.Whole.Sets.{member, stores}
use Rattle.rules.specs.Faults.Whole.{main_name}
use Rattle.laws_accepted.proofs.Accepted.Named.{found_body}
use Rattle.paths.specs.Cited.Early.{Report, nowhere, early, early_i, early_alts, body_early, early_places}
use Rattle.paths.proofs.Least.{Under}
use Rattle.records.specs.Holds.{token_at}
use Rattle.scopes.specs.Laws.Behind.{Made, expression_made, transfer_made, selector_made}
use Rattle.whole.specs.Written.{Written}
use Rattle.nesting.specs.Holding.{unseen}

-- tokens whose places lie below the mark
abbrev pub Near : Tokens → Type 0
Near [] = Unit {0}
Near (t ∷ ts) = (t.info.place < unseen) × Near ts

past : (xs ts : Tokens) → Near (xs ++ ts) → Near ts
past [] ts x = x
past (t ∷ xs) ts x = past xs ts x.1

past_made : {q : ℕ → Bool} {f : Tokens → Tokens} (m : Made q f) (ts : Tokens) → Near (f ts) → Near ts
past_made m ts x = past m.tokens ts (subst Near (m.writes ts) x)

pub all_near : (ts : Tokens) → ((i : ℕ) → i < length ts → (token_at ts i).info.place < unseen) → Near ts
all_near [] h = tt
all_near (t ∷ ts) h = (h 0 (omega arith), all_near ts (λ i l. h (suc i) (omega arith)))

-- places below the mark
abbrev Low : List ℕ → Type 0
Low = Under unseen

low_both : (xs ys : List ℕ) → Low xs → Low ys → Low (xs ++ ys)
low_both [] ys x y = y
low_both (p ∷ xs) ys x y = (x.0, low_both xs ys x.1 y)

low_if : (b : Bool) (xs : List ℕ) → Low xs → Low (cond b xs [])
low_if true xs x = x
low_if false xs x = tt

module _ (ds : Table) (test : Word) (output : ℕ) (known : Word → Report) (low : (n : Word) → Low (known n).places) where
  abbrev found : Act → List ℕ
  found a = (early ds test output known a).places

  abbrev LowBehind : Option Act → Type 0
  LowBehind none = Unit {0}
  LowBehind (some a) = Low (found a)

  low_block : (x : Act) (o : Option Act) → Low (found x) → LowBehind o → Low (found (in_turn x o))
  unfolding early
  low_block x none h k = h
  low_block x (some b) h k = low_both (found x) _ h (low_if (early ds test output known x).ends (found b) k)

  low_written : (b : Bool) (p : ℕ) → p < unseen → Low (cond b (p ∷ []) [])
  low_written true p h = (h, tt)
  low_written false p h = tt

  mutual
    unfolding early early_i early_alts act_of groups alts_of counted_alts selected_alts more_alts access

    action_low : (a : Action) (ts : Tokens) → Near (action_tokens a ts) → Low (found (act_of a)) × Near ts
    action_low (block b a m) ts x =
        let y = action_low a (members_tokens m ts) x.1 in
        let z = members_low m (act_of a) ts y.0 y.1 in
        let g = groups (act_of a) m in
        (low_block g.group g.behind z.0 z.1, z.2)
    action_low (labelled n b a) ts x = action_low a ts x.1.1
    action_low (if_then i o t w a) ts x = action_low a ts (past_made (expression_made o t) (tk _ w ∷ action_tokens a ts) x.1).1
    action_low (decode i o t w b v) ts x =
        alternatives_low v ts (past_made (expression_made o t) (tk _ w ∷ tk _ b ∷ alternatives_tokens v ts) x.1).1.1
    action_low (repeat i a) ts x = action_low a ts x.1
    action_low (leave i n) ts x = (tt, x.1.1)
    action_low (restart i n) ts x = (tt, x.1.1)
    action_low (activate n l r) ts x = (low n.word, x.1.1.1)
    action_low (stop i l r) ts x = (tt, x.1.1.1)
    action_low (no_op i l r) ts x = (tt, x.1.1.1)
    action_low (transfer n y b j e o t) ts x =
        (low_written (member output (stores ds (access n y b ∷ joined_accesses j))) n.place x.0, past_made (transfer_made n y b j e o t) ts x)

    -- the member x, and what follows it
    members_low : (m : Members) (x : Act) (ts : Tokens) → Low (found x) → Near (members_tokens m ts)
        → Low (found (groups x m).group) × LowBehind (groups x m).behind × Near ts
    members_low (end e) x ts h k = (h, tt, k.1)
    members_low (also i a m) x ts h k =
        let y = action_low a (members_tokens m ts) k.1 in
        let z = members_low m (act_of a) ts y.0 y.1 in
        (low_both (found x) _ h z.0, z.1, z.2)
    members_low (next i a m) x ts h k =
        let y = action_low a (members_tokens m ts) k.1 in
        let z = members_low m (act_of a) ts y.0 y.1 in
        let g = groups (act_of a) m in
        (h, low_block g.group g.behind z.0 z.1, z.2)

    alternatives_low : (v : Alternatives) (ts : Tokens) → Near (alternatives_tokens v ts) → Low (early_alts ds test output known (alts_of v)).places × Near ts
    alternatives_low (counted a c) ts x =
        let y = action_low a (counted_tokens c ts) x in
        let z = counted_low c 1 ts y.1 in
        (low_both (found (act_of a)) _ y.0 z.0, z.1)
    alternatives_low (selected v) ts x = selected_low v ts x

    counted_low : (c : Counted) (k : ℕ) (ts : Tokens) → Near (counted_tokens c ts) → Low (early_alts ds test output known (counted_alts k c)).places × Near ts
    counted_low (counted_end e) k ts x = (tt, x.1)
    counted_low (counted_more i a c) k ts x =
        let y = action_low a (counted_tokens c ts) x.1 in
        let z = counted_low c (suc k) ts y.1 in
        (low_both (found (act_of a)) _ y.0 z.0, z.1)

    selected_low : (v : Selected) (ts : Tokens) → Near (selected_tokens v ts) → Low (early_alts ds test output known (selected_alts v)).places × Near ts
    selected_low (select c b a m) ts x =
        let y = action_low a (selected_more_tokens m ts) (past_made (selector_made c) (tk _ b ∷ action_tokens a (selected_more_tokens m ts)) x).1 in
        let z = more_low m ts y.1 in
        (low_both (found (act_of a)) _ y.0 z.0, z.1)
    selected_low (otherwise i b a e) ts x =
        let y = action_low a (tk _ e ∷ ts) x.1.1 in (low_both (found (act_of a)) [] y.0 tt, y.1.1)

    more_low : (m : SelectedMore) (ts : Tokens) → Near (selected_more_tokens m ts) → Low (early_alts ds test output known (more_alts m)).places × Near ts
    more_low (selected_end e) ts x = (tt, x.1)
    more_low (selected_more c v) ts x = selected_low v ts x.1

-- a body behind the name of its declaration
past_own : (o : OwnBits) (ts : Tokens) → Near (own_bits_tokens o ts) → Near ts
past_own (unnamed g) ts x = x.1
past_own (named n (bit g)) ts x = x.1.1
past_own (named n (upto c k g)) ts x = x.1.1.1.1

past_main : (o : MainBits) (ts : Tokens) → Near (main_bits_tokens o ts) → Near ts
past_main bitless ts x = x
past_main (main_bits l o) ts x = past_own o ts x.1

past_action : (a : Action) (ts : Tokens) → Near (action_tokens a ts) → Near ts
past_action a ts x = (action_low [] [] 0 (λ n. nowhere) (λ n. tt) a ts x).1

past_heading : (h : Heading) (ts : Tokens) → Near (heading_tokens h ts) → Near ts
past_heading no_heading ts x = x
past_heading (heading l n r) ts x = x.1.1.1

-- a body among tokens below the mark
abbrev NearBody : Action → Type 0
NearBody a = (rest : Tokens) × Near (action_tokens a rest)

its_body : (b : Action) (ts : Tokens) → Near (action_tokens b ts) → (a : Action) → some b ≡ some a → NearBody a
its_body b ts x a e = let same : b ≡ a = cc in subst NearBody same (ts, x)

bodiless : (a : Action) → none ≡ some a → NearBody a
bodiless a e = absurd (none-ne-some a e)

-- the body of a declaration, and the tokens behind it
declaration_near : (d : Declaration) (ts : Tokens) → Near (declaration_tokens d ts) → ((a : Action) → (declared_of d).body ≡ some a → NearBody a) × Near ts
declaration_near (plain n (words l f c t r b o)) ts x = (bodiless, past_own o ts x.1.1.1.1.1.1.1)
declaration_near (plain n (with_bits l o carrier)) ts x = (bodiless, past_own o ts x.1.1)
declaration_near (plain n (with_bits l o (given e (body g a m)))) ts x =
    let y = (past_own o _ x.1.1).1 in
    (its_body (block g a m) ts y, past_action (block g a m) ts y)
declaration_near (plain n (with_bits l o (given e (mapped t b c r)))) ts x =
    (bodiless, past_own (named c r) ts (past_own o _ x.1.1).1.1.1)
declaration_near (plain n (bare_body e g a m)) ts x =
    (its_body (block g a m) ts x.1.1, past_action (block g a m) ts x.1.1)
declaration_near (main i n o e g a m) ts x =
    let y = (past_main o _ x.1.1).1 in
    (its_body (block g a m) ts y, past_action (block g a m) ts y)

following_near : (ds : Declarations) → Near (declarations_tokens ds []) → (k : ℕ) (d : Declared) → get_elem? (rest_of ds) k ≡ some d
    → (a : Action) → d.body ≡ some a → NearBody a
unfolding rest_of
following_near (declared_all e) x k d h a q = absurd (none-ne-some d h)
following_near (declared_also c g y ds) x zero d h a q =
    let same : declared_of y ≡ d = cc in
    (declaration_near y (declarations_tokens ds []) (past_heading g _ x.1)).0 a (ap (λ (z : Declared). z.body) same ∙ q)
following_near (declared_also c g y ds) x (suc k) d h a q =
    following_near ds (declaration_near y (declarations_tokens ds []) (past_heading g _ x.1)).1 k d h a q

declared_near : (d : Description) → Near (flatten d) → (k : ℕ) (x : Declared) → get_elem? (declarations d) k ≡ some x → (a : Action) → x.body ≡ some a → NearBody a
unfolding declarations
declared_near (description n e b g y ds) x zero d h a q =
    let same : declared_of y ≡ d = cc in
    (declaration_near y (declarations_tokens ds []) (past_heading g _ x.1.1.1)).0 a (ap (λ (z : Declared). z.body) same ∙ q)
declared_near (description n e b g y ds) x (suc k) d h a q =
    following_near ds (declaration_near y (declarations_tokens ds []) (past_heading g _ x.1.1.1)).1 k d h a q

module _ (d : Description) (near : Near (flatten d)) (test : Word) (output : ℕ) where
  bodies_low : (k : ℕ) (w : Word) → Low (body_early (declarations d) test output k w).places
  unfolding body_early body_act early early_i
  bodies_low zero w = tt
  bodies_low (suc k) w = by (body_early (declarations d) test output k) (bodies_low k) (body_of (declarations d) w) refl
    where
      by : (known : Word → Report) → ((n : Word) → Low (known n).places) → (o : Option Action) → body_of (declarations d) w ≡ o
          → Low (early (declarations d) test output known (body_act (declarations d) w)).places
      by known low none e = rw (body_act, e) tt
      by known low (some a) e =
          let f = found_body (declarations d) w a e in
          let s = declared_near d near f.number f.declared f.there a f.its in
          rw (body_act, e) (action_low (declarations d) test output known low a s.0 s.1).0

  -- ALL PLACES that are too early lie below the mark
  pub places_under : Under unseen (early_places (declarations d) test output)
  unfolding early_places
  places_under = bodies_low longest_chain (main_name (declarations d))

-- the tokens of a description in the table
pub written_near : {text records decls : List ℕ} {m n : ℕ} (v : Written text records decls m n) → Near (flatten v.description)
written_near v =
    subst Near (sym v.ready.stands) (all_near v.tokens (λ i h. omega (arith, (v.ready.holds.entry i h).inside, v.ready.holds.short)))
