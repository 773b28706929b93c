-- The faults of the 50s: their numbers lie between bounds, and their places in the text. So 50 and 51 come before 52 and 53.
use Rattle.std.specs.Prelude.{ℕ, zero, suc, ◌+◌, ◌*◌, ◌<◌, ◌≤◌, ◌≡◌, Bool, true, false, not, length, drop}
use Rattle.std.proofs.Math.Path.{refl, subst}
use Rattle.std.proofs.Common.{sym, ap, ◌∙◌, arith}
use mathlib.Core.List.{List, [], ◌∷◌, ◌++◌}
use Rattle.std.proofs.Math.Option.{Option, none, some}
use Rattle.std.proofs.Math.ListN.{get_elem?}
use Rattle.cells.specs.Cells.{cell}
use Rattle.rules.specs.Text.Tokens.{Info, Token, tk, MAIN}
use Rattle.rules.specs.Limits.{longest_text}
use Rattle.rules.specs.Grammar.Trees.{Tokens, bit, upto, OwnBits, unnamed, named, own_bits_tokens, MainBits, bitless, main_bits, main_bits_tokens, Declaration, plain, main, words, with_bits, bare_body, carrier, given, body, mapped, declarations_tokens, Action, block, labelled, if_then, decode, repeat, leave, restart, activate, stop, no_op, transfer, action_tokens, Members, end, also, next, members_tokens, Alternatives, counted, selected, alternatives_tokens, Counted, counted_end, counted_more, counted_tokens, Selected, select, otherwise, selected_tokens, SelectedMore, selected_end, selected_more, selected_more_tokens}
use Rattle.rules.specs.Declarations.{Declared, Table, declared_of}
use Rattle.rules.specs.Steps.Actions.{act_of}
use Rattle.rules.specs.Whole.Sets.{Sets, touched, may_stop}
use Rattle.rules.specs.Faults.Fault.{Fault, fault, when}
use Rattle.rules.specs.Faults.Bodies.{first_place}
use Rattle.rules.specs.Faults.Whole.{Scope, labelled_in, aims_out, has_more, races_any, member_faults, member_scope, group_faults, members_of, alternatives_groups, counted_groups, selected_groups, more_groups, mains, begins_chain, chains, body_groups, groups_faults, faults50}
use Rattle.records.specs.Holds.{token_at}
use Rattle.table.specs.Declarations.{LedBy, name_tokens}
use Rattle.keys.specs.Keys.{no_key, least_by, least_number_key, Smalls, none_small, also_small}
use Rattle.laws_orders.proofs.Orders.Tests.{impossible}
use Rattle.reading.specs.Reading.{Reading, table_of}
use Rattle.reading.specs.Meanings.{declares}
use Rattle.reading.specs.Laws.Meanings.{table_size_lem}
use Rattle.scopes.specs.Laws.Behind.{Made, expression_made, transfer_made, selector_made}
use Rattle.reading.specs.Groups.{place_of}
use Rattle.reading.specs.Laws.Groups.{first_place_lem}
use Rattle.chains.specs.Laws.Least.{name_there}

pub data Between (low high : ℕ) : List Fault → Type 0 where
  between_none : Between low high []
  between_more : {f : Fault} {fs : List Fault} → low ≤ f.number → f.number ≤ high → f.place ≤ longest_text → Between low high fs → Between low high (f ∷ fs)

between_append : {low high : ℕ} {xs ys : List Fault} → Between low high xs → Between low high ys → Between low high (xs ++ ys)
between_append between_none q = q
between_append (between_more l h p b) q = between_more l h p (between_append b q)

between_when : {low high : ℕ} (b : Bool) (n p : ℕ) → low ≤ n → n ≤ high → p ≤ longest_text → Between low high (when b n p)
between_when true n p l h q = between_more {f = fault n p} l h q between_none
between_when false n p l h q = between_none

between_wider : {low high l h : ℕ} {fs : List Fault} → l ≤ low → high ≤ h → Between low high fs → Between l h fs
between_wider a b between_none = between_none
between_wider a b (between_more {f} x y p z) = between_more {f = f} (omega arith) (omega arith) p (between_wider a b z)

pub smalls : {low high : ℕ} {fs : List Fault} → high < 128 → Between low high fs → Smalls fs
smalls h between_none = none_small
smalls h (between_more {f} l k p b) = also_small {f = f} (record { number = omega arith; place = p }) (smalls h b)

-- the least key of such faults
pub above : {low high : ℕ} {fs : List Fault} → low ≤ 127 → Between low high fs → low * 65536 ≤ least_number_key fs
unfolding least_by
above h between_none = omega arith
above h (between_more {f} l k p b) = omega (arith, above h b)

pub below : {low high : ℕ} {fs : List Fault} → (least_number_key fs ≡ no_key → ⊥) → Between low high fs → least_number_key fs < high * 65536 + 65536
unfolding least_by
below n between_none = absurd (n refl)
below n (between_more {f} {fs} l k p b) = omega arith

-- tokens whose places lie in the text
pub data Placed : Tokens → Type 0 where
  placed_none : Placed []
  placed_more : {t : Token} {ts : Tokens} → t.info.place ≤ longest_text → Placed ts → Placed (t ∷ ts)

at_head : {t : Token} {ts : Tokens} → Placed (t ∷ ts) → t.info.place ≤ longest_text
at_head (placed_more p x) = p

tail : {t : Token} {ts : Tokens} → Placed (t ∷ ts) → Placed ts
tail (placed_more p x) = x

past : (xs ts : Tokens) → Placed (xs ++ ts) → Placed ts
past [] ts x = x
past (t ∷ xs) ts x = past xs ts (tail x)

past_made : {q : ℕ → Bool} {f : Tokens → Tokens} (m : Made q f) (ts : Tokens) → Placed (f ts) → Placed ts
past_made m ts x = past m.tokens ts (subst Placed (m.writes ts) x)

past_dropped : (i : ℕ) (ts : Tokens) → Placed ts → Placed (drop i ts)
past_dropped zero ts x = x
past_dropped (suc i) [] x = x
past_dropped (suc i) (t ∷ ts) x = past_dropped i ts (tail x)

all_placed : (ts : Tokens) → ((i : ℕ) → i < length ts → (token_at ts i).info.place ≤ longest_text) → Placed ts
all_placed [] h = placed_none
all_placed (t ∷ ts) h = placed_more (h 0 (omega arith)) (all_placed ts (λ i l. h (suc i) (omega arith)))

first_placed : (a : Action) (ts : Tokens) → Placed (action_tokens a ts) → first_place a ≤ longest_text
first_placed a ts x = omega (arith, first_place_lem [] a ts, by (action_tokens a ts) x)
  where
    by : (ts : Tokens) → Placed ts → place_of ts ≤ longest_text
    by [] x = omega arith
    by (t ∷ ts) x = at_head x

-- 52 and 53
module _ (ds : Table) where
  abbrev Group : List Fault → Type 0
  Group fs = Between 52 53 fs

  member_group : (b : Bool) (before : List Sets) (a : Action) → first_place a ≤ longest_text → Group (member_faults ds b before a)
  member_group false before a p = between_none
  member_group true before a p =
      between_append (between_when (may_stop ds (act_of a)) 52 (first_place a) (omega arith) (omega arith) p)
      (between_when (races_any (touched ds (act_of a)) before) 53 (first_place a) (omega arith) (omega arith) p)

  mutual
    unfolding group_faults

    action_group : (a : Action) (s : Scope) (ts : Tokens) → Placed (action_tokens a ts) → Group (group_faults ds s a) × Placed ts
    action_group (block b a m) s ts x =
        let y = action_group a (member_scope ds (has_more m) s) (members_tokens m ts) (tail x) in
        let z = members_group m s (touched ds (act_of a) ∷ []) ts y.1 in
        (between_append (member_group (has_more m) [] a (first_placed a (members_tokens m ts) (tail x))) (between_append y.0 z.0), z.1)
    action_group (labelled n b a) s ts x = action_group a (labelled_in n.word s) ts (tail (tail x))
    action_group (if_then i o t w a) s ts x = action_group a s ts (tail (past_made (expression_made o t) (tk _ w ∷ action_tokens a ts) (tail x)))
    action_group (decode i o t w b v) s ts x = alternatives_group v s ts
        (tail (tail (past_made (expression_made o t) (tk _ w ∷ tk _ b ∷ alternatives_tokens v ts) (tail x))))
    action_group (repeat i a) s ts x = action_group a s ts (tail x)
    action_group (leave i n) s ts x = (between_when (aims_out s n.word) 52 i.place (omega arith) (omega arith) (at_head x), tail (tail x))
    action_group (restart i n) s ts x = (between_when (aims_out s n.word) 52 i.place (omega arith) (omega arith) (at_head x), tail (tail x))
    action_group (activate n l r) s ts x = (between_none, tail (tail (tail x)))
    action_group (stop i l r) s ts x = (between_none, tail (tail (tail x)))
    action_group (no_op i l r) s ts x = (between_none, tail (tail (tail x)))
    action_group (transfer n y b j e o t) s ts x = (between_none, past_made (transfer_made n y b j e o t) ts x)

    members_group : (m : Members) (s : Scope) (before : List Sets) (ts : Tokens) → Placed (members_tokens m ts) → Group (members_of ds s before m) × Placed ts
    members_group (end e) s before ts x = (between_none, tail x)
    members_group (also i a m) s before ts x =
        let y = action_group a (member_scope ds true s) (members_tokens m ts) (tail x) in
        let z = members_group m s (touched ds (act_of a) ∷ before) ts y.1 in
        (between_append (member_group true before a (first_placed a (members_tokens m ts) (tail x))) (between_append y.0 z.0), z.1)
    members_group (next i a m) s before ts x =
        let y = action_group a (member_scope ds (has_more m) s) (members_tokens m ts) (tail x) in
        let z = members_group m s (touched ds (act_of a) ∷ []) ts y.1 in
        (between_append (member_group (has_more m) [] a (first_placed a (members_tokens m ts) (tail x))) (between_append y.0 z.0), z.1)

    alternatives_group : (v : Alternatives) (s : Scope) (ts : Tokens) → Placed (alternatives_tokens v ts) → Group (alternatives_groups ds s v) × Placed ts
    alternatives_group (counted a c) s ts x =
        let y = action_group a s (counted_tokens c ts) x in
        let z = counted_group c s ts y.1 in
        (between_append y.0 z.0, z.1)
    alternatives_group (selected v) s ts x = selected_group v s ts x

    counted_group : (c : Counted) (s : Scope) (ts : Tokens) → Placed (counted_tokens c ts) → Group (counted_groups ds s c) × Placed ts
    counted_group (counted_end e) s ts x = (between_none, tail x)
    counted_group (counted_more i a c) s ts x =
        let y = action_group a s (counted_tokens c ts) (tail x) in
        let z = counted_group c s ts y.1 in
        (between_append y.0 z.0, z.1)

    selected_group : (v : Selected) (s : Scope) (ts : Tokens) → Placed (selected_tokens v ts) → Group (selected_groups ds s v) × Placed ts
    selected_group (select c b a m) s ts x =
        let y = action_group a s (selected_more_tokens m ts) (tail (past_made (selector_made c) (tk _ b ∷ action_tokens a (selected_more_tokens m ts)) x)) in
        let z = more_group m s ts y.1 in
        (between_append y.0 z.0, z.1)
    selected_group (otherwise i b a e) s ts x = let y = action_group a s (tk _ e ∷ ts) (tail (tail x)) in (y.0, tail y.1)

    more_group : (m : SelectedMore) (s : Scope) (ts : Tokens) → Placed (selected_more_tokens m ts) → Group (more_groups ds s m) × Placed ts
    more_group (selected_end e) s ts x = (between_none, tail x)
    more_group (selected_more c v) s ts x = selected_group v s ts (tail x)

-- a body behind the name of its declaration
past_own : (o : OwnBits) (ts : Tokens) → Placed (own_bits_tokens o ts) → Placed ts
past_own (unnamed g) ts x = tail x
past_own (named n (bit g)) ts x = tail (tail x)
past_own (named n (upto c k g)) ts x = tail (tail (tail (tail x)))

past_main : (o : MainBits) (ts : Tokens) → Placed (main_bits_tokens o ts) → Placed ts
past_main bitless ts x = x
past_main (main_bits l o) ts x = past_own o ts (tail x)

body_placed : (d : Declaration) (a : Action) (ts : Tokens) → (declared_of d).body ≡ some a → Placed (name_tokens d ts) → Placed (action_tokens a ts)
body_placed (plain n (words l f c t r b o)) a ts e x = impossible (cc)
body_placed (plain n (with_bits l o carrier)) a ts e x = impossible (cc)
body_placed (plain n (with_bits l o (given e (body g y m)))) a ts h x =
    let is : block g y m ≡ a = cc in subst (λ (z : Action). Placed (action_tokens z ts)) is (tail (past_own o _ (tail (tail x))))
body_placed (plain n (with_bits l o (given e (mapped t y c r)))) a ts h x = impossible (cc)
body_placed (plain n (bare_body e g y m)) a ts h x = let is : block g y m ≡ a = cc in subst (λ (z : Action). Placed (action_tokens z ts)) is (tail (tail x))
body_placed (main i n o e g y m) a ts h x = let is : block g y m ≡ a = cc in subst (λ (z : Action). Placed (action_tokens z ts)) is
    (tail (past_main o _ (tail x)))

main_led : (d : Declaration) (t : Token) (i : Info) → LedBy t d → (declared_of d).mainly ≡ some i → t ≡ tk MAIN i
main_led (plain n (words l f c u r b o)) t i x e = impossible (cc)
main_led (plain n (with_bits l o carrier)) t i x e = impossible (cc)
main_led (plain n (with_bits l o (given g (body b a m)))) t i x e = impossible (cc)
main_led (plain n (with_bits l o (given g (mapped y b c r)))) t i x e = impossible (cc)
main_led (plain n (bare_body g b a m)) t i x e = impossible (cc)
main_led (main k n o e b a m) t i l h = let is : k ≡ i = cc in l ∙ ap (tk MAIN) is

-- from each declaration in turn
each_between : {low high : ℕ} (at : Declared → List Fault) (all : Table → List Fault) → all [] ≡ []
    → ((d : Declared) (ds : Table) → all (d ∷ ds) ≡ at d ++ all ds)
    → (ds : Table) → ((k : ℕ) (d : Declared) → get_elem? ds k ≡ some d → Between low high (at d)) → Between low high (all ds)
each_between {low} {high} at all none_left step [] h = subst (Between low high) (sym none_left) between_none
each_between {low} {high} at all none_left step (d ∷ ds) h =
    subst (Between low high) (sym (step d ds)) (between_append (h 0 d refl) (each_between at all none_left step ds (λ k x e. h (suc k) x e)))

mains_between : (seen : Bool) (ds : Table) → ((k : ℕ) (d : Declared) (i : Info) → get_elem? ds k ≡ some d → d.mainly ≡ some i → i.place ≤ longest_text)
    → Between 50 50 (mains seen ds)
unfolding mains
mains_between seen [] h = between_when (not seen) 50 0 (omega arith) (omega arith) (omega arith)
mains_between seen (d ∷ ds) h = by d.mainly refl (λ s. mains_between s ds (λ k x i e. h (suc k) x i e))
  where
    by : (o : Option Info) → d.mainly ≡ o → ((s : Bool) → Between 50 50 (mains s ds)) → Between 50 50
        (elim o [ none ↦ mains seen ds | some i ↦ when seen 50 i.place ++ mains true ds ])
    by none e rest = rest seen
    by (some i) e rest = between_append (between_when seen 50 i.place (omega arith) (omega arith) (h 0 d i refl e)) (rest true)

module _ {records decls : List ℕ} {m n : ℕ} (v : Reading records decls m n) where
  token_placed : (i : ℕ) → i < length v.tokens → (token_at v.tokens i).info.place ≤ longest_text
  token_placed i h = let y = v.ready.holds.entry i h in omega (arith, y.inside, v.ready.holds.short)

  -- the declaration k
  record Found (k : ℕ) (d : Declared) : Type 0 where
    within : k < m
    is : declared_of (declares v k within).declaration ≡ d

  found : (k : ℕ) (d : Declared) → get_elem? (table_of v) k ≡ some d → Found k d
  found k d e = let h : k < m = omega (arith, inside (table_of v) k d e, table_size_lem v) in record { within = h; is = cc (declares v k h).found }
    where
      inside : (ds : Table) (k : ℕ) (d : Declared) → get_elem? ds k ≡ some d → k < length ds
      inside [] k d e = impossible (cc)
      inside (x ∷ ds) zero d e = omega arith
      inside (x ∷ ds) (suc k) d e = omega (arith, inside ds k d e)

  pub mains_are : Between 50 50 (mains false (table_of v))
  mains_are = mains_between false (table_of v) (λ k d i e f.
      let x = found k d e in
      let s = (declares v k x.within).stands in
      let p = (name_there x.within refl v).0 in
      let t = main_led (declares v k x.within).declaration _ i s.led (ap (λ (y : Declared). y.mainly) x.is ∙ f) in
      subst (λ (y : Token). y.info.place ≤ longest_text) t (token_placed _ (omega arith)))

  pub chains_are : Between 51 51 (chains (table_of v) (table_of v))
  unfolding chains
  chains_are = each_between (λ d. when (begins_chain (table_of v) d.name.word d.body) 51 d.name.place) (chains (table_of v)) refl (λ d ds. refl)
      (table_of v) (λ k d e.
      let x = found k d e in
      let y = name_there x.within refl v in
      let p : d.name.place ≤ longest_text = subst (λ (z : Declared). z.name.place ≤ longest_text) x.is (subst (λ (z : Token). z.info.place ≤ longest_text) y.1 (token_placed _ y.0)) in
      between_when (begins_chain (table_of v) d.name.word d.body) 51 d.name.place (omega arith) (omega arith) p)

  pub groups_are : Between 52 53 (groups_faults (table_of v) (table_of v))
  unfolding groups_faults
  groups_are = each_between (λ d. body_groups (table_of v) d.body) (groups_faults (table_of v)) refl (λ d ds. refl) (table_of v)
      (λ k d e. by k d (found k d e) d.body refl)
    where
      by : (k : ℕ) (d : Declared) (x : Found k d) (o : Option Action) → d.body ≡ o → Between 52 53 (body_groups (table_of v) o)
      by k d x none e = between_none
      by k d x (some a) e =
          let s = (declares v k x.within).stands in
          let rest = declarations_tokens s.following [] in
          (action_group (table_of v) a none rest (body_placed (declares v k x.within).declaration a rest (ap (λ (y : Declared). y.body) x.is ∙ e)
          (subst Placed s.reads (past_dropped (cell 2 decls k) v.tokens (all_placed v.tokens token_placed))))).0

  -- THE FAULTS of the 50s are small, so that the least has the least key
  pub faults_small : Smalls (faults50 (table_of v))
  unfolding faults50
  faults_small =
      smalls {low = 50} {high = 53} (omega arith) (between_append (between_wider (omega arith) (omega arith) mains_are)
      (between_append (between_wider (omega arith) (omega arith) chains_are) (between_wider (omega arith) (omega arith) groups_are)))
