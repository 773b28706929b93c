-- The groups in the tokens of a description are those of its trees.
use Rattle.std.specs.Prelude.{ℕ, ◌≡◌, Bool, eqb, drop}
use Rattle.std.proofs.Math.Path.{refl, subst}
use Rattle.std.proofs.Common.{sym, ap, ◌∙◌}
use Rattle.std.proofs.Math.Bool.{true, false}
use mathlib.Core.List.{List, [], ◌∷◌, ◌++◌, append_assoc}
use Rattle.rules.specs.Text.Tokens.{Info, Token, tk, Arrow, BEGIN, Semi, kind_no}
use Rattle.rules.specs.Grammar.Trees.{Tokens, bit, upto, OwnBits, unnamed, named, own_bits_tokens, body, mapped, carrier, given, bitless, main_bits, Form, words, with_bits, bare_body, Declaration, plain, main, declaration_tokens, Heading, no_heading, heading, heading_tokens, Declarations, declared_all, declared_also, declarations_tokens, Description, description, flatten}
use Rattle.rules.specs.Grammar.Trees.{Action, block, labelled, if_then, decode, repeat, leave, restart, activate, stop, no_op, transfer, action_tokens, Members, end, also, next, members_tokens, Alternatives, counted, selected, alternatives_tokens, Counted, counted_end, counted_more, counted_tokens, Selected, select, otherwise, selected_tokens, SelectedMore, selected_end, selected_more, selected_more_tokens}
use Rattle.rules.specs.Declarations.{Table, declared_of, rest_of, declarations}
use Rattle.rules.specs.Whole.Sets.{member}
use Rattle.table.specs.Scans.{no, separates, deeper, halts, scan, stops}
use Rattle.table.specs.Laws.Scans.{past_action}
use Rattle.reading.specs.Kinds.{ends, next_no}
use Rattle.reading.specs.Behind.{behind}
use Rattle.reading.specs.Groups.{more}
use Rattle.reading.specs.Laws.Hearing.{Apart, members_apart}
use Rattle.reading.specs.Laws.Groups.{touch_action, first_place_lem, lone_alternatives}
use Rattle.scopes.specs.Walks.{opens}
use Rattle.scopes.specs.Laws.Behind.{plain as plainly, quiet, All, all_none, all_more, Quiet, plain_kind, quiet_kind, expression_made, transfer_made, selector_made}
use Rattle.rules.specs.Reasons.{Member, member_of, others, group_of, groups_in, groups_behind, groups_alternatives, groups_counted, groups_selected, groups_more, groups_of_body, groups_of}
use Rattle.racing.specs.Groups.{member_here, others_here, group_here, groups_here}
use Rattle.racing.specs.Laws.Alike.{AlikeMember, AlikeMembers, Matches, match_none, match_group, match_lone}

module _ (ds : Table) where
  -- reading on, one comes to the separator first
  unfoldable pub onward : Tokens → List Member
  onward [] = []
  onward (t ∷ ts) = elim (eqb (no t) (kind_no Semi)) [ true ↦ group_here ds ts | false ↦ [] ]

  pub others_onward : (d : ℕ) (ts : Tokens) → others_here ds d ts ≡ onward (behind d ts)
  unfolding others_here scan onward
  others_onward d [] = refl
  others_onward d (t ∷ ts) = by (ends d (no t)) (others_onward (deeper d (no t)) ts)
    where
      by : (b : Bool) → others_here ds (deeper d (no t)) ts ≡ onward (behind (deeper d (no t)) ts)
          → elim b [ true ↦ elim (eqb (no t) (kind_no Semi)) [ true ↦ member_here ds ts ∷ others_here ds 0 ts | false ↦ [] ] | false ↦ others_here ds (deeper d (no t)) ts ]
          ≡ onward (elim b [ true ↦ t ∷ ts | false ↦ behind (deeper d (no t)) ts ])
      by true h = refl
      by false h = h

  others_action : (a : Action) (d : ℕ) (ts : Tokens) → others_here ds d (action_tokens a ts) ≡ others_here ds d ts
  others_action a d ts = others_onward d (action_tokens a ts) ∙ (ap onward (past_action a d ts) ∙ sym (others_onward d ts))

  member_alike : (a : Action) (ts : Tokens) → Apart ts → AlikeMember (member_here ds (action_tokens a ts)) (member_of ds a)
  unfolding member_here member_of
  member_alike a ts s = record { place = first_place_lem ds a ts; touches = touch_action ds a ts s }

  others_alike : (m : Members) (ts : Tokens) → AlikeMembers (others_here ds 0 (members_tokens m ts)) (others ds m)
  unfolding others_here others halts stops separates member
  others_alike (end e) ts = tt
  others_alike (next i a m) ts = tt
  others_alike (also i a m) ts = (
    member_alike a (members_tokens m ts) (members_apart m ts),
    subst (λ (l : List Member). AlikeMembers l (others ds m)) (sym (others_action a 0 (members_tokens m ts))) (others_alike m ts),
  )

  group_alike : (a : Action) (m : Members) (ts : Tokens) → AlikeMembers (group_here ds (action_tokens a (members_tokens m ts))) (group_of ds a m)
  group_alike a m ts = (
    member_alike a (members_tokens m ts) (members_apart m ts),
    subst (λ (l : List Member). AlikeMembers l (others ds m)) (sym (others_action a 0 (members_tokens m ts))) (others_alike m ts),
  )

  -- an action alone
  no_onward : (ts : Tokens) → eqb (next_no ts) (kind_no Semi) ≡ false → onward ts ≡ []
  unfolding onward
  no_onward [] e = refl
  no_onward (t ∷ ts) e = rw (e, onward) refl

  alone : (ts : Tokens) → more ts ≡ false → others_here ds 0 ts ≡ []
  unfolding more
  alone ts e = others_onward 0 ts ∙ no_onward (behind 0 ts) e

  -- tokens that open no group
  pass : (t : Token) (ts : Tokens) → Quiet (no t) → groups_here ds (t ∷ ts) ≡ groups_here ds ts
  unfolding groups_here opens member
  pass t ts q = rw (q.begin, q.next, groups_here)

  pass_plain : (xs ts : Tokens) → All plainly xs → groups_here ds (xs ++ ts) ≡ groups_here ds ts
  pass_plain xs ts all_none = refl
  pass_plain xs ts (all_more {t} {ts = ys} e a) = pass t (ys ++ ts) (plain_kind (no t) e).1 ∙ pass_plain ys ts a

  pass_quiet : (xs ts : Tokens) → All quiet xs → groups_here ds (xs ++ ts) ≡ groups_here ds ts
  pass_quiet xs ts all_none = refl
  pass_quiet xs ts (all_more {t} {ts = ys} e a) = pass t (ys ++ ts) (quiet_kind (no t) e).1 ∙ pass_quiet ys ts a

  abbrev Match : Tokens → List (List Member) → Type 0
  Match ts hs = Matches (groups_here ds ts) hs

  passed : {xs ys : List (List Member)} {hs : List (List Member)} → xs ≡ ys → Matches ys hs → Matches xs hs
  passed {hs = hs} e m = subst (λ (l : List (List Member)). Matches l hs) (sym e) m

  regroup : {xs : List (List Member)} (us vs ws : List (List Member)) → Matches xs (us ++ (vs ++ ws)) → Matches xs ((us ++ vs) ++ ws)
  regroup {xs} us vs ws m = subst (Matches xs) (sym (append_assoc us vs ws)) m

  -- the BEGIN of the alternatives opens no group
  alone_match : (v : Alternatives) (ts : Tokens) (hs : List (List Member)) → Match (alternatives_tokens v ts) (groups_alternatives ds v ++ hs)
      → Matches (group_here ds (alternatives_tokens v ts) ∷ groups_here ds (alternatives_tokens v ts)) (groups_alternatives ds v ++ hs)
  alone_match v ts hs x =
      subst (λ (l : List Member). Matches ((member_here ds (alternatives_tokens v ts) ∷ l) ∷ groups_here ds (alternatives_tokens v ts)) (groups_alternatives ds v ++ hs))
      (sym (alone (alternatives_tokens v ts) (lone_alternatives v ts))) (match_lone x)

  mutual
    unfolding groups_here opens member groups_in

    action_match : (a : Action) (ts : Tokens) (hs : List (List Member)) → Match ts hs → Match (action_tokens a ts) (groups_in ds a ++ hs)
    action_match (block b a m) ts hs x =
        match_group (group_alike a m ts) (regroup (groups_in ds a) (groups_behind ds m) hs (action_match a (members_tokens m ts) (groups_behind ds m ++ hs) (members_match m ts hs x)))
    action_match (labelled n b a) ts hs x = action_match a ts hs x
    action_match (if_then i o t w a) ts hs x =
        let k = expression_made o t in
        passed (ap (groups_here ds) (k.writes (tk Arrow w ∷ action_tokens a ts)) ∙ pass_plain k.tokens (tk Arrow w ∷ action_tokens a ts) k.kinds) (action_match a ts hs x)
    action_match (decode i o t w b v) ts hs x =
        let k = expression_made o t in
        passed (ap (groups_here ds) (k.writes (tk Arrow w ∷ tk BEGIN b ∷ alternatives_tokens v ts)) ∙ pass_plain k.tokens (tk Arrow w ∷ tk BEGIN b ∷ alternatives_tokens v ts) k.kinds)
        (alone_match v ts hs (alternatives_match v ts hs x))
    action_match (repeat i a) ts hs x = action_match a ts hs x
    action_match (leave i n) ts hs x = x
    action_match (restart i n) ts hs x = x
    action_match (activate n l r) ts hs x = x
    action_match (stop i l r) ts hs x = x
    action_match (no_op i l r) ts hs x = x
    action_match (transfer n s b j e o t) ts hs x =
        let k = transfer_made n s b j e o t in passed (ap (groups_here ds) (k.writes ts) ∙ pass_plain k.tokens ts k.kinds) x

    members_match : (m : Members) (ts : Tokens) (hs : List (List Member)) → Match ts hs → Match (members_tokens m ts) (groups_behind ds m ++ hs)
    members_match (end e) ts hs x = x
    members_match (also i a m) ts hs x =
        regroup (groups_in ds a) (groups_behind ds m) hs (action_match a (members_tokens m ts) (groups_behind ds m ++ hs) (members_match m ts hs x))
    members_match (next i a m) ts hs x =
        match_group (group_alike a m ts) (regroup (groups_in ds a) (groups_behind ds m) hs (action_match a (members_tokens m ts) (groups_behind ds m ++ hs) (members_match m ts hs x)))

    alternatives_match : (v : Alternatives) (ts : Tokens) (hs : List (List Member)) → Match ts hs → Match (alternatives_tokens v ts) (groups_alternatives ds v ++ hs)
    alternatives_match (counted a c) ts hs x =
        regroup (groups_in ds a) (groups_counted ds c) hs (action_match a (counted_tokens c ts) (groups_counted ds c ++ hs) (counted_match c ts hs x))
    alternatives_match (selected v) ts hs x = selected_match v ts hs x

    counted_match : (c : Counted) (ts : Tokens) (hs : List (List Member)) → Match ts hs → Match (counted_tokens c ts) (groups_counted ds c ++ hs)
    counted_match (counted_end e) ts hs x = x
    counted_match (counted_more i a c) ts hs x =
        regroup (groups_in ds a) (groups_counted ds c) hs (action_match a (counted_tokens c ts) (groups_counted ds c ++ hs) (counted_match c ts hs x))

    selected_match : (v : Selected) (ts : Tokens) (hs : List (List Member)) → Match ts hs → Match (selected_tokens v ts) (groups_selected ds v ++ hs)
    selected_match (select c b a m) ts hs x =
        let k = selector_made c in
        let rest = tk _ b ∷ action_tokens a (selected_more_tokens m ts) in
        passed (ap (groups_here ds) (k.writes rest) ∙ pass_quiet k.tokens rest k.kinds)
        (regroup (groups_in ds a) (groups_more ds m) hs (action_match a (selected_more_tokens m ts) (groups_more ds m ++ hs) (more_match m ts hs x)))
    selected_match (otherwise i b a e) ts hs x = action_match a (tk _ e ∷ ts) hs x

    more_match : (m : SelectedMore) (ts : Tokens) (hs : List (List Member)) → Match ts hs → Match (selected_more_tokens m ts) (groups_more ds m ++ hs)
    more_match (selected_end e) ts hs x = x
    more_match (selected_more c v) ts hs x = selected_match v ts hs x

  -- declarations
  own_match : (o : OwnBits) (ts : Tokens) (hs : List (List Member)) → Match ts hs → Match (own_bits_tokens o ts) hs
  unfolding groups_here opens member
  own_match (unnamed g) ts hs x = x
  own_match (named n (bit g)) ts hs x = x
  own_match (named n (upto c k g)) ts hs x = x

  form_match : (n : Info) (f : Form) (ts : Tokens) (hs : List (List Member)) → Match ts hs → Match (declaration_tokens (plain n f) ts) (groups_of_body ds (declared_of (plain n f)).body ++ hs)
  unfolding groups_here opens member
  form_match n (words l f c t r b o) ts hs x = own_match o ts hs x
  form_match n (with_bits l o carrier) ts hs x = own_match o ts hs x
  form_match n (with_bits l o (given e (body b a m))) ts hs x = own_match o _ _ (action_match (block b a m) ts hs x)
  form_match n (with_bits l o (given e (mapped t q c (bit g)))) ts hs x = own_match o _ _ x
  form_match n (with_bits l o (given e (mapped t q c (upto k z g)))) ts hs x = own_match o _ _ x
  form_match n (bare_body e b a m) ts hs x = action_match (block b a m) ts hs x

  declaration_match : (d : Declaration) (ts : Tokens) (hs : List (List Member)) → Match ts hs → Match (declaration_tokens d ts) (groups_of_body ds (declared_of d).body ++ hs)
  unfolding groups_here opens member
  declaration_match (plain n f) ts hs x = form_match n f ts hs x
  declaration_match (main i n bitless e b a m) ts hs x = action_match (block b a m) ts hs x
  declaration_match (main i n (main_bits l o) e b a m) ts hs x = own_match o _ _ (action_match (block b a m) ts hs x)

  heading_match : (h : Heading) (ts : Tokens) (hs : List (List Member)) → Match ts hs → Match (heading_tokens h ts) hs
  unfolding groups_here opens member
  heading_match no_heading ts hs x = x
  heading_match (heading l n r) ts hs x = x

  rest_match : (es : Declarations) → Match (declarations_tokens es []) (groups_of ds (rest_of es))
  unfolding groups_here opens member rest_of groups_of
  rest_match (declared_all e) = match_none
  rest_match (declared_also c h d es) = heading_match h _ _ (declaration_match d (declarations_tokens es []) (groups_of ds (rest_of es)) (rest_match es))

  -- THE GROUPS of a description, behind its first three tokens
  pub all_match : (d : Description) → Match (drop 3 (flatten d)) (groups_of ds (declarations d))
  unfolding declarations groups_of
  all_match (description n e b h d es) = heading_match h _ _ (declaration_match d (declarations_tokens es []) (groups_of ds (rest_of es)) (rest_match es))
