-- Laws of members: the links of one and of those behind it make those of the block.
-- Assumes nothing.
use Prim.Native.Nat.{ℕ, suc, ◌+◌, ◌*◌, ◌-◌, ◌<◌, ◌≤◌}
use Rattle.std.specs.Prelude.{◌≡◌, refl, true, List, ◌∷◌, length, Some, None}
use Rattle.std.proofs.Math.Path.{sym, ap}
use Rattle.std.proofs.Common.{◌∙◌, subst}
use native.Mathlib.Omega.{arith}
use Rattle.std.proofs.Math.Numerals.{add-one}
use Rattle.std.proofs.Math.ListN.{drop}
use Rattle.rules.specs.Text.Tokens.{Token, tk, Semi, BEGIN, END, NEXT, kind_no}
use Rattle.rules.specs.Grammar.Trees.{Tokens, Action, action_tokens, Members, end, also, next, members_tokens}
use Rattle.rules.specs.Declarations.{Word, Table}
use Rattle.rules.specs.Whole.Sets.{member}
use Rattle.laws_grammar.specs.Cited.Heads.{head_kind}
use Rattle.laws_grammar.specs.Cited.Nesting.{action_nest, members_nest}
use Rattle.laws_orders.specs.Cited.Flat.{Link, at, Labels}
use Rattle.laws_code.specs.Cited.Code.{action_size, first_of, behind}
use Rattle.laws_code.proofs.Links.Numbers.{size_before}
use Rattle.laws_grammar.specs.Grammar.Positions.{members_writes}
use Rattle.records.specs.Holds.{kind_byte}
use Rattle.table.specs.Laws.Positions.{here, kind_here}
use Rattle.table.specs.Scans.{no, separates}
use Rattle.ways.specs.Seeking.{Ground, Seeks, Starts}
use Rattle.ways.specs.Laws.Ends.{end_sought, end_place, end_within}
use Rattle.ways.specs.Laws.Forms.{block_is, action_within}
use Rattle.ways.specs.Laws.Firsts.{first_fits, action_ends}
use Rattle.records.specs.Laws.Kept.{kept_none, kept_then, kept_wide}
use Rattle.ways.specs.Linked.{Linked, MembersLinked}
use Rattle.links.specs.Laws.Linked.{linked_same, block_size}
use Rattle.ways.specs.Laws.Stack.{labels_none, labels_then}
use Rattle.ways.specs.Standing.{ActionAt, Done}
use Rattle.ways.specs.declared.prefixes.Start.{Start}
use Rattle.links.specs.Laws.Setting.{moved, leading, standing, setting_of}
use Rattle.links.specs.Members.{RunLinked, MembersAt, end_of, MembersLeft, MembersDone, MemberAnswer}

-- what stands behind a member: `;`, NEXT or END, and what follows it
abbrev pub separator_of : Members → Token
separator_of (end x) = tk END x
separator_of (also x a m) = tk Semi x
separator_of (next x a m) = tk NEXT x

abbrev pub behind_separator : Members → Tokens → Tokens
behind_separator (end x) ts = ts
behind_separator (also x a m) ts = action_tokens a (members_tokens m ts)
behind_separator (next x a m) ts = action_tokens a (members_tokens m ts)

pub members_tokens_lem : (m : Members) (ts : Tokens) → members_tokens m ts ≡ separator_of m ∷ behind_separator m ts
members_tokens_lem (end x) ts = refl
members_tokens_lem (also x a m) ts = refl
members_tokens_lem (next x a m) ts = refl

pub members_separate : (m : Members) → separates (no (separator_of m)) ≡ true
unfolding separates member
members_separate (end x) = refl
members_separate (also x a m) = refl
members_separate (next x a m) = refl

-- END, or another member behind the separator
record Last (m : Members) : Type 0 where
  goes_out : (i : ℕ) (k : Link) → behind i k m ≡ k
  none_left : (records : List ℕ) (o : Word) (ds : Table) (ρ : Labels) (i : ℕ) (k : Link) → MembersLinked records o ds ρ i k m

record Further (m : Members) : Type 0 where
  action : Action
  members : Members
  tokens : (ts : Tokens) → behind_separator m ts ≡ action_tokens action (members_tokens members ts)
  goes_on : (i : ℕ) (k : Link) → behind i k m ≡ at (first_of (suc i) action)
  rest_linked : (records : List ℕ) (o : Word) (ds : Table) (ρ : Labels) (i : ℕ) (k : Link) → RunLinked records o ds ρ (suc i) k action members
      → MembersLinked records o ds ρ i k m
  shallow : (action_nest action ≤ members_nest m) × (members_nest members ≤ members_nest m)

last : (m : Members) → no (separator_of m) ≡ 20 → Last m
unfolding behind
last (end x) e = record { goes_out = λ i k. refl; none_left = λ r o ds ρ i k. tt }
last (also x a m) e = absurd (omega arith)
last (next x a m) e = absurd (omega arith)

further : (m : Members) → (no (separator_of m) ≡ 20 → ⊥) → Further m
unfolding behind
further (end x) n = absurd (n refl)
further (also x a m) n = record {
  action = a;
  members = m;
  tokens = λ ts. refl;
  goes_on = λ i k. refl;
  rest_linked = λ r o ds ρ i k h. h;
  shallow = (omega arith, omega arith);
}
further (next x a m) n = record {
  action = a;
  members = m;
  tokens = λ ts. refl;
  goes_on = λ i k. refl;
  rest_linked = λ r o ds ρ i k h. h;
  shallow = (omega arith, omega arith);
}

end_of_lem : {g : Ground} {records labels : List ℕ} {i link count first depth : ℕ} (v : MembersAt g records labels i link count first depth)
    → end_of v + length v.rest ≡ length g.tokens
end_of_lem {g} {i = i} v =
    let w = action_within v.setting.holds i v.action _ v.reads in
    omega (arith, action_ends g.tokens i v.action _ w v.reads, size_before (members_writes v.members) v.rest)

module _ {g : Ground} {records labels : List ℕ} {i link count first depth : ℕ} (v : MembersAt g records labels i link count first depth) where
  pub members_within : i < length records
  members_within = let w = action_within v.setting.holds i v.action _ v.reads in omega (arith, v.setting.holds.record_room)

  pub left_all : MembersLeft v records labels i first
  left_all = record {
    now = v;
    onward = omega arith;
    same_rest = refl;
    kept = kept_none records i i;
    stack = labels_none labels count;
    whole = λ later s l. l;
  }

  module _ {r l : List ℕ} {i' first' : ℕ} (p : MembersLeft v r l i' first') {r' l' : List ℕ} where
    pub left_then : {i'' first'' : ℕ} → MembersLeft p.now r' l' i'' first'' → MembersLeft v r' l' i'' first''
    left_then {i''} q =
        let h = p.onward in
        let k = q.onward in
        record {
          now = q.now;
          onward = omega arith;
          same_rest = q.same_rest ∙ p.same_rest;
          kept = kept_then i i'' p.kept q.kept (omega arith) (omega arith) (omega arith) (omega arith);
          stack = labels_then p.stack q.stack (omega arith);
          whole = λ later s x.
              p.whole later
              (record {
                inside = λ t y z. s.inside t y (omega arith) ∙ q.kept.inside t (λ a b. omega arith);
                link = λ t y z. s.link t y (omega arith) ∙ q.kept.link t (λ a b. omega arith);
              })
              (q.whole later (record { inside = λ t y z. s.inside t (omega arith) z; link = λ t y z. s.link t (omega arith) z }) x);
        }

    pub left_done : MembersDone p.now r' l' → MembersDone v r' l'
    left_done q =
        let h = p.onward in
        let e = end_of_lem v in
        let f = end_of_lem p.now in
        let k = kept_wide i' (end_of v) q.kept (omega arith) (omega (arith, p.same_rest)) in
        record {
          linked =
              p.whole r' (record { inside = λ t y z. k.inside t (λ a b. omega arith); link = λ t y z. k.link t (λ a b. omega arith) })
              q.linked;
          kept = kept_then i (end_of v) p.kept k (omega arith) (omega (arith, p.same_rest)) (omega arith) (omega arith);
          stack = labels_then p.stack q.stack (omega arith);
        }

  -- the next one
  another_member : {now after : List ℕ} (s : Start) → MembersLeft v now after s.at s.first → i < s.at → MemberAnswer v now after (Some s)
  another_member {now} {after} s l h = record {
    done = λ z. cc;
    left = λ t z. let e : s ≡ t = cc in subst (λ (x : Start). MembersLeft v now after x.at x.first) e l;
    further_on = λ t z. let e : s ≡ t = cc in subst (λ (x : Start). i < x.at) e h;
  }

  -- a member ends before its separator
  separated : drop i g.tokens ≡ action_tokens v.action (separator_of v.members ∷ behind_separator v.members v.rest)
  separated = v.reads ∙ ap (action_tokens v.action) (members_tokens_lem v.members v.rest)

  pub member_end : Seeks g records i 0
  member_end = end_sought g v.setting.holds i v.action _ _ separated (members_separate v.members)

  module _ (q : ℕ) (found : drop q g.tokens ≡ member_end.next ∷ member_end.rest) where
    at_end : drop q g.tokens ≡ separator_of v.members ∷ behind_separator v.members v.rest
    unfolding member_end
    at_end = found

    end_is : q ≡ i + action_size v.action
    end_is = end_place g v.setting.holds i v.action _ _ separated (members_separate v.members) q at_end

    pub member_end_within : (8 * q + 8 ≤ length records) × (q < 8192)
    member_end_within = end_within g v.setting.holds q _ _ at_end

    module _ {k : ℕ} (kind : k ≡ kind_byte records q) where
      kind_is : k ≡ no (separator_of v.members)
      kind_is = let x = here g.tokens q _ _ at_end in kind ∙ kind_here v.setting.holds q _ x.within x.token

      -- the last
      module _ (shut : k ≡ kind_no END) where
        pub last_member : ActionAt g records labels i link count first (depth - 1)
        last_member =
            standing v.setting v.action _ _ separated (members_separate v.members) v.begins (omega (arith, v.action_shallow))

        pub last_done : {now after : List ℕ} → Done last_member now after → MemberAnswer v now after None
        unfolding last_member
        last_done {now} {after} d =
            let m = last v.members (sym kind_is ∙ shut) in
            record {
              done = λ z. record {
                linked = (
                  rw (m.goes_out (i + action_size v.action) v.setting.behind) d.linked,
                  m.none_left now g.outer g.table v.setting.around (i + action_size v.action) v.setting.behind,
                );
                kept = kept_wide i (end_of v) d.kept (omega arith) (omega arith);
                stack = d.stack;
              };
              left = λ s z. cc;
              further_on = λ s z. cc;
            }

      -- another behind it
      module _ (going : k ≡ kind_no END → ⊥) where
        abbrev more : Further v.members
        more = further v.members (λ z. going (kind_is ∙ z))

        pub next_starts : Starts g records (q + 1)
        next_starts = record {
          holds = v.setting.holds;
          action = more.action;
          rest = members_tokens more.members v.rest;
          reads = (here g.tokens q _ _ at_end).behind ∙ more.tokens v.rest;
        }

        module _ {f : ℕ} (first_there : f ≡ first_of (q + 1) next_starts.action) where
          first_next : f ≡ first_of (suc (i + action_size v.action)) more.action
          unfolding next_starts
          first_next = first_there ∙ ap (λ j. first_of j more.action) (add-one q ∙ ap suc end_is)

          pub this_member : ActionAt g records labels i f count first (depth - 1)
          this_member =
              standing (leading v.setting (at f) refl (omega (arith, (first_fits next_starts first_there).1))) v.action _ _ separated
              (members_separate v.members) v.begins (omega (arith, v.action_shallow))

          more_left : {now after : List ℕ} → Done this_member now after → MembersLeft v now after (q + 1) f
          unfolding this_member next_starts
          more_left {now} d =
              let e = end_is in
              let one : q + 1 ≡ suc (i + action_size v.action) = omega arith in
              let link : at f ≡ behind (i + action_size v.action) v.setting.behind v.members
              = ap at first_next ∙ sym (more.goes_on (i + action_size v.action) v.setting.behind) in
              record {
                now = record {
                  setting = moved v.setting (q + 1) d.kept (omega arith) (omega arith) d.stack;
                  action = more.action;
                  members = more.members;
                  rest = v.rest;
                  reads = next_starts.reads;
                  begins = first_there;
                  action_shallow = omega (arith, v.members_shallow, more.shallow.0);
                  members_shallow = omega (arith, v.members_shallow, more.shallow.1);
                };
                onward = omega arith;
                same_rest = refl;
                kept = kept_wide i (q + 1) d.kept (omega arith) (omega arith);
                stack = d.stack;
                whole = λ later s x. (
                  linked_same now later g.outer g.table v.action v.setting.around i _
                      (record { inside = λ t y z. s.inside t y (omega arith); link = λ t y z. s.link t y (omega arith) })
                      (subst (λ (k : Link). Linked now g.outer g.table v.setting.around i k v.action) link d.linked),
                  more.rest_linked later g.outer g.table v.setting.around (i + action_size v.action) v.setting.behind
                      (subst (λ j. RunLinked later g.outer g.table v.setting.around j v.setting.behind more.action more.members) one x),
                );
              }

          pub more_done : {now after : List ℕ} → Done this_member now after → MemberAnswer v now after (Some (record { at = q + 1; first = f }))
          more_done {now} {after} d = let e = end_is in another_member (record { at = q + 1; first = f }) (more_left d) (omega arith)

-- the members of a block
module _ {g : Ground} {records labels : List ℕ} {i link count first depth : ℕ} (v : ActionAt g records labels i link count first depth)
    (e : head_kind v.action ≡ BEGIN) where
  pub block_members : MembersAt g records labels (i + 1) link count first depth
  unfolding first_of
  block_members =
      let (b, a, m, q) = block_is v.action e in
      let reads : drop i g.tokens ≡ tk BEGIN b ∷ action_tokens a (members_tokens m (v.next ∷ v.rest))
      = v.reads ∙ ap (λ (a : Action). action_tokens a (v.next ∷ v.rest)) q in
      let nest = ap action_nest q in
      record {
        setting = moved (setting_of v) (i + 1) (kept_none records i (i + 1)) (omega arith) (omega arith) (labels_none labels count);
        action = a;
        members = m;
        rest = v.next ∷ v.rest;
        reads = (here g.tokens i _ _ reads).behind;
        begins = rw add-one (v.begins ∙ ap (first_of i) q);
        action_shallow = omega (arith, v.shallow);
        members_shallow = omega (arith, v.shallow);
      }

  pub block_done : {now after : List ℕ} → MembersDone block_members now after → Done v now after
  unfolding block_members
  block_done d =
      let (b, a, m, q) = block_is v.action e in
      let one : i + 1 ≡ suc i = add-one i in
      record {
        linked = rw q (rw one at d.linked);
        kept = kept_wide i (i + action_size v.action) d.kept (omega arith) (omega (arith, ap action_size q, block_size b a m));
        stack = d.stack;
      }

-- the loop over them: whatever description it is, what is left of the block stands there
pub record Passing (text records₀ labels₀ : List ℕ) (i₀ link count first₀ depth : ℕ) (records labels : List ℕ) (i first : ℕ) : Type 0 where
  pub left : (g : Ground) (v : MembersAt g records₀ labels₀ i₀ link count first₀ depth) → g.text ≡ text → MembersLeft v records labels i first
