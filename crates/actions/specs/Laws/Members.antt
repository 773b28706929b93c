-- A block as a loop over its members: what is left of it, and what the members passed have come to.
-- Assumes nothing.
use Prim.Native.Nat.{ℕ, suc, ◌+◌, ◌-◌, ◌*◌, ◌<◌, ◌≤◌, min, max}
use Rattle.std.specs.Prelude.{◌≡◌, List, ◌∷◌, ◌++◌, length, drop}
use Rattle.std.proofs.Math.Path.{refl, sym, ap}
use Rattle.std.proofs.Common.{◌∙◌, arith}
use Rattle.rules.specs.Text.Tokens.{Semi, NEXT, END, Token, tk, kind_no}
use Rattle.rules.specs.Grammar.Trees.{Tokens, Action, action_tokens, Members, end, also, next, members_tokens}
use Rattle.rules.specs.Faults.Fault.{Fault}
use Rattle.rules.specs.Faults.Bodies.{action_faults, members_faults}
use Rattle.laws_grammar.specs.Cited.Nesting.{action_nest, members_nest}
use Rattle.records.specs.Holds.{kind_byte}
use Rattle.keys.specs.Keys.{key, no_key, least_by, least_key}
use Rattle.keys.specs.Laws.Keys.{least_append, least_bounded}
use Rattle.table.specs.Laws.Positions.{here, kind_here, record_within}
use Rattle.stacks.specs.Stacks.{stacked_words, Kept}
use Rattle.stacks.specs.Laws.Kept.{kept_words, kept_stacked}
use Rattle.plain.specs.declared.Walked.{Walked}
use Rattle.plain.specs.Stage.{Stage, outer_of, table_of}
use Rattle.plain.specs.Actions.{EndsAction, by_semi, by_next, by_end, ActionView, faults_under, ActionAnswer, IsBlock}
use Rattle.room.specs.Bodies.{level_base}

module _ {text records values decls : List ℕ} (s : Stage text records values decls) (ws : List (List ℕ)) where
  -- the faults of members, the first of which is an action
  abbrev member_faults : Action → Members → List Fault
  member_faults a m = action_faults (outer_of s) (table_of s) ws a ++ members_faults (outer_of s) (table_of s) ws m

-- what stands behind a member: END, or `;` or NEXT and another
pub record Behind (m : Members) (rest : Tokens) : Type 0 where
  pub token : Token
  pub tokens : Tokens
  pub is : members_tokens m rest ≡ token ∷ tokens
  pub ends : EndsAction token.kind

pub behind : (m : Members) (rest : Tokens) → Behind m rest
behind (end e) rest = record { token = tk END e; tokens = rest; is = refl; ends = by_end }
behind (also i a m) rest = record { token = tk Semi i; tokens = action_tokens a (members_tokens m rest); is = refl; ends = by_semi }
behind (next i a m) rest = record { token = tk NEXT i; tokens = action_tokens a (members_tokens m rest); is = refl; ends = by_next }

module _ {text records values decls room₀ : List ℕ} {i count depth : ℕ} (v : ActionView text records values decls room₀ i count depth) where
  abbrev words : List (List ℕ)
  words = stacked_words v.stage.tokens room₀ count

  pub record BlockAhead (k at : ℕ) : Type 0 where
    pub member : Action
    pub left : Members
    pub reads : drop at v.stage.tokens ≡ action_tokens member (members_tokens left (v.next ∷ v.rest))
    pub shallow : suc (max (action_nest member) (members_nest left)) ≤ depth
    pub past : i < at
    pub same_key : min k (least_key (member_faults v.stage words member left)) ≡ least_key (faults_under v.stage room₀ count v.action)

  pub block_starts : IsBlock v.action → BlockAhead no_key (i + 1)
  unfolding action_faults
  block_starts b =
      let q = b.3 in
      record {
        member = b.1;
        left = b.2;
        reads = (here v.stage.tokens i _ _ (rw q at v.reads)).behind;
        shallow = rw q at v.shallow;
        past = omega arith;
        same_key =
            omega (arith, least_bounded key (member_faults v.stage words b.1 b.2)) ∙ ap (λ a. least_key (faults_under v.stage room₀ count a)) (sym q);
      }

module _ {text records values decls room₀ room : List ℕ} {i count depth k at : ℕ} {v : ActionView text records values decls room₀ i count depth}
    (h : BlockAhead v k at) (kept : Kept records count (level_base depth) room₀ room) where
  abbrev follow : Behind h.left (v.next ∷ v.rest)
  follow = behind h.left (v.next ∷ v.rest)

  abbrev pub member_view : ActionView text records values decls room at count (depth - 1)
  member_view = record {
    stage = v.stage;
    action = h.member;
    next = follow.token;
    rest = follow.tokens;
    reads = h.reads ∙ ap (action_tokens h.member) follow.is;
    ends = follow.ends;
    shallow = let n = h.shallow in omega arith;
    bounded = let b = v.bounded in omega arith;
    stacked = kept_stacked kept v.stage.tokens v.stacked;
    low = let l = v.low in let p = h.past in omega arith;
    large = let l = v.large in omega (arith, kept.long);
  }

  pub block_deep : 0 < depth
  block_deep = let n = h.shallow in omega arith

  module _ {r : Walked} (a : ActionAnswer member_view r) where
    pub next_within : r.next < length v.stage.tokens
    next_within = (here v.stage.tokens r.next _ _ a.behind).within

    pub next_inside : r.next < 8192
    next_inside = omega (arith, next_within, v.stage.ready.holds.few)

    pub next_room : 8 * r.next + 8 ≤ length records
    next_room = record_within v.stage.ready.holds r.next next_within

    -- the member's faults are those under the names of the block
    member_key : r.key ≡ least_key (action_faults (outer_of v.stage) (table_of v.stage) (words v) h.member)
    member_key = a.key ∙ ap (λ ws. least_key (action_faults (outer_of v.stage) (table_of v.stage) ws h.member)) (kept_words kept v.stage.tokens)

    by_member : (m : Members) → h.left ≡ m
        → min (min k r.key) (least_key (members_faults (outer_of v.stage) (table_of v.stage) (words v) m)) ≡ least_key (faults_under v.stage room₀ count v.action)
    by_member m q =
        omega (
          arith,
          member_key,
          h.same_key,
          least_append key (action_faults (outer_of v.stage) (table_of v.stage) (words v) h.member) (members_faults (outer_of v.stage) (table_of v.stage) (words v) h.left),
          ap (λ x. least_key (members_faults (outer_of v.stage) (table_of v.stage) (words v) x)) q,
        )

    abbrev Reads : Members → Type 0
    Reads m = drop r.next v.stage.tokens ≡ members_tokens m (v.next ∷ v.rest)

    kind_there : (m : Members) (t : Token) (xs : Tokens) → Reads m → members_tokens m (v.next ∷ v.rest) ≡ t ∷ xs → kind_byte records r.next ≡ kind_no t.kind
    kind_there m t xs e q = let n = here v.stage.tokens r.next t xs (e ∙ q) in kind_here v.stage.ready.holds r.next t n.within n.token

    module _ {c k' : ℕ} (is_kind : c ≡ kind_byte records r.next) (is_key : k' ≡ min k r.key) where
      pub block_ends : c ≡ kind_no END → ActionAnswer v (record { key = k'; next = r.next + 1 })
      unfolding members_faults least_by
      block_ends e = go h.left refl (a.behind ∙ sym follow.is)
        where
          go : (m : Members) → h.left ≡ m → Reads m → ActionAnswer v (record { key = k'; next = r.next + 1 })
          go (end x) q d = record {
            key = omega (arith, is_key, by_member (end x) q, member_key, least_bounded key (action_faults (outer_of v.stage) (table_of v.stage) (words v) h.member));
            past = let p = a.past in let p' = h.past in omega arith;
            behind = (here v.stage.tokens r.next _ _ d).behind;
          }
          go (also x b m) q d = absurd (omega (arith, kind_there (also x b m) _ _ d refl))
          go (next x b m) q d = absurd (omega (arith, kind_there (next x b m) _ _ d refl))

      another : (b : Action) (m : Members) → drop (r.next + 1) v.stage.tokens ≡ action_tokens b (members_tokens m (v.next ∷ v.rest))
          → suc (max (action_nest b) (members_nest m)) ≤ depth
          → min (min k r.key) (least_key (member_faults v.stage (words v) b m)) ≡ least_key (faults_under v.stage room₀ count v.action)
          → BlockAhead v k' (r.next + 1)
      another b m d n f = record {
        member = b;
        left = m;
        reads = d;
        shallow = n;
        past = let p = a.past in let p' = h.past in omega arith;
        same_key = ap (λ x. min x (least_key (member_faults v.stage (words v) b m))) is_key ∙ f;
      }

      pub block_goes_on : (c ≡ kind_no END → ⊥) → BlockAhead v k' (r.next + 1)
      unfolding members_faults
      block_goes_on n = go h.left refl (a.behind ∙ sym follow.is) h.shallow
        where
          go : (m : Members) → h.left ≡ m → Reads m → suc (max (action_nest h.member) (members_nest m)) ≤ depth → BlockAhead v k' (r.next + 1)
          go (end x) q d l = absurd (n (is_kind ∙ kind_there (end x) _ _ d refl))
          go (also x b m) q d l = another b m (here v.stage.tokens r.next _ _ d).behind (omega arith) (by_member (also x b m) q)
          go (next x b m) q d l = another b m (here v.stage.tokens r.next _ _ d).behind (omega arith) (by_member (next x b m) q)
