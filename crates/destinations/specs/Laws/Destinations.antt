-- Laws of a destination as a loop over its accesses: what stands so far, what is stored to, and what is left of the tree.
-- Assumes nothing.
use Prim.Native.Nat.{ℕ, ◌+◌, ◌*◌, ◌<◌, ◌≤◌, min}
use Rattle.std.specs.Prelude.{Option, Some, None, ◌≡◌, refl, Bool, true, false, ◌||◌, length, drop, replicate}
use Rattle.std.proofs.Math.Path.{sym, ap, ap₂}
use Rattle.std.proofs.Common.{◌∙◌, arith}
use mathlib.Core.List.{List, [], ◌∷◌, ◌++◌, append_assoc, append-nil}
use Rattle.std.proofs.Math.Dec.{eqb}
use Rattle.rules.specs.Text.Tokens.{Name, At, Equals, kind_no, Info, Token, tk, join}
use Rattle.rules.specs.Limits.{longest_text}
use Rattle.rules.specs.Values.{op_bits}
use Rattle.rules.specs.Grammar.Trees.{Tokens, Bits, bits_tokens, Subscript, subscript_tokens, Joined, alone, joined, joined_tokens}
use Rattle.rules.specs.Declarations.{Word, Table, reach}
use Rattle.rules.specs.Faults.Fault.{Fault, when}
use Rattle.rules.specs.Faults.Bodies.{Judged, judge_destination, judge_joined, owned_twice, stored_twice}
use Rattle.rules.specs.Whole.Sets.{owner_in, member}
use Rattle.laws_grammar.specs.Cited.Nesting.{subscript_nest, joined_nest}
use Rattle.records.specs.Holds.{kind_byte, place_cell}
use Rattle.keys.specs.Keys.{key, no_key, least_key, Smalls, none_small, also_small}
use Rattle.keys.specs.Laws.Keys.{smalls_append, least_append, least_none}
use Rattle.table.specs.Laws.Positions.{Here, here, kind_here, record_within}
use Rattle.accesses.specs.declared.Judged.{Judged as Answer}
use Rattle.table.specs.Operators.{ends_access}
use Rattle.weighing.specs.Weights.{Weighs, operated}
use Rattle.accesses.specs.Scene.{outer_of, table_of}
use Rattle.expressions.specs.Expressions.{AccessAt, AccessAnswer}
use Rattle.destinations.specs.Carriers.{holds}
use Rattle.destinations.specs.Laws.Carriers.{none_held, added_long, added_held}
use Rattle.destinations.specs.Owners.{NameHere, owners, Numbered, Owns}
use Rattle.destinations.specs.Destinations.{stored, repeats, DestinationAt, DestinationAnswer}

pub record Stores (outer : Word) (ds : Table) (w xs : List ℕ) : Type 0 where
  pub long : length w ≡ 4
  pub each : (j : ℕ) → holds w j ≡ member j xs

module _ (outer : Word) (ds : Table) where
  pub stores_none : Stores outer ds (replicate 4 0) []
  unfolding member
  stores_none = record { long = refl; each = none_held }

  module _ {w xs : List ℕ} (s : Stores outer ds w xs) where
    pub stores_more : (t : Option ℕ) → Numbered t → Stores outer ds (stored w t) (owners t ++ xs)
    unfolding member
    stores_more None h = s
    stores_more (Some k) h = record {
      long = added_long w k s.long h;
      each = λ j. added_held w k s.long h j ∙ ap (λ b. eqb j k || b) (s.each j);
    }

    pub stores_twice : (t : Option ℕ) → repeats w t ≡ owned_twice outer ds xs (owners t)
    stores_twice None = refl
    stores_twice (Some k) = s.each k

-- the token behind an access of a destination: `@` or `=`
record Behind (j : Joined) (ts : Tokens) : Type 0 where
  next : Token
  rest : Tokens
  reads : joined_tokens j ts ≡ next ∷ rest
  ends : ends_access next.kind ≡ true

behind : (j : Joined) (e : Info) (ts : Tokens) → Behind j (tk Equals e ∷ ts)
behind alone e ts = record { next = tk Equals e; rest = ts; reads = refl; ends = refl }
behind (joined a n s b j) e ts =
    record { next = tk At a; rest = tk Name n ∷ subscript_tokens s (bits_tokens b (joined_tokens j (tk Equals e ∷ ts))); reads = refl; ends = refl }

when_small : (b : Bool) (n p : ℕ) → n < 128 → p ≤ longest_text → Smalls (when b n p)
when_small true n p h l = also_small (record { number = h; place = l }) none_small
when_small false n p h l = none_small

pub access_name : {records values decls : List ℕ} {i depth : ℕ} → AccessAt records values decls i depth → NameHere records values decls i
access_name v = let h = here v.scene.tokens _ _ _ v.reads in record { scene = v.scene; name = v.name; within = h.within; here = h.token }

module _ {records values decls : List ℕ} {i depth : ℕ} (v : DestinationAt records values decls i depth) where
  abbrev outer : Word
  outer = outer_of v.scene

  abbrev ds : Table
  ds = table_of v.scene

  -- an access of the destination, with the joined ones behind it
  part_at : (p : ℕ) (n : Info) (s : Subscript) (b : Bits) (j : Joined)
      → drop p v.scene.tokens ≡ tk Name n ∷ subscript_tokens s (bits_tokens b (joined_tokens j (tk Equals v.equals ∷ v.rest))) → subscript_nest s ≤ depth
      → AccessAt records values decls p depth
  part_at p n s b j e h =
      let k = behind j v.equals v.rest in
      record {
        scene = v.scene;
        name = n;
        subscript = s;
        bits = b;
        next = k.next;
        rest = k.rest;
        reads = e ∙ ap (λ ts. tk Name n ∷ subscript_tokens s (bits_tokens b ts)) k.reads;
        ends = k.ends;
        shallow = h;
      }

  pub first_part : AccessAt records values decls i depth
  first_part = part_at i v.name v.subscript v.bits v.joined v.reads (let h = v.shallow in omega arith)

  -- parts are judged, carriers are stored to, and the rest of the tree stands from p on: worked out, they come to the whole
  pub record Joining (k n : ℕ) (w : List ℕ) (twice p : ℕ) : Type 0 where
    pub value : Judged
    pub stored_to : List ℕ
    pub repeated : List Fault
    pub left : Joined
    pub weighs : Weighs k n value
    pub stores : Stores outer ds w stored_to
    pub least : twice ≡ least_key repeated
    pub smalls : Smalls repeated
    pub past : i < p
    pub reads : drop p v.scene.tokens ≡ joined_tokens left (tk Equals v.equals ∷ v.rest)
    pub shallow : joined_nest left ≤ depth
    pub all_joined : judge_joined outer ds value left ≡ judge_joined outer ds (judge_destination outer ds v.name v.subscript v.bits) v.joined
    pub all_repeated : repeated ++ stored_twice outer ds stored_to left ≡ stored_twice outer ds (owner_in (reach ds v.name.word)) v.joined

  pub joining_begun : {r : Answer} → AccessAnswer first_part r → (t : Option ℕ) → Owns (access_name first_part) t
      → Joining r.key r.bits (stored (replicate 4 0) t) no_key r.next
  unfolding access_name first_part part_at
  joining_begun {r} a t o = record {
    value = judge_destination outer ds v.name v.subscript v.bits;
    stored_to = owners t ++ [];
    repeated = [];
    left = v.joined;
    weighs = a.weighs;
    stores = stores_more outer ds (stores_none outer ds) t o.small;
    least = sym (least_none key);
    smalls = none_small;
    past = a.past;
    reads = a.behind ∙ sym (behind v.joined v.equals v.rest).reads;
    shallow = let h = v.shallow in omega arith;
    all_joined = refl;
    all_repeated = ap (λ xs. stored_twice outer ds xs v.joined) (append-nil (owners t) ∙ o.are);
  }

  module _ {k n : ℕ} {w : List ℕ} {twice p : ℕ} (g : Joining k n w twice p) where
    -- the token p: `@` with another access, or `=`
    pub record Part : Type 0 where
      pub info : Info
      pub name : Info
      pub subscript : Subscript
      pub bits : Bits
      pub more : Joined
      pub are : g.left ≡ joined info name subscript bits more
      pub token : Here v.scene.tokens p (tk At info) (tk Name name ∷ subscript_tokens subscript (bits_tokens bits (joined_tokens more (tk Equals v.equals ∷ v.rest))))

    token_here : Here v.scene.tokens p (behind g.left v.equals v.rest).next (behind g.left v.equals v.rest).rest
    token_here = here v.scene.tokens p _ _ (g.reads ∙ (behind g.left v.equals v.rest).reads)

    pub token_within : p < length v.scene.tokens
    token_within = token_here.within

    pub token_room : 8 * p + 8 ≤ length records
    token_room = record_within v.scene.ready.holds p token_within

    token_kind : (t : Token) (ts : Tokens) → drop p v.scene.tokens ≡ t ∷ ts → kind_byte records p ≡ kind_no t.kind
    token_kind t ts e = kind_here v.scene.ready.holds p t (here _ p t ts e).within (here _ p t ts e).token

    pub another : {x : ℕ} → x ≡ kind_byte records p → x ≡ kind_no At → Part
    another {x} e h = go g.left refl g.reads
      where
        go : (j : Joined) → g.left ≡ j → drop p v.scene.tokens ≡ joined_tokens j (tk Equals v.equals ∷ v.rest) → Part
        go alone q r = absurd (let z = token_kind _ _ r in omega arith)
        go (joined a m s b j) q r = record { info = a; name = m; subscript = s; bits = b; more = j; are = q; token = here _ p _ _ r }

    no_other : {x : ℕ} → x ≡ kind_byte records p → (x ≡ kind_no At → ⊥) → g.left ≡ alone
    no_other {x} e h = go g.left g.reads
      where
        go : (j : Joined) → drop p v.scene.tokens ≡ joined_tokens j (tk Equals v.equals ∷ v.rest) → j ≡ alone
        go alone r = refl
        go (joined a m s b j) r = absurd (h (e ∙ token_kind _ _ r))

    pub joining_ended : {x y : ℕ} → x ≡ kind_byte records p → (x ≡ kind_no At → ⊥) → y ≡ min k twice → DestinationAnswer v (record { key = y; next = p })
    unfolding judge_joined stored_twice
    joining_ended e h m =
        let z = no_other e h in
        let js : judge_joined outer ds (judge_destination outer ds v.name v.subscript v.bits) v.joined ≡ g.value.faults
        = sym g.all_joined ∙ ap (judge_joined outer ds g.value) z in
        let ts : stored_twice outer ds (owner_in (reach ds v.name.word)) v.joined ≡ g.repeated
        = sym g.all_repeated ∙ ap (λ j. g.repeated ++ stored_twice outer ds g.stored_to j) z ∙ append-nil g.repeated in
        record {
          key = m ∙ ap₂ min g.weighs.key g.least ∙ sym (least_append key g.value.faults g.repeated) ∙ sym (ap₂ (λ a b. least_key (a ++ b)) js ts);
          smalls = rw (js, ts) (smalls_append g.weighs.fine.smalls g.smalls);
          past = g.past;
          behind = g.reads ∙ ap (λ j. joined_tokens j (tk Equals v.equals ∷ v.rest)) z;
        }

    module _ (o : Part) where
      pub next_part : AccessAt records values decls (p + 1) depth
      next_part = part_at (p + 1) o.name o.subscript o.bits o.more o.token.behind (let h = g.shallow in omega (arith, ap joined_nest o.are))

      name_token : Here v.scene.tokens (p + 1) (tk Name o.name) (subscript_tokens o.subscript (bits_tokens o.bits (joined_tokens o.more (tk Equals v.equals ∷ v.rest))))
      name_token = here v.scene.tokens (p + 1) _ _ o.token.behind

      pub operator_place : place_cell records p ≡ o.info.place
      operator_place = (v.scene.ready.holds.entry p o.token.within).place ∙ ap (λ (t : Token). t.info.place) o.token.token

      name_place : place_cell records (p + 1) ≡ o.name.place
      name_place = (v.scene.ready.holds.entry (p + 1) name_token.within).place ∙ ap (λ (t : Token). t.info.place) name_token.token

      name_small : o.name.place ≤ longest_text
      name_small = omega (arith, (v.scene.ready.holds.entry (p + 1) name_token.within).place, (v.scene.ready.holds.entry (p + 1) name_token.within).inside, v.scene.ready.holds.short, name_place)

      pub place_fits : place_cell records p ≤ 32768
      place_fits = omega (arith, (v.scene.ready.holds.entry p o.token.within).place, (v.scene.ready.holds.entry p o.token.within).inside, v.scene.ready.holds.short)

      pub name_fits : (8 * (p + 1) + 8 ≤ length records) × (place_cell records (p + 1) ≤ 32768)
      name_fits = (record_within v.scene.ready.holds (p + 1) name_token.within, omega (arith, name_place, name_small))

      pub part_weighs : {r : Answer} → AccessAnswer next_part r → Weighs r.key r.bits (judge_destination outer ds o.name o.subscript o.bits)
      unfolding next_part part_at
      part_weighs a = a.weighs

      pub joining_more : {k' n' x twice' : ℕ} {r : Answer} → AccessAnswer next_part r
          → Weighs k' n' (operated join o.info g.value (judge_destination outer ds o.name o.subscript o.bits))
          → (t : Option ℕ) → Owns (access_name next_part) t → x ≡ least_key (when (repeats w t) 46 (place_cell records (p + 1))) → twice' ≡ min twice x
          → Joining k' n' (stored w t) twice' r.next
      unfolding access_name next_part part_at judge_joined stored_twice op_bits
      joining_more {r = r} a f t c ex et =
          let own = owned_twice outer ds g.stored_to (owners t) in
          let found = when own 46 o.name.place in
          let ef : when (repeats w t) 46 (place_cell records (p + 1)) ≡ found
          = ap₂ (λ b q. when b 46 q) (stores_twice outer ds g.stores t) name_place in
          record {
            value = operated join o.info g.value (judge_destination outer ds o.name o.subscript o.bits);
            stored_to = owners t ++ g.stored_to;
            repeated = g.repeated ++ found;
            left = o.more;
            weighs = f;
            stores = stores_more outer ds g.stores t c.small;
            least = et ∙ ap₂ min g.least (ex ∙ ap least_key ef) ∙ sym (least_append key g.repeated found);
            smalls = smalls_append g.smalls (when_small own 46 o.name.place (omega arith) name_small);
            past = let h = g.past in let q = a.past in omega arith;
            reads = a.behind ∙ sym (behind o.more v.equals v.rest).reads;
            shallow = let h = g.shallow in omega (arith, ap joined_nest o.are);
            all_joined = ap (judge_joined outer ds g.value) (sym o.are) ∙ g.all_joined;
            all_repeated =
                append_assoc g.repeated found _
                ∙ ap (λ xs. g.repeated ++ (when (owned_twice outer ds g.stored_to xs) 46 o.name.place ++ stored_twice outer ds (xs ++ g.stored_to) o.more)) c.are
                ∙ ap (λ j. g.repeated ++ stored_twice outer ds g.stored_to j) (sym o.are)
                ∙ g.all_repeated;
          }
