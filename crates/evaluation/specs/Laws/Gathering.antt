-- Laws of gathering: what a turn of the loop keeps of the fields so far.
-- Assumes nothing.
use Rattle.std.specs.Prelude.{ℕ, ◌+◌, ◌-◌, ◌^◌, ◌<◌, ◌≤◌, ◌≡◌, true, length, Result, Ok, Err}
use Rattle.std.proofs.Math.Path.{refl, sym, ap, subst}
use Rattle.std.proofs.Common.{◌∙◌}
use mathlib.Core.List.{List, [], ◌∷◌, ◌++◌, append_assoc, append-nil}
use native.Mathlib.Omega.{arith}
use Rattle.std.proofs.Math.ListN.{drop, length-append}
use Rattle.cells.specs.Cells.{put_cell}
use Rattle.rules.specs.Text.Tokens.{Name, Equals, At, kind_no, Info, Token, tk}
use Rattle.rules.specs.Grammar.Trees.{Tokens, Bits, bits_tokens, Subscript, subscript_tokens, Joined, alone, joined, joined_tokens}
use Rattle.rules.specs.Values.{total}
use Rattle.rules.specs.Limits.{most_bits, deepest, most_tokens}
use Rattle.rules.specs.Declarations.{Table}
use Rattle.rules.specs.Steps.Actions.{Access, access, joined_accesses}
use Rattle.rules.specs.Steps.Evaluation.{Outcome, gives, faulty, then, Field, evaluate_accesses}
use Rattle.laws_grammar.specs.Cited.Nesting.{joined_nest}
use Rattle.laws_accepted.proofs.Accepted.Declared.{few_words}
use Rattle.laws_accepted.specs.Cited.Destinations.{SizedAccesses, all_bits}
use Rattle.table.specs.Laws.Positions.{here, record_within}
use Rattle.operands.specs.declared.accesses.Field.{Field as Located}
use Rattle.operands.specs.declared.accesses.Outside.{Outside}
use Rattle.table.specs.Operators.{ends_access}
use Rattle.operands.specs.Cells.{cell_first, cell_low, cell_bits}
use Rattle.operands.specs.Scene.{words_of, AccessAt, AccessAnswer}
use Rattle.operands.specs.Laws.Scene.{AccessTold}
use Rattle.operands.specs.Laws.Worths.{then_then, access_within, access_size}
use Rattle.operands.specs.Worths.{Within}
use Rattle.evaluation.specs.Laws.Standing.{same_place}
use Rattle.evaluation.specs.Stores.{sizes, Kept, AllWithin}
use Rattle.evaluation.specs.Laws.Stores.{kept_more}
use Rattle.evaluation.specs.Gathering.{GatherAt, field_at, GatherAnswer, Gathers}

-- a step that is followed by the same
then_same : {A B : Type 0} (o : Outcome A) (f g : A → Outcome B) → ((a : A) → f a ≡ g a) → then o f ≡ then o g
unfolding then
then_same (gives a) f g e = e a
then_same (faulty m p) f g e = refl

-- one field more
total_end : (fs : List Field) (f : Field) → total (sizes (fs ++ (f ∷ []))) ≡ total (sizes fs) + f.size
unfolding total
total_end [] f = omega arith
total_end (g ∷ fs) f = omega (arith, total_end fs f)

all_end : {ds : Table} (fs : List Field) (f : Field) → AllWithin ds fs → Within ds f → AllWithin ds (fs ++ (f ∷ []))
all_end [] f a w = (w, tt)
all_end (g ∷ fs) f a w = (a.0, all_end fs f a.1 w)

-- the token behind an access of a destination: `@` or `=`
pub record Behind (j : Joined) (ts : Tokens) : Type 0 where
  pub next : Token
  pub rest : Tokens
  pub reads : joined_tokens j ts ≡ next ∷ rest
  pub ends : ends_access next.kind ≡ true

pub behind : (j : Joined) (e : Info) (ts : Tokens) → Behind j (tk Equals e ∷ ts)
behind alone e ts = record { next = tk Equals e; rest = ts; reads = refl; ends = refl }
behind (joined a n s b j) e ts =
    record { next = tk At a; rest = tk Name n ∷ subscript_tokens s (bits_tokens b (joined_tokens j (tk Equals e ∷ ts))); reads = refl; ends = refl }

module _ {records values carriers : List ℕ} {word low size p end : ℕ} (v : GatherAt records values carriers word low size p end) where
  abbrev all : List Access
  all = v.first ∷ joined_accesses v.more

  -- on the way: some are in the scratch, the others stand from the token q on
  pub record Gathering (scratch : List ℕ) (count bits q : ℕ) : Type 0 where
    pub done : List Field
    pub left : Joined
    pub counts : count ≡ length done
    pub total_bits : bits ≡ total (sizes done)
    pub many : count ≤ bits
    pub short : bits + all_bits v.scene.outer v.scene.table (joined_accesses left) ≤ most_bits
    pub kept : Kept scratch 0 done
    pub within : AllWithin v.scene.table done
    pub reads : drop q v.scene.tokens ≡ joined_tokens left (tk Equals v.equals ∷ v.rest)
    pub shallow : joined_nest left ≤ deepest
    pub sized : SizedAccesses v.scene.outer v.scene.table (joined_accesses left)
    pub comes : evaluate_accesses v.scene.table (words_of v.scene) all
        ≡ then (evaluate_accesses v.scene.table (words_of v.scene) (joined_accesses left)) (λ fs. gives (done ++ fs))

  -- what `packed` asks and gives
  packable : (f : Field) → Within v.scene.table f → (f.word < 65536) × ((f.low < 256) × (f.size < 256))
  packable f w = (omega (arith, w.word, few_words v.scene.declares), (omega (arith, w.fits), omega (arith, w.fits)))

  first_within : Within v.scene.table (field_at word low size)
  first_within = access_within v.scene.declares (words_of v.scene) v.first (field_at word low size) v.sized.parts.0 v.comes

  pub first_packable : (word < 65536) × ((low < 256) × (size < 256))
  first_packable = packable (field_at word low size) first_within

  pub gathering : (scratch : List ℕ) {after : List ℕ} {c : ℕ} → 512 ≤ length scratch → c < 2 ^ 64
      → (cell_first c ≡ word) × ((cell_low c ≡ low) × (cell_bits c ≡ size)) → after ≡ put_cell 8 scratch 0 c → Gathering after 1 size p
  unfolding evaluate_accesses all_bits total then
  gathering scratch {after} {c} room fits k put =
      let f = field_at word low size in
      let s = access_size v.scene.declares (words_of v.scene) v.first f v.sized.parts.0 v.comes in
      record {
        done = f ∷ [];
        left = v.more;
        counts = refl;
        total_bits = omega arith;
        many = first_within.some;
        short = omega (arith, v.sized.short);
        kept = subst (λ l. Kept l 0 (f ∷ [])) (sym put) (kept_more scratch [] f 0 c refl (omega arith) fits (record { word = k.0; low = k.1.0; size = k.1.1 }) tt);
        within = (first_within, tt);
        reads = v.reads;
        shallow = v.shallow;
        sized = v.sized.parts.1;
        comes = ap (λ o. then o (λ f. then (evaluate_accesses v.scene.table (words_of v.scene) (joined_accesses v.more)) (λ fs. gives (f ∷ fs)))) v.comes;
      }

-- a turn, with the invariant as the loop has it
module _ {records values carriers : List ℕ} {word low size p end : ℕ} {scratch : List ℕ} {count bits q : ℕ}
    (told_gathering : (v : GatherAt records values carriers word low size p end) → Gathering v scratch count bits q)
    (v : GatherAt records values carriers word low size p end) where
  g : Gathering v scratch count bits q
  g = told_gathering v

  -- the `=` is reached
  pub gathered : q ≡ end → GatherAnswer v scratch (Ok (record { count = count; bits = bits }))
  unfolding evaluate_accesses joined_accesses then
  gathered e = go g.left refl (sym (ap (λ i. drop i v.scene.tokens) e) ∙ g.reads)
    where
      go : (j : Joined) → g.left ≡ j → drop end v.scene.tokens ≡ joined_tokens j (tk Equals v.equals ∷ v.rest) → Gathers v scratch count bits
      go alone z r = record {
        fields = g.done;
        comes = g.comes
            ∙ ap (λ j. then (evaluate_accesses v.scene.table (words_of v.scene) (joined_accesses j)) (λ fs. gives (g.done ++ fs))) z
            ∙ ap gives (append-nil g.done);
        counts = g.counts;
        total_bits = g.total_bits;
        many = g.many;
        short = omega (arith, g.short);
        kept = g.kept;
        within = g.within;
      }
      go (joined a n s b j) z r =
          let clash = ap (λ (t : Token). kind_no t.kind) (sym (here _ end _ _ r).token ∙ (here _ end _ _ v.behind).token) in absurd (omega arith)

  -- one more access
  record Next : Type 0 where
    mark : Info
    name : Info
    subscript : Subscript
    bits_of : Bits
    more : Joined
    are : g.left ≡ joined mark name subscript bits_of more

  next_access : (q ≡ end → ⊥) → Next
  next_access ne = go g.left refl g.reads
    where
      go : (j : Joined) → g.left ≡ j → drop q v.scene.tokens ≡ joined_tokens j (tk Equals v.equals ∷ v.rest) → Next
      go alone z r = absurd (ne (same_place v.scene.tokens q end _ _ r v.behind))
      go (joined a n s b j) z r = record { mark = a; name = n; subscript = s; bits_of = b; more = j; are = z }

  pub gather_small : q < most_tokens
  gather_small =
      let b = behind g.left v.equals v.rest in omega (arith, (here v.scene.tokens q _ _ (g.reads ∙ b.reads)).within, v.scene.holds.few)

  gather_room : q < length records
  gather_room =
      let b = behind g.left v.equals v.rest in
      omega (arith, record_within v.scene.holds q (here v.scene.tokens q _ _ (g.reads ∙ b.reads)).within)

  module _ (ne : q ≡ end → ⊥) where
    n : Next
    n = next_access ne

    sized_next : SizedAccesses v.scene.outer v.scene.table (access n.name n.subscript n.bits_of ∷ joined_accesses n.more)
    unfolding joined_accesses
    sized_next = subst (λ j. SizedAccesses v.scene.outer v.scene.table (joined_accesses j)) n.are g.sized

    pub next_at : AccessAt records values carriers (q + 1) deepest
    unfolding access
    next_at =
        let b = behind n.more v.equals v.rest in
        record {
          scene = v.scene;
          name = n.name;
          subscript = n.subscript;
          bits = n.bits_of;
          next = b.next;
          rest = b.rest;
          reads =
              (here v.scene.tokens q _ _ (g.reads ∙ ap (λ j. joined_tokens j (tk Equals v.equals ∷ v.rest)) n.are)).behind
              ∙ ap (λ ts. tk Name n.name ∷ subscript_tokens n.subscript (bits_tokens n.bits_of ts)) b.reads;
          ends = b.ends;
          shallow = omega (arith, g.shallow, ap joined_nest n.are);
          sized = sized_next.0;
        }

    pub gather_faults : {r : Result Located Outside} {o : Outside} → AccessTold records values carriers (q + 1) deepest r → r ≡ Err o → GatherAnswer v scratch (Err o)
    unfolding next_at evaluate_accesses joined_accesses then
    gather_faults h e =
        g.comes
        ∙ ap (λ j. then (evaluate_accesses v.scene.table (words_of v.scene) (joined_accesses j)) (λ fs. gives (g.done ++ fs))) n.are
        ∙ ap (λ o. then (then o (λ f. then (evaluate_accesses v.scene.table (words_of v.scene) (joined_accesses n.more)) (λ fs. gives (f ∷ fs)))) (λ fs. gives (g.done ++ fs))) (subst (AccessAnswer next_at) e (h next_at))

    module _ {r : Result Located Outside} {f : Located} (h : AccessTold records values carriers (q + 1) deepest r) (e : r ≡ Ok f) where
      a : AccessAnswer next_at (Ok f)
      a = subst (AccessAnswer next_at) e (h next_at)

      f_within : Within v.scene.table (field_at f.word f.low f.size)
      unfolding next_at access
      f_within = access_within v.scene.declares (words_of v.scene) (access n.name n.subscript n.bits_of) (field_at f.word f.low f.size) sized_next.0 a.comes

      f_short : bits + f.size + all_bits v.scene.outer v.scene.table (joined_accesses n.more) ≤ most_bits
      unfolding next_at access all_bits joined_accesses
      f_short =
          omega (
            arith,
            g.short,
            ap (λ j. all_bits v.scene.outer v.scene.table (joined_accesses j)) n.are,
            access_size v.scene.declares (words_of v.scene) (access n.name n.subscript n.bits_of) (field_at f.word f.low f.size) sized_next.0 a.comes,
          )

      pub next_packable : (f.word < 65536) × ((f.low < 256) × (f.size < 256))
      next_packable = packable v (field_at f.word f.low f.size) f_within

      pub gather_slot : count < 64
      gather_slot = omega (arith, g.many, f_short, f_within.some)

      pub gather_sum : bits + f.size ≤ most_bits
      gather_sum = omega (arith, f_short)

      pub gather_falls : length records - f.next < length records - q
      gather_falls = omega (arith, a.past, gather_room)

      pub gather_turn : {after : List ℕ} {c : ℕ} → 512 ≤ length scratch → c < 2 ^ 64 → (cell_first c ≡ f.word) × ((cell_low c ≡ f.low) × (cell_bits c ≡ f.size))
          → after ≡ put_cell 8 scratch count c → Gathering v after (count + 1) (bits + f.size) f.next
      unfolding next_at evaluate_accesses joined_accesses then
      gather_turn {after} {c} room fits k put = record {
        done = g.done ++ (field_at f.word f.low f.size ∷ []);
        left = n.more;
        counts = omega (arith, g.counts, length-append g.done (field_at f.word f.low f.size ∷ []));
        total_bits = omega (arith, g.total_bits, total_end g.done (field_at f.word f.low f.size));
        many = omega (arith, g.many, f_within.some);
        short = f_short;
        kept =
            subst (λ b. Kept b 0 (g.done ++ (field_at f.word f.low f.size ∷ []))) (sym put)
            (kept_more scratch g.done (field_at f.word f.low f.size) count c g.counts (omega (arith, gather_slot)) fits (record { word = k.0; low = k.1.0; size = k.1.1 }) g.kept);
        within = all_end g.done (field_at f.word f.low f.size) g.within f_within;
        reads = a.behind ∙ sym (behind n.more v.equals v.rest).reads;
        shallow = omega (arith, g.shallow, ap joined_nest n.are);
        sized = sized_next.1;
        comes =
            g.comes
            ∙ ap (λ j. then (evaluate_accesses v.scene.table (words_of v.scene) (joined_accesses j)) (λ fs. gives (g.done ++ fs))) n.are
            ∙ ap (λ o. then (then o (λ f. then (evaluate_accesses v.scene.table (words_of v.scene) (joined_accesses n.more)) (λ fs. gives (f ∷ fs)))) (λ fs. gives (g.done ++ fs))) a.comes
            ∙ then_then (evaluate_accesses v.scene.table (words_of v.scene) (joined_accesses n.more)) (λ fs. gives (field_at f.word f.low f.size ∷ fs)) (λ fs. gives (g.done ++ fs))
            ∙ then_same (evaluate_accesses v.scene.table (words_of v.scene) (joined_accesses n.more)) _ _ (λ fs. ap gives (sym (append_assoc g.done (field_at f.word f.low f.size ∷ []) fs)));
      }
