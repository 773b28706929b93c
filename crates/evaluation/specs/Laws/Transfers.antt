-- Laws of transfers: each step from the right side to the stores, and its faults.
-- Assumes nothing.
use Rattle.std.specs.Prelude.{ℕ, ◌+◌, ◌*◌, ◌<◌, ◌≤◌, ◌≡◌, List, [], ◌∷◌, length, ⊤, Result, Ok, Err}
use Rattle.std.proofs.Math.Path.{refl, sym, ap}
use Rattle.std.proofs.Common.{◌∙◌, subst, arith}
use Rattle.std.proofs.Math.ListN.{drop}
use Rattle.rules.specs.Text.Tokens.{Name, Equals, kind_no, Token, tk}
use Rattle.rules.specs.Grammar.Trees.{bits_tokens, subscript_tokens, Joined, alone, joined, joined_tokens}
use Rattle.rules.specs.Values.{Value, value, cut}
use Rattle.rules.specs.Limits.{most_bits, deepest, most_tokens}
use Rattle.rules.specs.Declarations.{total_words}
use Rattle.rules.specs.Steps.Actions.{access, joined_accesses}
use Rattle.rules.specs.Steps.Evaluation.{Carriers, Outcome, gives, faulty, then, evaluate, evaluate_accesses, store_all, transferred}
use Rattle.table.specs.Laws.Positions.{here, record_within}
use Rattle.promise.specs.Instructions.{ExpressionStands, DestinationStands}
use Rattle.operands.specs.declared.accesses.Field.{Field as Located}
use Rattle.operands.specs.declared.accesses.Outside.{Outside}
use Rattle.operands.specs.declared.expressions.Value.{Value as Worked}
use Rattle.evaluation.specs.declared.transfers.Fields.{Fields}
use Rattle.operands.specs.Scene.{Scene, words_of, ExpressionAt, ExpressionAnswer, AccessAt, AccessAnswer}
use Rattle.operands.specs.Laws.Scene.{ExpressionTold, AccessTold}
use Rattle.operands.specs.Worths.{Within}
use Rattle.operands.specs.Laws.Worths.{access_within}
use Rattle.evaluation.specs.Standing.{Stood}
use Rattle.evaluation.specs.Laws.Standing.{expression_at, expression_stood, destination_fits}
use Rattle.evaluation.specs.Stores.{sizes, Put, StoresAt, StoresAnswer}
use Rattle.evaluation.specs.Laws.Stores.{put_length, put_writes, single_store}
use Rattle.evaluation.specs.Gathering.{field_at, GatherAt, Gathers, GatherAnswer}
use Rattle.evaluation.specs.Laws.Gathering.{behind}
use Rattle.records.specs.Holds.{inside_cell}
use Rattle.evaluation.specs.Transfers.{Becomes, JoinedAnswer, AssignAt, AssignAnswer, assigned, TransferAt, TransferAnswer}

becomes_by : {records values carriers : List ℕ} (s : Scene records values carriers) {o o' : Outcome Carriers} → o ≡ o' → (after : List ℕ) (r : Result ⊤ Outside)
    → Becomes s o' after r → Becomes s o after r
becomes_by s e after (Ok u) b = (e ∙ b.0, b.1)
becomes_by s e after (Err o) b = (e ∙ b.0, b.1)

module _ {records values carriers : List ℕ} {word low size p end : ℕ} (g : GatherAt records values carriers word low size p end) where
  -- what is told of gathering its fields
  abbrev GatherTold : List ℕ → Result Fields Outside → Type 0
  GatherTold scratch r = (v : GatherAt records values carriers word low size p end) → GatherAnswer v scratch r

  pub joined_faults : (x : ℕ) (scratch : List ℕ) {r : Result Fields Outside} {o : Outside} → GatherTold scratch r → r ≡ Err o → JoinedAnswer g x carriers (Err o)
  unfolding then
  joined_faults x scratch f e =
      (ap (λ o. then o (λ fs. gives (store_all (words_of g.scene) fs (cut (sizes fs) x)))) (subst (GatherAnswer g scratch) e (f g)), refl)

  module _ (scratch : List ℕ) {r : Result Fields Outside} {all : Fields} (f : GatherTold scratch r) (e : r ≡ Ok all) where
    pub gathers : Gathers g scratch all.count all.bits
    gathers = subst (GatherAnswer g scratch) e (f g)

    pub stores_room : 512 ≤ length scratch → 8 * all.count ≤ length scratch
    stores_room room = omega (arith, gathers.many, gathers.short)

    unfoldable pub stores_at : StoresAt carriers scratch all.count all.bits
    stores_at = record {
      table = g.scene.table;
      words = g.scene.words;
      fields = gathers.fields;
      counts = gathers.counts;
      total_bits = gathers.total_bits;
      short = gathers.short;
      kept = gathers.kept;
      within = gathers.within;
    }

    pub joined_stored : (x : ℕ) (after : List ℕ) → ((s : StoresAt carriers scratch all.count all.bits) → StoresAnswer s x after) → JoinedAnswer g x after (Ok tt)
    unfolding then stores_at
    joined_stored x after h =
        let a = h stores_at in
        (ap (λ o. then o (λ fs. gives (store_all (words_of g.scene) fs (cut (sizes fs) x)))) gathers.comes ∙ ap gives (sym a.0), a.1)

module _ {records values carriers : List ℕ} {n end : ℕ} (d : AssignAt records values carriers n end) where
  pub first_at : AccessAt records values carriers n deepest
  unfolding access
  first_at =
      let b = behind d.more d.equals d.rest in
      record {
        scene = d.scene;
        name = d.name;
        subscript = d.subscript;
        bits = d.bits;
        next = b.next;
        rest = b.rest;
        reads = d.reads ∙ ap (λ ts. tk Name d.name ∷ subscript_tokens d.subscript (bits_tokens d.bits ts)) b.reads;
        ends = b.ends;
        shallow = d.shallow;
        sized = d.sized.parts.0;
      }

  pub assign_faults : (x : ℕ) {r : Result Located Outside} {o : Outside} → AccessTold records values carriers n deepest r → r ≡ Err o → AssignAnswer d x carriers (Err o)
  unfolding first_at then evaluate_accesses
  assign_faults x f e = (
    ap (λ o. then (then o (λ f. then (evaluate_accesses d.scene.table (words_of d.scene) (joined_accesses d.more)) (λ fs. gives (f ∷ fs))))
        (λ fs. gives (store_all (words_of d.scene) fs (cut (sizes fs) x)))) (subst (AccessAnswer first_at) e (f first_at)),
    refl,
  )

  module _ {r : Result Located Outside} {at : Located} (f : AccessTold records values carriers n deepest r) (e : r ≡ Ok at) where
    pub first_located : AccessAnswer first_at (Ok at)
    first_located = subst (AccessAnswer first_at) e (f first_at)

    inside : Within d.scene.table (field_at at.word at.low at.size)
    unfolding first_at access
    inside = access_within d.scene.declares (words_of d.scene) (access d.name d.subscript d.bits) (field_at at.word at.low at.size) d.sized.parts.0 first_located.comes

    pub more_reads : drop at.next d.scene.tokens ≡ joined_tokens d.more (tk Equals d.equals ∷ d.rest)
    unfolding first_at
    more_reads = first_located.behind ∙ sym (behind d.more d.equals d.rest).reads

    pub assign_fits : (8 * at.word + 8 ≤ length carriers) × ((at.low < most_bits) × (at.low + at.size ≤ most_bits))
    assign_fits = (omega (arith, inside.word, d.scene.words), (omega (arith, inside.some, inside.fits), inside.fits))

    -- the only access
    pub assign_single : (x : ℕ) {after : List ℕ} → at.next ≡ end → Put carriers after at.word at.low at.size x → AssignAnswer d x after (Ok tt)
    unfolding first_at then evaluate_accesses joined_accesses
    assign_single x {after} is p = go d.more refl (sym (ap (λ i. drop i d.scene.tokens) is) ∙ more_reads)
      where
        go : (j : Joined) → d.more ≡ j → drop end d.scene.tokens ≡ joined_tokens j (tk Equals d.equals ∷ d.rest) → AssignAnswer d x after (Ok tt)
        go alone z q = (
          ap (λ j. assigned d.scene.table (words_of d.scene) (access d.name d.subscript d.bits ∷ joined_accesses j) x) z
              ∙ ap (λ o. then (then o (λ f. gives (f ∷ []))) (λ fs. gives (store_all (words_of d.scene) fs (cut (sizes fs) x)))) first_located.comes
              ∙ ap gives (single_store (words_of d.scene) (field_at at.word at.low at.size) x
              ∙ sym (put_writes (total_words d.scene.table) carriers after (field_at at.word at.low at.size) x p inside.word (omega (arith, d.scene.words)))),
          put_length (total_words d.scene.table) carriers after (field_at at.word at.low at.size) x p,
        )
        go (joined b n s c j) z q =
            let clash = ap (λ (t : Token). kind_no t.kind) (sym (here _ end _ _ q).token ∙ (here _ end _ _ d.behind).token) in absurd (omega arith)

    -- more follow
    unfoldable pub gather_at : GatherAt records values carriers at.word at.low at.size at.next end
    unfolding first_at
    gather_at = record {
      scene = d.scene;
      first = access d.name d.subscript d.bits;
      more = d.more;
      equals = d.equals;
      rest = d.rest;
      reads = more_reads;
      behind = d.behind;
      shallow = d.more_shallow;
      sized = d.sized;
      comes = first_located.comes;
    }

    pub assign_joined : (x : ℕ) (after : List ℕ) (q : Result ⊤ Outside)
        → ((g : GatherAt records values carriers at.word at.low at.size at.next end) → JoinedAnswer g x after q) → AssignAnswer d x after q
    unfolding gather_at
    assign_joined x after q h = becomes_by d.scene refl after q (h gather_at)

module _ {records values carriers : List ℕ} {n : ℕ} (t : TransferAt records values carriers n) where
  pub transfer_room : 8 * n + 8 ≤ length records
  transfer_room = record_within t.scene.holds n (here t.scene.tokens n _ _ t.destination.reads).within

  -- the `=` is the token k
  module _ {k : ℕ} (equals : k ≡ inside_cell records n) where
    pub destination_here : DestinationStands t.scene.tokens t.scene.outer t.scene.table n k t.to
    destination_here = subst (λ k. DestinationStands t.scene.tokens t.scene.outer t.scene.table n k t.to) (sym equals) t.destination

    right_here : ExpressionStands t.scene.tokens t.scene.outer t.scene.table (k + 1) t.behind t.right
    right_here = subst (λ k. ExpressionStands t.scene.tokens t.scene.outer t.scene.table (k + 1) t.behind t.right) (sym equals) t.value

    pub equals_small : k < most_tokens
    equals_small = omega (arith, (here t.scene.tokens k _ _ destination_here.behind).within, t.scene.holds.few)

    pub right_at : ExpressionAt records values carriers (k + 1) deepest
    right_at = expression_at t.scene (k + 1) t.behind t.right right_here

    -- the right side
    module _ {r : Result Worked Outside} (f : ExpressionTold records values carriers (k + 1) deepest r) where
      right_stands : (q : Result Worked Outside) → r ≡ q → Stood t.scene t.behind t.right q
      unfolding right_at
      right_stands q e = expression_stood t.scene (k + 1) t.behind t.right right_here q (subst (ExpressionAnswer right_at) e (f right_at))

      right_faults : {o : Outside} → r ≡ Err o → evaluate t.scene.table (words_of t.scene) t.right ≡ faulty 70 o.place
      right_faults {o} e = right_stands (Err o) e

      pub right_gives : {w : Worked} → r ≡ Ok w → evaluate t.scene.table (words_of t.scene) t.right ≡ gives (value w.bits w.number)
      right_gives {w} e = (right_stands (Ok w) e).0

    -- the stores that follow it
    abbrev following : Outcome Value → Outcome Carriers
    following o = then o (λ v. assigned t.scene.table (words_of t.scene) t.to v.number)

    pub transfer_faults : {r : Result Worked Outside} {o : Outside} → ExpressionTold records values carriers (k + 1) deepest r → r ≡ Err o → TransferAnswer t carriers (Err o)
    unfolding transferred then
    transfer_faults f e = (ap following (right_faults f e), refl)

    unfoldable pub assign_at : AssignAt records values carriers n k
    assign_at =
        let d = destination_here in
        record {
          scene = t.scene;
          name = d.name;
          subscript = d.subscript;
          bits = d.bits;
          more = d.joined;
          equals = d.equals;
          rest = d.rest;
          reads = d.reads;
          behind = d.behind;
          shallow = d.subscript_shallow;
          more_shallow = d.joined_shallow;
          sized = destination_fits t.scene n d.name d.subscript d.bits d.joined (tk Equals d.equals ∷ d.rest) d.reads d.sound;
        }

    pub assign_to : t.to ≡ access assign_at.name assign_at.subscript assign_at.bits ∷ joined_accesses assign_at.more
    unfolding assign_at
    assign_to = destination_here.is

    pub transfer_assigned : {r : Result Worked Outside} {w : Worked} → ExpressionTold records values carriers (k + 1) deepest r → r ≡ Ok w
        → (after : List ℕ) (q : Result ⊤ Outside) → ((d : AssignAt records values carriers n k) → AssignAnswer d w.number after q) → TransferAnswer t after q
    unfolding transferred then assign_at
    transfer_assigned {w = w} f e after q h =
        becomes_by t.scene (ap following (right_gives f e) ∙ ap (λ to. assigned t.scene.table (words_of t.scene) to w.number) assign_to) after q (h assign_at)
