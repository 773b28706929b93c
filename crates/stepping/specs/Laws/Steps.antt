-- Laws of one instruction in the table: what each kind of step comes to.
-- Assumes nothing.
use Rattle.std.specs.Prelude.{ℕ, zero, suc, ◌+◌, ◌*◌, ◌<◌, ◌≤◌, ◌≡◌, List, [], ◌∷◌, ◌⊎◌, Bool, true, false, cond, length, drop, ⊤, Some, None, Result, Ok, Err}
use Rattle.std.specs.Prelude.{Option as Place}
use Rattle.std.proofs.Math.Path.{refl, ap, subst}
use Rattle.std.proofs.Common.{sym, ◌∙◌, inl, inr, arith}
use Rattle.std.proofs.Math.Option.{Option, none, some}
use Rattle.cells.specs.Cells.{cell}
use Rattle.rules.specs.Text.Tokens.{Kind, Name, LPar, Equals, kind_no, Info, tk, IF, DECODE, STOP}
use Rattle.rules.specs.Grammar.Trees.{Tokens, Bits, all_bits, bits, bits_tokens, Subscript, no_subscript, subscript, subscript_tokens, Joined, alone, joined, joined_tokens}
use Rattle.rules.specs.Grammar.Precedence.{Expr}
use Rattle.rules.specs.Selectors.{takes}
use Rattle.rules.specs.Values.{value}
use Rattle.rules.specs.Declarations.{total_words}
use Rattle.rules.specs.Stores.{made}
use Rattle.rules.specs.Limits.{most_declarations}
use Rattle.rules.specs.Steps.Actions.{Access}
use Rattle.rules.specs.Steps.Control.{moves}
use Rattle.rules.specs.Steps.Evaluation.{Carriers}
use Rattle.rules.specs.Steps.Runs.{moved, tested, perform}
use Rattle.laws_grammar.specs.Cited.Kinds.{kind_at}
use Rattle.laws_grammar.specs.Grammar.Kinds.{kind_at_kind_no}
use Rattle.laws_orders.specs.Cited.Flat.{Link, at, exit, Entries, no_entry, entry, Instr, if_i, decode_i, go_i, call_i, stop_i, move_i, pc, broken, go, push, find, picked, work_m, next_m, Machine, put, put_after}
use Rattle.laws_orders.proofs.Orders.Tests.{impossible}
use Rattle.records.specs.Holds.{kind_byte, place_cell, token_at, inside_cell, link_cell}
use Rattle.table.specs.Laws.Positions.{here, record_within}
use Rattle.promise.specs.Instructions.{link_no, ExpressionStands, DestinationStands, Counted, EntriesStand, Jump, a_repeat, a_leave, a_restart, a_no_op, InstructionHolds}
use Rattle.promise.specs.Reached.{Leads, EntryAt}
use Rattle.operands.specs.Scene.{carrier_words, words_of}
use Rattle.operands.specs.declared.accesses.Outside.{Outside}
use Rattle.operands.specs.declared.expressions.Value.{Value as Worked}
use Rattle.evaluation.specs.Tests.{TestAt, TestAnswer}
use Rattle.evaluation.specs.Transfers.{TransferAt, TransferAnswer}
use Rattle.stepping.specs.declared.steps.Moved.{Moved}
use Rattle.stepping.specs.declared.steps.Moved.TheVariants.{Go, Call, Stop}
use Rattle.stepping.specs.declared.steps.Fault.{Fault}
use Rattle.stepping.specs.Choice.{place_of, ChoiceView}
use Rattle.stepping.specs.Steps.{onward, returning, StepAt, control, Keeps, Into, StepAnswer, fault}

-- LINKS
link_goes : (k : Link) → ((g : ℕ) → k ≡ at g → 0 < g) → (σ : List ℕ) → go k σ ≡ onward (link_no k) σ
link_goes (at zero) h σ = absurd (omega (arith, h 0 refl))
link_goes (at (suc n)) h σ = refl
link_goes exit h σ = refl

link_pushes : (k : Link) → ((g : ℕ) → k ≡ at g → 0 < g) → (σ : List ℕ) → push k σ ≡ returning (link_no k) σ
link_pushes (at zero) h σ = absurd (omega (arith, h 0 refl))
link_pushes (at (suc n)) h σ = refl
link_pushes exit h σ = refl

place_goes : (g : ℕ) → 0 < g → (σ : List ℕ) → pc g σ ≡ onward g σ
place_goes zero h σ = absurd (omega arith)
place_goes (suc g) h σ = refl

pub chosen_leads : (t : Entries) (x g : ℕ) → find t x ≡ some g → EntryAt t g
unfolding find
chosen_leads no_entry x g e = absurd (let z : ◌≡◌ {A = ℕ} 0 1 = cc in omega arith)
chosen_leads (entry c f t) x g e = by (takes c x) (chosen_leads t x g) e
  where
    by : (b : Bool) → (find t x ≡ some g → EntryAt t g) → cond b (some f) (find t x) ≡ some g → (g ≡ f) ⊎ EntryAt t g
    by true h q = inl (cc)
    by false h q = inr (h q)

-- a token that is no name is none of those past the end
mark_within : (ts : Tokens) (p : ℕ) → 0 < kind_no (token_at ts p).kind → p < length ts
mark_within [] p e = absurd (omega arith)
mark_within (t ∷ ts) zero e = omega arith
mark_within (t ∷ ts) (suc p) e = omega (arith, mark_within ts p e)

-- a name in a destination is not the last token
two_within : (ts : Tokens) (n : ℕ) (x : Info) (s : Subscript) (b : Bits) (j : Joined) (e : Info) (rest : Tokens)
    → drop n ts ≡ tk Name x ∷ subscript_tokens s (bits_tokens b (joined_tokens j (tk Equals e ∷ rest))) → n + 1 < length ts
two_within ts n x s b j e rest q = by s b j (here ts n _ _ q).behind
  where
    by : (s : Subscript) (b : Bits) (j : Joined) → drop (n + 1) ts ≡ subscript_tokens s (bits_tokens b (joined_tokens j (tk Equals e ∷ rest))) → n + 1 < length ts
    by (subscript l o t r) b j q = (here ts (n + 1) _ _ q).within
    by no_subscript (bits l m z) j q = (here ts (n + 1) _ _ q).within
    by no_subscript all_bits (joined a m s c j) q = (here ts (n + 1) _ _ q).within
    by no_subscript all_bits alone q = (here ts (n + 1) _ _ q).within

-- THE INSTRUCTION by its kind
module _ {records values decls carriers : List ℕ} {n : ℕ} (v : StepAt records values decls carriers n) where
  abbrev ts : Tokens
  ts = v.scene.tokens

  abbrev Held-instruction : Instr → Type 0
  Held-instruction i = InstructionHolds records decls ts v.scene.outer v.scene.table v.code n i

  abbrev words : Carriers
  words = words_of v.scene

  -- the step of an instruction
  abbrev step_i : List ℕ → Instr → Machine
  step_i σ i = put_after words (next_m v.code i σ) (perform v.scene.table (work_m i) words)

  kind_of : kind_byte records n ≡ kind_no (token_at ts n).kind
  kind_of = (v.scene.holds.entry n v.within).kind

  jump_kind : {k : Kind} → Jump records decls ts v.scene.outer v.scene.table v.code k → (24 < kind_no k) × (kind_no k ≡ kind_no STOP → ⊥)
  jump_kind a_repeat = (omega arith, λ e. omega arith)
  jump_kind a_leave = (omega arith, λ e. omega arith)
  jump_kind a_restart = (omega arith, λ e. omega arith)
  jump_kind a_no_op = (omega arith, λ e. omega arith)

  -- an IF
  record AnIf : Type 0 where
    test : Expr
    goes : ℕ
    behind : Link
    end : ℕ
    is : v.code.instr n ≡ if_i test goes behind
    stands : ExpressionStands ts v.scene.outer v.scene.table (n + 1) end test
    inside : inside_cell records n ≡ goes
    link : link_cell records n ≡ link_no behind

  an_if : kind_byte records n ≡ kind_no IF → AnIf
  an_if k = by (v.code.instr n) refl v.holds
    where
      by : (i : Instr) → v.code.instr n ≡ i → Held-instruction i → AnIf
      by (if_i e g l) q h = record { test = e; goes = g; behind = l; end = h.1.0; is = q; stands = h.1.1.0; inside = h.1.1.1.0; link = h.1.1.1.1 }
      by (decode_i p e t) q h = absurd (omega (arith, kind_of, ap kind_no h.0))
      by (go_i l) q h = absurd (omega (arith, kind_of, (jump_kind h.0).0))
      by (call_i p l) q h = absurd (omega (arith, kind_of, ap kind_no h.0))
      by stop_i q h = absurd (omega (arith, kind_of, ap kind_no h))
      by (move_i d e l) q h = absurd (omega (arith, kind_of, ap kind_no h.0))

  -- a DECODE
  record ADecode : Type 0 where
    place : ℕ
    test : Expr
    entries : Entries
    end : ℕ
    is : v.code.instr n ≡ decode_i place test entries
    placed : place_cell records n ≡ place
    stands : ExpressionStands ts v.scene.outer v.scene.table (n + 1) end test
    stand : EntriesStand records ts (end + 1) entries
    counted : Counted 0 entries

  a_decode : kind_byte records n ≡ kind_no DECODE → ADecode
  a_decode k = by (v.code.instr n) refl v.holds
    where
      by : (i : Instr) → v.code.instr n ≡ i → Held-instruction i → ADecode
      by (if_i e g l) q h = absurd (omega (arith, kind_of, ap kind_no h.0))
      by (decode_i p e t) q h = record {
        place = p;
        test = e;
        entries = t;
        end = h.1.1.0;
        is = q;
        placed = h.1.0;
        stands = h.1.1.1.0;
        stand = h.1.1.1.1.1.0;
        counted = h.1.1.1.1.1.1;
      }
      by (go_i l) q h = absurd (omega (arith, kind_of, (jump_kind h.0).0))
      by (call_i p l) q h = absurd (omega (arith, kind_of, ap kind_no h.0))
      by stop_i q h = absurd (omega (arith, kind_of, ap kind_no h))
      by (move_i d e l) q h = absurd (omega (arith, kind_of, ap kind_no h.0))

  -- what only goes on
  record AGo : Type 0 where
    behind : Link
    is : v.code.instr n ≡ go_i behind
    link : link_cell records n ≡ link_no behind

  a_go : (kind_byte records n ≡ kind_no Name → ⊥) → (kind_byte records n ≡ kind_no IF → ⊥) → (kind_byte records n ≡ kind_no DECODE → ⊥) → (kind_byte records n ≡ kind_no STOP → ⊥) → AGo
  a_go n₀ n₂₂ n₂₃ n₂₉ = by (v.code.instr n) refl v.holds
    where
      by : (i : Instr) → v.code.instr n ≡ i → Held-instruction i → AGo
      by (if_i e g l) q h = absurd (n₂₂ (kind_of ∙ ap kind_no h.0))
      by (decode_i p e t) q h = absurd (n₂₃ (kind_of ∙ ap kind_no h.0))
      by (go_i l) q h = record { behind = l; is = q; link = h.1 }
      by (call_i p l) q h = absurd (n₀ (kind_of ∙ ap kind_no h.0))
      by stop_i q h = absurd (n₂₉ (kind_of ∙ ap kind_no h))
      by (move_i d e l) q h = absurd (n₀ (kind_of ∙ ap kind_no h.0))

  a_stop : kind_byte records n ≡ kind_no STOP → v.code.instr n ≡ stop_i
  a_stop k = by (v.code.instr n) refl v.holds
    where
      by : (i : Instr) → v.code.instr n ≡ i → Held-instruction i → v.code.instr n ≡ stop_i
      by (if_i e g l) q h = absurd (omega (arith, kind_of, ap kind_no h.0))
      by (decode_i p e t) q h = absurd (omega (arith, kind_of, ap kind_no h.0))
      by (go_i l) q h = absurd ((jump_kind h.0).1 (sym kind_of ∙ k))
      by (call_i p l) q h = absurd (omega (arith, kind_of, ap kind_no h.0))
      by stop_i q h = q
      by (move_i d e l) q h = absurd (omega (arith, kind_of, ap kind_no h.0))

  -- ANSWERS
  answer : (i : Instr) → v.code.instr n ≡ i → (after : List ℕ) (r : Result Moved Fault)
      → ((σ : List ℕ) → step_i σ i ≡ put words (carrier_words (total_words v.scene.table) after) (control r σ)) → Keeps r carriers after → Into r i → StepAnswer v after r
  answer i q after r e k a = record { comes = λ σ. ap (step_i σ) q ∙ e σ; kept = k; into = subst (Into r) (sym q) a }

  leads_by : {i : Instr} → v.code.instr n ≡ i → (g : ℕ) → Leads v.code i g → 0 < g
  leads_by q g l = v.leads g (subst (λ i. Leads v.code i g) (sym q) l)

  pub go_answer : (kind_byte records n ≡ kind_no Name → ⊥) → (kind_byte records n ≡ kind_no IF → ⊥) → (kind_byte records n ≡ kind_no DECODE → ⊥) → (kind_byte records n ≡ kind_no STOP → ⊥)
      → {l : ℕ} → l ≡ link_cell records n → StepAnswer v carriers (Ok (Go l))
  go_answer n₀ n₂₂ n₂₃ n₂₉ {l} e =
      let a = a_go n₀ n₂₂ n₂₃ n₂₉ in
      answer _ a.is carriers (Ok (Go l)) (λ σ. ap (put words words) (link_goes a.behind (leads_by a.is) σ ∙ ap (λ k. onward k σ) (sym (e ∙ a.link)))) tt (λ x. x)

  pub stop_answer : kind_byte records n ≡ kind_no STOP → StepAnswer v carriers (Ok Stop)
  stop_answer k = answer stop_i (a_stop k) carriers (Ok Stop) (λ σ. refl) tt (λ x. x)

  module _ (k : kind_byte records n ≡ kind_no IF) where
    pub if_test : TestAt records values carriers n
    if_test = let a = an_if k in record { scene = v.scene; behind = a.end; expression = a.test; stands = a.stands }

    module _ {r : Result Worked Outside} (told : (t : TestAt records values carriers n) → TestAnswer t r) where
      pub if_faults : {o : Outside} → r ≡ Err o → StepAnswer v carriers (Err (fault 70 o.place))
      unfolding if_test
      if_faults {o} e =
          let a = an_if k in
          let t : TestAnswer if_test (Err o) = subst (TestAnswer if_test) e (told if_test) in
          answer _ a.is carriers (Err (fault 70 o.place)) (λ σ. ap (λ o. put_after words (next_m v.code (if_i a.test a.goes a.behind) σ) (tested words o)) t) refl (λ x. x)

      if_value : {w : Worked} → r ≡ Ok w → (σ : List ℕ)
          → step_i σ (if_i (an_if k).test (an_if k).goes (an_if k).behind)
          ≡ put words words (next_m v.code (if_i (an_if k).test (an_if k).goes (an_if k).behind) σ w.number)
      unfolding if_test
      if_value {w} e σ =
          let a = an_if k in
          let t : TestAnswer if_test (Ok w) = subst (TestAnswer if_test) e (told if_test) in
          ap (λ o. put_after words (next_m v.code (if_i a.test a.goes a.behind) σ) (tested words o)) t.0

      pub if_passes : {w : Worked} {l : ℕ} → r ≡ Ok w → w.number ≡ 0 → l ≡ link_cell records n → StepAnswer v carriers (Ok (Go l))
      if_passes {w} {l} e z f =
          let a = an_if k in
          answer _ a.is carriers (Ok (Go l)) (λ σ. if_value e σ ∙ ap (put words words) (ap (next_m v.code (if_i a.test a.goes a.behind) σ) z
          ∙ link_goes a.behind (λ g s. leads_by a.is g (inr s)) σ ∙ ap (λ k. onward k σ) (sym (f ∙ a.link)))) tt (λ x. x)

      pub if_acts : {w : Worked} {l : ℕ} → r ≡ Ok w → (w.number ≡ 0 → ⊥) → l ≡ inside_cell records n → StepAnswer v carriers (Ok (Go l))
      if_acts {w} {l} e z f =
          let a = an_if k in
          answer _ a.is carriers (Ok (Go l)) (λ σ. if_value e σ ∙ ap (put words words) (acts w.number z σ
          ∙ place_goes a.goes (leads_by a.is a.goes (inl refl)) σ ∙ ap (λ k. onward k σ) (sym (f ∙ a.inside)))) tt (λ x. x)
        where
          acts : (x : ℕ) → (x ≡ 0 → ⊥) → (σ : List ℕ) → next_m v.code (if_i (an_if k).test (an_if k).goes (an_if k).behind) σ x ≡ pc (an_if k).goes σ
          acts zero z σ = absurd (z refl)
          acts (suc x) z σ = refl

  module _ (k : kind_byte records n ≡ kind_no DECODE) where
    pub decode_test : TestAt records values carriers n
    decode_test = let a = a_decode k in record { scene = v.scene; behind = a.end; expression = a.test; stands = a.stands }

    module _ {r : Result Worked Outside} (told : (t : TestAt records values carriers n) → TestAnswer t r) where
      pub decode_faults : {o : Outside} → r ≡ Err o → StepAnswer v carriers (Err (fault 70 o.place))
      unfolding decode_test
      decode_faults {o} e =
          let a = a_decode k in
          let t : TestAnswer decode_test (Err o) = subst (TestAnswer decode_test) e (told decode_test) in
          answer _ a.is carriers (Err (fault 70 o.place)) (λ σ. ap (λ o. put_after words (next_m v.code (decode_i a.place a.test a.entries) σ) (tested words o)) t) refl (λ x. x)

      module _ {w : Worked} (e : r ≡ Ok w) where
        decode_told : TestAnswer decode_test (Ok w)
        decode_told = subst (TestAnswer decode_test) e (told decode_test)

        behind_is : w.next ≡ (a_decode k).end
        unfolding decode_test
        behind_is = decode_told.1

        decode_value : (σ : List ℕ) → step_i σ (decode_i (a_decode k).place (a_decode k).test (a_decode k).entries)
            ≡ put words words (picked (a_decode k).place σ (find (a_decode k).entries w.number))
        unfolding decode_test
        decode_value σ =
            let a = a_decode k in
            ap (λ o. put_after words (next_m v.code (decode_i a.place a.test a.entries) σ) (tested words o)) decode_told.0

        pub decode_choice : ChoiceView records values (w.next + 1) 0
        decode_choice =
            let a = a_decode k in
            record {
              tokens = ts;
              held = record { text = v.scene.text; holds = v.scene.holds; fixed = v.fixed };
              entries = a.entries;
              stand = subst (λ q. EntriesStand records ts (q + 1) a.entries) (sym behind_is) a.stand;
              counted = a.counted;
            }

        module _ {found : Place ℕ} (chosen : (c : ChoiceView records values (w.next + 1) 0) → found ≡ place_of (find c.entries w.number)) where
          place_chosen : found ≡ place_of (find (a_decode k).entries w.number)
          unfolding decode_choice
          place_chosen = chosen decode_choice

          none_chosen : found ≡ None → find (a_decode k).entries w.number ≡ none
          none_chosen z = by (find (a_decode k).entries w.number) refl (sym place_chosen ∙ z)
            where
              by : (o : Option ℕ) → find (a_decode k).entries w.number ≡ o → place_of o ≡ None → find (a_decode k).entries w.number ≡ none
              by none e q = e
              by (some h) e q = impossible (cc)

          some_chosen : {g : ℕ} → found ≡ Some g → find (a_decode k).entries w.number ≡ some g
          some_chosen {g} z = by (find (a_decode k).entries w.number) refl (sym place_chosen ∙ z)
            where
              by : (o : Option ℕ) → find (a_decode k).entries w.number ≡ o → place_of o ≡ Some g → find (a_decode k).entries w.number ≡ some g
              by none e q = impossible (cc)
              by (some h) e q = let same : h ≡ g = cc in e ∙ ap some same

          pub decode_none : found ≡ None → {p : ℕ} → p ≡ place_cell records n → StepAnswer v carriers (Err (fault 71 p))
          decode_none z {p} q =
              let a = a_decode k in
              answer _ a.is carriers (Err (fault 71 p)) (λ σ.
              decode_value σ ∙ ap (λ o. put words words (picked a.place σ o)) (none_chosen z) ∙ ap (λ p. put words words (broken 71 p)) (sym (q ∙ a.placed))) refl (λ x. x)

          pub decode_goes : {g : ℕ} → found ≡ Some g → StepAnswer v carriers (Ok (Go g))
          decode_goes {g} z =
              let a = a_decode k in
              answer _ a.is carriers (Ok (Go g)) (λ σ. decode_value σ ∙ ap (λ o. put words words (picked a.place σ o)) (some_chosen z)
              ∙ ap (put words words) (place_goes g (leads_by a.is g (chosen_leads a.entries w.number g (some_chosen z))) σ)) tt (λ x. x)

  -- an activation
  record ACall : Type 0 where
    body : List ℕ
    behind : Link
    is : v.code.instr n ≡ call_i body behind
    link : link_cell records n ≡ link_no behind
    declared : inside_cell records n < most_declarations
    within : cell 2 decls (inside_cell records n) < length ts
    first : link_cell records (cell 2 decls (inside_cell records n)) ≡ v.code.first body

  -- a transfer
  record AMove : Type 0 where
    to : List Access
    right : Expr
    behind : Link
    end : ℕ
    is : v.code.instr n ≡ move_i to right behind
    link : link_cell records n ≡ link_no behind
    destination : DestinationStands ts v.scene.outer v.scene.table n (inside_cell records n) to
    stands : ExpressionStands ts v.scene.outer v.scene.table (inside_cell records n + 1) end right

  paren_within : (token_at ts (n + 1)).kind ≡ LPar → n + 1 < length ts
  paren_within e = mark_within ts (n + 1) (omega (arith, ap kind_no e))

  pub name_room : kind_byte records n ≡ kind_no Name → 8 * (n + 1) + 8 ≤ length records
  name_room k = record_within v.scene.holds (n + 1) (by (v.code.instr n) v.holds)
    where
      by : (i : Instr) → Held-instruction i → n + 1 < length ts
      by (if_i e g l) h = absurd (omega (arith, kind_of, ap kind_no h.0))
      by (decode_i p e t) h = absurd (omega (arith, kind_of, ap kind_no h.0))
      by (go_i l) h = absurd (omega (arith, kind_of, (jump_kind h.0).0))
      by (call_i p l) h = paren_within h.1.0
      by stop_i h = absurd (omega (arith, kind_of, ap kind_no h))
      by (move_i d e l) h = let z = h.1.1.1.0 in two_within ts n z.name z.subscript z.bits z.joined z.equals z.rest z.reads

  next_kind : n + 1 < length ts → kind_byte records (n + 1) ≡ kind_no (token_at ts (n + 1)).kind
  next_kind l = (v.scene.holds.entry (n + 1) l).kind

  -- behind the name with which a transfer begins stands no `(`
  pub no_move : (kind_byte records n ≡ kind_no Name → kind_byte records (n + 1) ≡ kind_no LPar) → (d : List Access) (e : Expr) (l : Link) → v.code.instr n ≡ move_i d e l → ⊥
  no_move o d e l q =
      let h : Held-instruction (move_i d e l) = subst Held-instruction q v.holds in
      let z = h.1.1.1.0 in
      let w = two_within ts n z.name z.subscript z.bits z.joined z.equals z.rest z.reads in
      h.1.0 (sym (kind_at_kind_no (token_at ts (n + 1)).kind) ∙ ap kind_at (sym (next_kind w) ∙ o (kind_of ∙ ap kind_no h.0)))

  a_call : kind_byte records n ≡ kind_no Name → kind_byte records (n + 1) ≡ kind_no LPar → ACall
  a_call k o = by (v.code.instr n) refl v.holds
    where
      by : (i : Instr) → v.code.instr n ≡ i → Held-instruction i → ACall
      by (if_i e g l) q h = absurd (omega (arith, kind_of, ap kind_no h.0))
      by (decode_i p e t) q h = absurd (omega (arith, kind_of, ap kind_no h.0))
      by (go_i l) q h = absurd (omega (arith, kind_of, (jump_kind h.0).0))
      by (call_i p l) q h = record {
        body = p;
        behind = l;
        is = q;
        link = h.1.1.0;
        declared = h.1.1.1.0;
        within = h.1.1.1.1.0;
        first = h.1.1.1.1.1;
      }
      by stop_i q h = absurd (omega (arith, kind_of, ap kind_no h))
      by (move_i d e l) q h = absurd (no_move (λ z. o) d e l q)

  a_move : kind_byte records n ≡ kind_no Name → (kind_byte records (n + 1) ≡ kind_no LPar → ⊥) → AMove
  a_move k o = by (v.code.instr n) refl v.holds
    where
      by : (i : Instr) → v.code.instr n ≡ i → Held-instruction i → AMove
      by (if_i e g l) q h = absurd (omega (arith, kind_of, ap kind_no h.0))
      by (decode_i p e t) q h = absurd (omega (arith, kind_of, ap kind_no h.0))
      by (go_i l) q h = absurd (omega (arith, kind_of, (jump_kind h.0).0))
      by (call_i p l) q h = absurd (o (next_kind (paren_within h.1.0) ∙ ap kind_no h.1.0))
      by stop_i q h = absurd (omega (arith, kind_of, ap kind_no h))
      by (move_i d e l) q h = record {
        to = d;
        right = e;
        behind = l;
        end = h.1.1.1.1.0;
        is = q;
        link = h.1.1.0;
        destination = h.1.1.1.0;
        stands = h.1.1.1.1.1;
      }

  module _ (k : kind_byte records n ≡ kind_no Name) where
    module _ (o : kind_byte records (n + 1) ≡ kind_no LPar) where
      pub call_declared : 2 * inside_cell records n + 2 ≤ length decls
      call_declared = omega (arith, (a_call k o).declared, v.room)

      pub call_body : 8 * cell 2 decls (inside_cell records n) + 8 ≤ length records
      call_body = record_within v.scene.holds (cell 2 decls (inside_cell records n)) (a_call k o).within

      pub call_answer : {f l : ℕ} → f ≡ link_cell records (cell 2 decls (inside_cell records n)) → l ≡ link_cell records n → StepAnswer v carriers (Ok (Call f l))
      call_answer {f} {l} e w =
          let a = a_call k o in
          answer _ a.is carriers (Ok (Call f l)) (λ σ. ap (put words words) (ap (λ f. pc f (push a.behind σ)) (sym (e ∙ a.first))
          ∙ ap (pc f) (link_pushes a.behind (λ g s. leads_by a.is g (inr s)) σ ∙ ap (λ l. returning l σ) (sym (w ∙ a.link))))) tt tt

    module _ (o : kind_byte records (n + 1) ≡ kind_no LPar → ⊥) where
      pub move_at : TransferAt records values carriers n
      move_at = let a = a_move k o in record { scene = v.scene; to = a.to; right = a.right; behind = a.end; destination = a.destination; value = a.stands }

      -- the stores of the transfer are those of the instruction
      pub move_made :
          made move_at.scene.table (moves move_at.to move_at.right) (words_of move_at.scene) ≡ made v.scene.table (work_m (v.code.instr n)) (words_of v.scene)
      unfolding move_at
      move_made = ap (λ (i : Instr). made v.scene.table (work_m i) (words_of v.scene)) (sym (a_move k o).is)

      module _ {after : List ℕ} {r : Result ⊤ Outside} (told : (t : TransferAt records values carriers n) → TransferAnswer t after r) where
        pub move_faults : {out : Outside} → r ≡ Err out → StepAnswer v after (Err (fault 70 out.place))
        unfolding move_at
        move_faults {out} e =
            let a = a_move k o in
            let t : TransferAnswer move_at after (Err out) = subst (TransferAnswer move_at after) e (told move_at) in
            answer _ a.is after (Err (fault 70 out.place)) (λ σ. ap (λ o. put_after words (next_m v.code (move_i a.to a.right a.behind) σ) (moved o)) t.0) t.1 (λ x. x)

        pub move_goes : {u : ⊤} {l : ℕ} → r ≡ Ok u → l ≡ link_cell records n → StepAnswer v after (Ok (Go l))
        unfolding move_at
        move_goes {u} {l} e w =
            let a = a_move k o in
            let t : TransferAnswer move_at after (Ok u) = subst (TransferAnswer move_at after) e (told move_at) in
            answer _ a.is after (Ok (Go l)) (λ σ. ap (λ o. put_after words (next_m v.code (move_i a.to a.right a.behind) σ) (moved o)) t.0
            ∙ ap (put words _) (link_goes a.behind (leads_by a.is) σ ∙ ap (λ k. onward k σ) (sym (w ∙ a.link)))) tt (λ x. x)
