-- The walk to the first instruction of an action, past the labels and BEGINs in front of it; and that this stands inside.
-- Assumes nothing.
use Prim.Native.Nat.{ℕ, suc, ◌+◌, ◌*◌, ◌<◌, ◌≤◌}
use Rattle.std.specs.Prelude.{◌≡◌, refl, List, [], ◌∷◌, length}
use Rattle.std.proofs.Common.{sym, ◌∙◌, length-drop}
use Rattle.std.proofs.Math.Path.{ap}
use native.Mathlib.Omega.{arith}
use Rattle.std.proofs.Math.Numerals.{add-one}
use Rattle.std.proofs.Math.ListN.{drop}
use Rattle.rules.specs.Text.Tokens.{kind_no, tk, Name, Becomes, BEGIN}
use Rattle.rules.specs.Grammar.Trees.{Tokens, Action, block, labelled, if_then, decode, repeat, leave, restart, activate, stop, no_op, transfer, action_tokens, members_tokens}
use Rattle.laws_grammar.specs.Grammar.Positions.{action_writes}
use Rattle.laws_grammar.specs.Cited.Heads.{head_kind}
use Rattle.laws_code.specs.Cited.Code.{action_size, first_of}
use Rattle.laws_code.proofs.Links.Numbers.{size_before}
use Rattle.records.specs.Holds.{kind_byte}
use Rattle.table.specs.Laws.Positions.{here, behind_far}
use Rattle.ways.specs.Seeking.{Ground, Starts}
use Rattle.ways.specs.Laws.Forms.{block_is, label_is, first_here, not_kind, action_within, head_byte, head_is, second_within, second_byte, second_is}

-- at `at` an action begins whose first instruction is that of the action at i
pub record Still (g : Ground) (i : ℕ) (a : Action) (at : ℕ) : Type 0 where
  pub action : Action
  pub rest : Tokens
  pub reads : drop at g.tokens ≡ action_tokens action rest
  pub same : first_of at action ≡ first_of i a

abbrev pub Going : List ℕ → ℕ → ℕ → Type 0
Going records i at = (g : Ground) (v : Starts g records i) → Still g i v.action at

pub start_going : (records : List ℕ) (i : ℕ) → Going records i i
start_going records i g v = record { action = v.action; rest = v.rest; reads = v.reads; same = refl }

module _ {records : List ℕ} {i at : ℕ} (s : Going records i at) where
  pub going_within : (g : Ground) × Starts g records i → (8 * at + 8 ≤ length records) × (at < 8192)
  going_within (g, v) =
      let t = s g v in
      let w = action_within v.holds at t.action t.rest t.reads in
      (omega (arith, v.holds.record_room), omega (arith, v.holds.few))

  module _ {k : ℕ} (kind : k ≡ kind_byte records at) where
    pub past_begin : k ≡ kind_no BEGIN → Going records i (at + 1)
    unfolding first_of
    past_begin e g v =
        let t = s g v in
        let (b, x, m, q) = block_is t.action (head_is v.holds at t.action t.rest t.reads 19 kind e) in
        let reads : drop at g.tokens ≡ tk BEGIN b ∷ action_tokens x (members_tokens m t.rest) = t.reads ∙ ap (λ (a : Action). action_tokens a t.rest) q in
        record {
          action = x;
          rest = members_tokens m t.rest;
          reads = (here g.tokens at _ _ reads).behind;
          same = rw add-one (ap (first_of at) (sym q) ∙ t.same);
        }

    pub first_other : (k ≡ kind_no BEGIN → ⊥) → (k ≡ kind_no Name → ⊥) → (g : Ground) (v : Starts g records i) → at ≡ first_of i v.action
    first_other n m g v =
        let t = s g v in
        let byte = kind ∙ head_byte v.holds at t.action t.rest t.reads in
        sym (first_here t.action at (λ z. n (byte ∙ ap kind_no z)) (λ z. absurd (m (byte ∙ ap kind_no z)))) ∙ t.same

    module _ (named : k ≡ kind_no Name) where
      pub name_within : (g : Ground) × Starts g records i → 8 * (at + 1) + 8 ≤ length records
      name_within (g, v) =
          let t = s g v in
          let w = second_within v.holds at t.action t.rest t.reads (head_is v.holds at t.action t.rest t.reads 0 kind named) in
          omega (arith, v.holds.record_room)

      module _ {l : ℕ} (after : l ≡ kind_byte records (at + 1)) where
        pub first_name : (l ≡ 12 → ⊥) → (g : Ground) (v : Starts g records i) → at ≡ first_of i v.action
        first_name n g v =
            let t = s g v in
            let name = head_is v.holds at t.action t.rest t.reads 0 kind named in
            sym (first_here t.action at (not_kind (head_kind t.action) BEGIN (λ z. omega (arith, ap kind_no name)))
            (λ y z. n (after ∙ (second_byte v.holds at t.action t.rest t.reads name ∙ ap kind_no z)))) ∙ t.same

        pub past_label : l ≡ 12 → Going records i (at + 2)
        unfolding first_of
        past_label e g v =
            let t = s g v in
            let name = head_is v.holds at t.action t.rest t.reads 0 kind named in
            let (x, b, a, q) = label_is t.action name (second_is v.holds at t.action t.rest t.reads name 12 after e) in
            let reads : drop at g.tokens ≡ tk Name x ∷ tk Becomes b ∷ action_tokens a t.rest = t.reads ∙ ap (λ (a : Action). action_tokens a t.rest) q in
            let two : at + 2 ≡ suc (suc at) = omega arith in
            record {
              action = a;
              rest = t.rest;
              reads = behind_far g.tokens at _ reads 2;
              same = rw two (ap (first_of at) (sym q) ∙ t.same);
            }

-- the first instruction stands among the tokens of its action
pub first_among : (a : Action) (i : ℕ) → first_of i a < i + action_size a
unfolding first_of
first_among (block b a m) i = omega (arith, first_among a (suc i), size_before (action_writes a) (members_tokens m []))
first_among (labelled n b a) i = omega (arith, first_among a (suc (suc i)))
first_among (if_then x o t w a) i = omega arith
first_among (decode x o t w b v) i = omega arith
first_among (repeat x a) i = omega arith
first_among (leave x n) i = omega arith
first_among (restart x n) i = omega arith
first_among (activate n l r) i = omega arith
first_among (stop x l r) i = omega arith
first_among (no_op x l r) i = omega arith
first_among (transfer n s b j e o t) i = omega arith

pub action_ends : (ts : Tokens) (i : ℕ) (a : Action) (rest : Tokens) → i < length ts → drop i ts ≡ action_tokens a rest → i + action_size a + length rest ≡ length ts
action_ends ts i a rest w e = omega (arith, ap length e, length-drop i ts, size_before (action_writes a) rest)

module _ {g : Ground} {records : List ℕ} {i : ℕ} (v : Starts g records i) where
  pub first_fits : {f : ℕ} → f ≡ first_of i v.action → (f < length g.tokens) × (f < 8192)
  first_fits e =
      let w = action_within v.holds i v.action v.rest v.reads in
      let x = action_ends g.tokens i v.action v.rest w v.reads in
      let y = first_among v.action i in
      (omega arith, omega (arith, v.holds.few))

pub starts_within : {records : List ℕ} {i : ℕ} → (g : Ground) × Starts g records i → (8 * i + 8 ≤ length records) × (i < 8192)
starts_within {records} {i} s = going_within (start_going records i) s
