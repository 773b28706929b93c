-- The action behind the labels, IFs and REPEATs in front of it: which it is by its first token, and what the whole comes to.
-- Assumes nothing.
use Rattle.std.specs.Prelude.{ℕ, ◌+◌, ◌*◌, ◌≤◌, min, ◌≡◌, refl, List, ◌∷◌, length}
use Rattle.std.proofs.Common.{sym, ◌∙◌, arith}
use Rattle.rules.specs.Grammar.Trees.{Action, block, labelled, if_then, decode, repeat, leave, restart, activate, stop, no_op, transfer}
use Rattle.rules.specs.Text.Tokens.{kind_no, BEGIN, DECODE}
use Rattle.laws_grammar.specs.Cited.Heads.{head_kind}
use Rattle.laws_grammar.specs.Grammar.Heads.{action_head}
use Rattle.records.specs.Holds.{kind_byte}
use Rattle.table.specs.Laws.Positions.{here, kind_here}
use Rattle.stacks.specs.Stacks.{Kept}
use Rattle.stacks.specs.Laws.Kept.{kept_then, kept_less}
use Rattle.plain.specs.declared.Walked.{Walked}
use Rattle.plain.specs.declared.prefixes.Prefixed.{Prefixed}
use Rattle.plain.specs.Actions.{ActionView, ActionAnswer, Simple, IsBlock, IsDecode}
use Rattle.room.specs.Bodies.{label_cells, level_base}
use Rattle.plain.specs.Prefixes.{Bare, PrefixAnswer}
use Rattle.plain.specs.Laws.Forms.{first_room}

bare_block : (a : Action) → Bare a → kind_no (head_kind a) ≡ kind_no BEGIN → IsBlock a
bare_block (block b a m) p e = (b, a, m, refl)
bare_block (labelled n b a) p e = absurd p
bare_block (if_then i o t w a) p e = absurd p
bare_block (decode i o t w b v) p e = absurd (omega arith)
bare_block (repeat i a) p e = absurd p
bare_block (leave i n) p e = absurd (omega arith)
bare_block (restart i n) p e = absurd (omega arith)
bare_block (activate n l r) p e = absurd (omega arith)
bare_block (stop i l r) p e = absurd (omega arith)
bare_block (no_op i l r) p e = absurd (omega arith)
bare_block (transfer n s b j q o t) p e = absurd (omega arith)

bare_decode : (a : Action) → Bare a → kind_no (head_kind a) ≡ kind_no DECODE → IsDecode a
bare_decode (block b a m) p e = absurd (omega arith)
bare_decode (labelled n b a) p e = absurd p
bare_decode (if_then i o t w a) p e = absurd p
bare_decode (decode i o t w b v) p e = (i, o, t, w, b, v, refl)
bare_decode (repeat i a) p e = absurd p
bare_decode (leave i n) p e = absurd (omega arith)
bare_decode (restart i n) p e = absurd (omega arith)
bare_decode (activate n l r) p e = absurd (omega arith)
bare_decode (stop i l r) p e = absurd (omega arith)
bare_decode (no_op i l r) p e = absurd (omega arith)
bare_decode (transfer n s b j q o t) p e = absurd (omega arith)

bare_simple : (a : Action) → Bare a → (kind_no (head_kind a) ≡ kind_no BEGIN → ⊥) → (kind_no (head_kind a) ≡ kind_no DECODE → ⊥) → Simple a
bare_simple (block b a m) p x y = absurd (x refl)
bare_simple (labelled n b a) p x y = absurd p
bare_simple (if_then i o t w a) p x y = absurd p
bare_simple (decode i o t w b v) p x y = absurd (y refl)
bare_simple (repeat i a) p x y = absurd p
bare_simple (leave i n) p x y = tt
bare_simple (restart i n) p x y = tt
bare_simple (activate n l r) p x y = tt
bare_simple (stop i l r) p x y = tt
bare_simple (no_op i l r) p x y = tt
bare_simple (transfer n s b j q o t) p x y = tt

module _ {text records values decls room₀ room : List ℕ} {i count depth : ℕ} {v : ActionView text records values decls room₀ i count depth} {front : Prefixed}
    (kept : Kept records count label_cells room₀ room) (p : PrefixAnswer v room front) where
  abbrev pub bare_view : ActionView text records values decls room front.at front.count depth
  bare_view = record {
    stage = v.stage;
    action = p.ahead.action;
    next = v.next;
    rest = v.rest;
    reads = p.ahead.reads;
    ends = v.ends;
    shallow = p.ahead.shallow;
    bounded = v.bounded;
    stacked = p.ahead.stacked;
    low = p.ahead.low;
    large = let l = v.large in omega (arith, kept.long);
  }

  pub bare_room : 8 * front.at + 8 ≤ length records
  bare_room = first_room bare_view

  -- what the action leaves alone, the whole does
  pub whole_keeps : {room' : List ℕ} → Kept records front.count (level_base depth) room room' → Kept records count (level_base depth) room₀ room'
  whole_keeps k = let m = p.ahead.more in kept_then (kept_less kept (omega arith) (omega arith)) (kept_less k (omega arith) (omega arith))

  module _ {c : ℕ} (is_kind : c ≡ kind_byte records front.at) where
    head : c ≡ kind_no (head_kind p.ahead.action)
    head =
        let first = here v.stage.tokens front.at _ _ (p.ahead.reads ∙ action_head p.ahead.action (v.next ∷ v.rest)) in
        is_kind ∙ kind_here v.stage.ready.holds front.at _ first.within first.token

    pub block_behind : c ≡ kind_no BEGIN → IsBlock p.ahead.action
    block_behind e = bare_block p.ahead.action p.bare (sym head ∙ e)

    pub decode_behind : c ≡ kind_no DECODE → IsDecode p.ahead.action
    decode_behind e = bare_decode p.ahead.action p.bare (sym head ∙ e)

    pub simple_behind : (c ≡ kind_no BEGIN → ⊥) → (c ≡ kind_no DECODE → ⊥) → Simple p.ahead.action
    simple_behind x y = bare_simple p.ahead.action p.bare (λ e. x (head ∙ e)) (λ e. y (head ∙ e))

  pub whole_answer : {r : Walked} {k : ℕ} → ActionAnswer bare_view r → k ≡ min front.key r.key → ActionAnswer v (record { key = k; next = r.next })
  whole_answer {r} {k} a e = record {
    key = omega (arith, e, a.key, p.ahead.same_key);
    past = let l = p.ahead.past in let m = a.past in omega arith;
    behind = a.behind;
  }
