-- Laws of settling operators: what a turn of the loop keeps, and what is left where it ends.
-- Assumes nothing.
use Rattle.std.specs.Prelude.{ℕ, ◌+◌, ◌-◌, ◌*◌, ◌<◌, ◌≤◌, ◌≡◌, refl, List, [], ◌∷◌, get_or}
use Rattle.std.proofs.Common.{sym, ◌∙◌, arith}
use Rattle.std.proofs.Math.Path.{ap}
use Rattle.std.proofs.Math.ListN.{length}
use Rattle.rules.specs.Text.Tokens.{Token, tk, op_kind, kind_no}
use Rattle.rules.specs.Grammar.Precedence.{tightness, Factor}
use Rattle.rules.specs.Limits.{most_bits, longest_text}
use Rattle.rules.specs.Faults.Bodies.{Judged}
use Rattle.laws_grammar.specs.Cited.Shunting.{Waiting, looser, settled}
use Rattle.records.specs.Holds.{token_at, kind_byte, place_cell}
use Rattle.table.specs.Laws.Positions.{kind_here, record_within}
use Rattle.weighing.specs.Weights.{Weighs, operated}
use Rattle.weighing.specs.Chains.{WaitsAt, Wait}
use Rattle.weighing.specs.Laws.Chains.{after, looser_pass, settled_pass, looser_stop, settled_stop}
use Rattle.weighing.specs.Settling.{SettleAt, Settles}

-- on the way: settling the rest comes to the same
pub record Settling {records ats keys lengths : List ℕ} {count₀ k₀ n₀ : ℕ} (v : SettleAt records ats keys lengths count₀ k₀ n₀)
    (operand : Factor → Judged) (tight count k n : ℕ) : Type 0 where
  pub here : SettleAt records ats keys lengths count k n
  pub same_looser : looser operated operand tight here.waits here.value ≡ looser operated operand tight v.waits v.value
  pub same_settled : settled operated operand tight here.waits here.value ≡ settled operated operand tight v.waits v.value

none_wait : (ws : List (Waiting Judged)) → length ws ≡ 0 → ws ≡ []
none_wait [] e = refl
none_wait (w ∷ ws) e = absurd (omega arith)

module _ {records ats keys lengths : List ℕ} {count k n : ℕ} (v : SettleAt records ats keys lengths count k n) where
  -- the last that waits
  pub record Top : Type 0 where
    pub last : Waiting Judged
    pub below : List (Waiting Judged)
    pub are : v.waits ≡ last ∷ below
    pub at : WaitsAt v.tokens (get_or ats (count - 1) 0) (get_or keys (count - 1) 0) (get_or lengths (count - 1) 0) last
    pub waiting : Wait v.tokens ats keys lengths below

  pub top : 0 < count → Top
  top p = go v.waits refl v.counts v.waiting
    where
      go : (ws : List (Waiting Judged)) → v.waits ≡ ws → count ≡ length ws → Wait v.tokens ats keys lengths ws → Top
      go [] e c w = absurd (omega arith)
      go (u ∷ us) e c w = let q : count - 1 ≡ length us = omega arith in record { last = u; below = us; are = e; at = rw q w.0; waiting = w.1 }

  module _ (t : Top) {a : ℕ} (e : a ≡ get_or ats (count - 1) 0) where
    top_within : a < length v.tokens
    top_within = let q = t.at.within in omega arith

    top_here : token_at v.tokens a ≡ tk (op_kind t.last.op) t.last.info
    top_here = ap (token_at v.tokens) e ∙ t.at.here

    pub top_room : 8 * a + 8 ≤ length records
    top_room = record_within v.holds a top_within

    pub top_kind : kind_byte records a ≡ kind_no (op_kind t.last.op)
    top_kind = kind_here v.holds a _ top_within top_here

    pub top_place : place_cell records a ≡ t.last.info.place
    top_place = (v.holds.entry a top_within).place ∙ ap (λ (t : Token). t.info.place) top_here

    pub top_small : place_cell records a ≤ longest_text
    top_small = omega (arith, (v.holds.entry a top_within).place, (v.holds.entry a top_within).inside, v.holds.short)

  pub length_fits : n ≤ most_bits
  length_fits = omega (arith, v.weighs.bits, v.weighs.fine.few)

  pub left_fits : Top → get_or lengths (count - 1) 0 ≤ most_bits
  left_fits t = omega (arith, t.at.left.bits, t.at.left.fine.few)

-- one turn, and the end
module _ {records ats keys lengths : List ℕ} {count₀ k₀ n₀ : ℕ} {v : SettleAt records ats keys lengths count₀ k₀ n₀}
    {operand : Factor → Judged} {tight count k n : ℕ} (s : Settling v operand tight count k n) where
  pub turned : {k' n' : ℕ} (t : Top s.here) → tight ≤ tightness t.last.op → Weighs k' n' (operated t.last.op t.last.info t.last.left s.here.value)
      → Settling v operand tight (count - 1) k' n'
  turned t h w = record {
    here = record {
      text = s.here.text;
      values = s.here.values;
      tokens = s.here.tokens;
      holds = s.here.holds;
      waits = t.below;
      value = after operand tight t.last t.below s.here.value;
      counts = let c = s.here.counts in omega (arith, ap length t.are);
      few = let f = s.here.few in omega arith;
      waiting = t.waiting;
      weighs = w;
    };
    same_looser =
        sym (looser_pass operand tight t.last t.below s.here.value h)
        ∙ ap (λ ws. looser operated operand tight ws s.here.value) (sym t.are)
        ∙ s.same_looser;
    same_settled =
        sym (settled_pass operand tight t.last t.below s.here.value h)
        ∙ ap (λ ws. settled operated operand tight ws s.here.value) (sym t.are)
        ∙ s.same_settled;
  }

  pub stopped : (t : Top s.here) → tightness t.last.op < tight → Settles operand tight v.waits v.value count k n
  stopped t h =
      let l = ap (λ ws. looser operated operand tight ws s.here.value) t.are ∙ looser_stop operand tight t.last t.below s.here.value h in
      let m = ap (λ ws. settled operated operand tight ws s.here.value) t.are ∙ settled_stop operand tight t.last t.below s.here.value h in
      record {
        left = s.here.counts ∙ ap length (t.are ∙ sym l ∙ s.same_looser);
        weighs = rw (sym s.same_settled ∙ m) s.here.weighs;
      }

  pub emptied : count ≡ 0 → Settles operand tight v.waits v.value count k n
  unfolding looser settled
  emptied z =
      let e = none_wait s.here.waits (sym s.here.counts ∙ z) in
      record {
        left = s.here.counts ∙ ap length (e ∙ ap (λ ws. looser operated operand tight ws s.here.value) (sym e) ∙ s.same_looser);
        weighs = rw (sym s.same_settled ∙ ap (λ ws. settled operated operand tight ws s.here.value) e) s.here.weighs;
      }
