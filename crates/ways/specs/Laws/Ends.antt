-- Where an action ends: at the first token that separates actions, outside of its blocks.
-- Assumes nothing.
use Rattle.std.specs.Prelude.{ℕ, ◌+◌, ◌*◌, ◌<◌, ◌≤◌, ◌≡◌, refl, true, List, ◌∷◌, length, drop}
use Rattle.std.proofs.Common.{sym, ap, ◌∙◌, arith}
use Rattle.rules.specs.Text.Tokens.{Token}
use Rattle.rules.specs.Grammar.Trees.{Tokens, Action, action_tokens}
use Rattle.laws_grammar.specs.Grammar.Positions.{action_writes}
use Rattle.laws_code.specs.Cited.Code.{action_size}
use Rattle.table.specs.Laws.Positions.{here}
use Rattle.table.specs.Scans.{no, separates, halts, scan}
use Rattle.table.specs.Laws.Scans.{scan_found, past_action, halts_top, stops_any}
use Rattle.ways.specs.Seeking.{Ground, Stands, Seeks}
use Rattle.ways.specs.Laws.Seeking.{found_at}

module _ (g : Ground) {records : List ℕ} (h : Stands g records) (i : ℕ) (a : Action) (next : Token) (rest : Tokens)
    (reads : drop i g.tokens ≡ action_tokens a (next ∷ rest)) (ends : separates (no next) ≡ true) where
  halting : halts 0 0 (no next) ≡ true
  halting = sym (halts_top 0 0 (no next) true refl (stops_any 0 0 (no next) true refl (sym ends)))

  pub end_found : scan 0 0 (drop i g.tokens) ≡ next ∷ rest
  end_found = ap (scan 0 0) reads ∙ (past_action a 0 (next ∷ rest) ∙ scan_found 0 0 next rest halting)

  abbrev pub end_sought : Seeks g records i 0
  end_sought = record { holds = h; next = next; rest = rest; finds = end_found }

  pub end_place : (r : ℕ) → drop r g.tokens ≡ next ∷ rest → r ≡ i + action_size a
  end_place r q = found_at (action_tokens a) (action_writes a) g.tokens i r next rest reads q

-- the token at the end is there
pub end_within : (g : Ground) {records : List ℕ} (h : Stands g records) (r : ℕ) (t : Token) (ts : Tokens) → drop r g.tokens ≡ t ∷ ts
    → (8 * r + 8 ≤ length records) × (r < 8192)
end_within g h r t ts q = let w = (here g.tokens r t ts q).within in (omega (arith, h.record_room), omega (arith, h.few))
