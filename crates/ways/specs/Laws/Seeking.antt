-- Laws of searches: what they find, where a tree stands.
-- Assumes nothing.
use Rattle.std.specs.Prelude.{ℕ, ◌+◌, ◌*◌, ◌<◌, ◌≤◌, ◌≡◌, refl, Bool, true, false, List, [], ◌∷◌, length, drop}
use Rattle.std.proofs.Common.{sym, ap, ◌∙◌, arith, length-drop}
use Rattle.rules.specs.Text.Tokens.{Token}
use Rattle.rules.specs.Grammar.Trees.{Tokens}
use Rattle.laws_grammar.specs.Grammar.Positions.{Writes}
use Rattle.laws_code.specs.Cited.Code.{size}
use Rattle.laws_code.proofs.Links.Numbers.{size_before}
use Rattle.records.specs.Holds.{kind_byte}
use Rattle.table.specs.Laws.Positions.{here, kind_here}
use Rattle.table.specs.Scans.{no, halts, deeper, scan}
use Rattle.table.specs.Laws.Scans.{scan_found, scan_on, scan_end}
use Rattle.ways.specs.Seeking.{Ground, Seeks}

-- where what stands behind f begins, if anything does
pub found_at : (f : Tokens → Tokens) → Writes f → (ts : Tokens) (i r : ℕ) (t : Token) (rest : Tokens) → drop i ts ≡ f (t ∷ rest) → drop r ts ≡ t ∷ rest
    → r ≡ i + size f
found_at f w ts i r t rest e q =
    omega (arith, ap length e, ap length q, length-drop i ts, length-drop r ts, size_before w (t ∷ rest))

-- the search: what is left to read comes to the same place
pub record Looking (records : List ℕ) (from goal d i : ℕ) : Type 0 where
  pub low : d + from ≤ i
  pub left : (g : Ground) (v : Seeks g records from goal) → scan goal d (drop i g.tokens) ≡ v.next ∷ v.rest

pub start_looking : (records : List ℕ) (from goal : ℕ) → Looking records from goal 0 from
start_looking records from goal = record { low = omega arith; left = λ g v. v.finds }

module _ {records : List ℕ} {from goal d i : ℕ} (l : Looking records from goal d i) where
  next_there : (g : Ground) (v : Seeks g records from goal) → (t : Token) × (ts : Tokens) × (drop i g.tokens ≡ t ∷ ts)
  next_there g v = by (drop i g.tokens) refl
    where
      by : (xs : Tokens) → drop i g.tokens ≡ xs → (t : Token) × (ts : Tokens) × (drop i g.tokens ≡ t ∷ ts)
      by [] e = absurd (omega (arith, ap length (sym (scan_end goal d) ∙ (ap (scan goal d) (sym e) ∙ l.left g v))))
      by (t ∷ ts) e = (t, ts, e)

  pub look_within : (g : Ground) × Seeks g records from goal → (8 * i + 8 ≤ length records) × (i < 8192)
  look_within s =
      let n = next_there s.0 s.1 in
      let w = (here s.0.tokens i _ _ n.2).within in
      (omega (arith, s.1.holds.record_room), omega (arith, s.1.holds.few))

  module _ {k : ℕ} (kind : k ≡ kind_byte records i) where
    kind_read : (g : Ground) (v : Seeks g records from goal) → k ≡ no (next_there g v).0
    kind_read g v = let x = here g.tokens i _ _ (next_there g v).2 in kind ∙ kind_here v.holds i _ x.within x.token

    pub look_found : {r : Bool} → r ≡ halts goal d k → r ≡ true → (g : Ground) (v : Seeks g records from goal) → drop i g.tokens ≡ v.next ∷ v.rest
    look_found e t g v =
        let n = next_there g v in
        let y : halts goal d (no n.0) ≡ true = ap (halts goal d) (sym (kind_read g v)) ∙ (sym e ∙ t) in
        n.2 ∙ (sym (scan_found goal d n.0 n.1 y) ∙ (ap (scan goal d) (sym n.2) ∙ l.left g v))

    pub look_on : {r : Bool} {e : ℕ} → r ≡ halts goal d k → r ≡ false → (e ≡ deeper d k) × (e ≤ d + 1) → Looking records from goal e (i + 1)
    look_on {r} {e} q f o = record {
      low = omega (arith, l.low, o.1);
      left = λ g v.
          let n = next_there g v in
          let y : halts goal d (no n.0) ≡ false = ap (halts goal d) (sym (kind_read g v)) ∙ (sym q ∙ f) in
          ap (scan goal e) (here g.tokens i _ _ n.2).behind
          ∙ (ap (λ x. scan goal x n.1) (o.0 ∙ ap (deeper d) (kind_read g v))
          ∙ (sym (scan_on goal d n.0 n.1 y) ∙ (ap (scan goal d) (sym n.2) ∙ l.left g v)));
    }

-- what is found is a token
pub found_within : {records : List ℕ} {from goal : ℕ} (g : Ground) (v : Seeks g records from goal) (r : ℕ) → drop r g.tokens ≡ v.next ∷ v.rest → r < 8192
found_within g v r e = let w = (here g.tokens r _ _ e).within in omega (arith, v.holds.few)
