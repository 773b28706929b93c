-- Laws of the tokens of a table: their cells, their kinds, and the next one.
-- Assumes nothing.
use Rattle.std.specs.Prelude.{ℕ, ◌+◌, ◌*◌, ◌<◌, ◌≤◌, ◌≡◌, List, ◌∷◌, [], length, drop}
use Rattle.std.proofs.Common.{arith, add-one, drop_of_length-le, drop-cons}
use Rattle.rules.specs.Text.Tokens.{Name, kind_no, tk}
use Rattle.rules.specs.Text.Scan.{plain_info}
use Rattle.records.specs.Holds.{kind_byte, token_at}
use Rattle.places.specs.Valued.{Valued}

module _ {records values : List ℕ} {n : ℕ} (v : Valued records values n) where
  pub few : n ≤ 8192
  few = omega (arith, v.count, v.holds.few)

  module _ {i : ℕ} (h : i < n) where
    pub record_there : 8 * i + 8 ≤ length records
    record_there = omega (arith, v.count, v.holds.record_room)

    pub kind_there : kind_byte records i ≡ kind_no (token_at v.tokens i).kind
    kind_there = (v.holds.entry i (omega (arith, v.count))).kind

    pub next_token : drop i v.tokens ≡ token_at v.tokens i ∷ drop (i + 1) v.tokens
    next_token = rw (add-one i) (drop-cons v.tokens i (tk Name (plain_info 0)) (omega (arith, v.count)))

  pub no_more : {i : ℕ} → n ≤ i → drop i v.tokens ≡ []
  no_more {i} h = let past : length v.tokens ≤ i = omega (arith, v.count) in drop_of_length-le v.tokens past
