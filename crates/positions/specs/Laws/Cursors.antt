-- Laws of the cursor's walk.
-- Assumes nothing.
use Rattle.std.specs.Prelude.{ℕ, ◌+◌, ◌<◌, ◌≤◌, ◌≡◌, refl, List, length, get_or, take}
use Rattle.std.proofs.Common.{sym, ap, ◌∙◌, arith}
use Rattle.std.proofs.lemmas.List.{length-take-le, get_or-take}
use Rattle.std.proofs.Math.Decide.{ℕ_discrete}
use Rattle.rules.specs.Positions.{Position, line_end, behind, further, origin, position_at}
use Rattle.positions.specs.Cursors.{cursor, position_here, onward, Near}
use Rattle.laws.specs.Positions.{line_ended, line_goes_on, after_one}
use Rattle.positions.specs.declared.cursors.Cursor.{Cursor}

-- a cursor that has walked a text up to its offset
pub record Walked (text : List ℕ) (c : Cursor) : Type 0 where
  pub here : position_here c ≡ position_at text c.offset
  pub line : c.line ≤ c.offset + 1
  pub column : c.column ≤ c.offset + 1

pub walk_near : {text : List ℕ} {c : Cursor} → Walked text c → c.offset < 65536 → Near c
walk_near w l = record { offset = l; line = w.line; column = w.column }

pub walk_starts : (text : List ℕ) {c : Cursor} → c ≡ cursor 0 origin → Walked text c
unfolding further
walk_starts text e = rw e (record { here = refl; line = omega arith; column = omega arith })

-- behind a byte no number grows by more than 1
small : (b l : ℕ) (p : Position) → p.line ≤ l → p.column ≤ l → ((behind b p).line ≤ l + 1) × ((behind b p).column ≤ l + 1)
small b l p x y =
    elim (ℕ_discrete b line_end) [
      | yes e ↦ rw (line_ended b p e) (omega arith, omega arith)
      | no n ↦ rw (line_goes_on b p n) (omega arith, omega arith)
    ]

pub walk_goes_on : {text : List ℕ} {c d : Cursor} → Walked text c → c.offset < length text → d ≡ onward (get_or text c.offset 0) c → Walked text d
walk_goes_on {text} {c} w l e =
    let byte = get_or text c.offset 0 in
    let few = small byte (c.offset + 1) (position_here c) w.line w.column in
    rw e (record {
      here = ap (behind byte) w.here ∙ sym (after_one origin text c.offset l);
      line = few.0;
      column = few.1;
    })

-- the same along the front of a text, of n bytes
module _ {text : List ℕ} {n i : ℕ} {c : Cursor} (h : n ≤ length text) (w : Walked text c × (c.offset ≡ i)) where
  pub front_near : n < 65536 → i < length (take n text) → Near c
  front_near f l = walk_near w.0 (omega (arith, w.1, length-take-le n text h))

  pub front_goes_on : {d : Cursor} → i < length (take n text) → d ≡ onward (get_or (take n text) i 0) c → Walked text d × (d.offset ≡ i + 1)
  front_goes_on {d} l e =
      let low : i < n = omega (arith, length-take-le n text h) in
      let byte : get_or (take n text) i 0 ≡ get_or text c.offset 0 = get_or-take n text i 0 low ∙ ap (λ k. get_or text k 0) (sym w.1) in
      let onto : d ≡ onward (get_or text c.offset 0) c = e ∙ ap (λ b. onward b c) byte in
      (walk_goes_on w.0 (omega (arith, w.1)) onto, omega (arith, ap (λ z. z.offset) onto, w.1))

  pub front_over : length (take n text) ≤ i → i ≤ length (take n text) → position_here c ≡ position_at text n
  front_over l m = w.0.here ∙ ap (position_at text) (omega (arith, w.1, length-take-le n text h))
