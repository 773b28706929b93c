-- What a token does, by its kind.
use Rattle.std.specs.Prelude.{ℕ, ◌+◌, ◌*◌, ◌≤◌, ◌<◌, ◌≡◌, Bool, List, ltb, length, drop}
use Rattle.std.proofs.Common.{sym, arith}
use Rattle.std.proofs.Math.Path.{subst}
use borrow.Author.Tests.{ne_eqb}
use Rattle.rules.specs.Text.Tokens.{kind_no, Semi, BEGIN, END, NEXT}
use Rattle.rules.specs.Limits.{deepest, most_tokens}
use Rattle.records.specs.Holds.{kind_byte}
use Rattle.reading.specs.Groups.{more}
use Rattle.reading.specs.Reading.{Kinded}
use Rattle.marking.specs.Machine.{State, inside, opened, closed, also, next, acted}
use Rattle.marking.specs.Holding.{Shows, within, Does}
use Rattle.marking.specs.Walking.{Acting, Acted}
use Rattle.marking.specs.Laws.Holding.{other_shown}
use Rattle.marking.specs.declared.frames.Nest.{Nest}

module _ {records room : List ℕ} {n i : ℕ} {x : Nest} (a : Acting records room n i x) where
  pub record_room : 8 * i + 8 ≤ length records
  record_room = omega (arith, a.within, a.kinds.room)

  pub few : i < most_tokens
  few = omega (arith, a.within, a.kinds.few)

-- whether `;` stands behind the action that begins behind the token i
abbrev MoreAt : List ℕ → ℕ → ℕ → Bool → Type 0
MoreAt records n i b = (v : Kinded records n) → b ≡ more (drop (i + 1) v.tokens)

module _ {records old : List ℕ} {n i kind : ℕ} {x : Nest} (is : kind ≡ kind_byte records i) where
  by_kind : {new : List ℕ} {r : Nest} (k : ℕ) → kind ≡ k → ((v : Kinded records n) → Does i (acted (i + 1) k (more (drop (i + 1) v.tokens))) old x new r)
      → Acted records old new n i x r
  by_kind {new} {r} k e d v z s =
      subst (λ q. Shows new (i + 1) r (acted (i + 1) q (more (drop (i + 1) v.tokens)) z)) is
      (subst (λ q. Shows new (i + 1) r (acted (i + 1) q (more (drop (i + 1) v.tokens)) z)) (sym e) (d v z s))

  -- with what is known of the action behind it
  by_more : {new : List ℕ} {r : Nest} (k : ℕ) {b : Bool} → kind ≡ k → MoreAt records n i b → Does i (acted (i + 1) k b) old x new r → Acted records old new n i x r
  by_more {new} {r} k e m d = by_kind k e (λ v z s. subst (λ c. Shows new (i + 1) r (acted (i + 1) k c z)) (m v) (d z s))

  module _ {new : List ℕ} {r : Nest} where
    pub begin_acts : {b : Bool} → kind ≡ kind_no BEGIN → MoreAt records n i b → Does i (λ z. opened (ltb (length z.frames) deepest) (i + 1) b z) old x new r
        → Acted records old new n i x r
    unfolding acted
    begin_acts e m d = by_more 19 e m d

    pub semi_acts : {b : Bool} → kind ≡ kind_no Semi → MoreAt records n i b → Does i (λ z. also z.frames (i + 1) b z) old x new r → Acted records old new n i x r
    unfolding acted
    semi_acts e m d = by_more 10 e m d

    pub next_acts : {b : Bool} → kind ≡ kind_no NEXT → MoreAt records n i b → Does i (λ z. next z.frames (i + 1) b z) old x new r → Acted records old new n i x r
    unfolding acted
    next_acts e m d = by_more 21 e m d

    pub end_acts : kind ≡ kind_no END → Does i (λ z. closed z.frames z) old x new r → Acted records old new n i x r
    unfolding acted
    end_acts e d = by_kind 20 e (λ v. d)

  pub other_acts : {r : Nest} → (kind ≡ kind_no BEGIN → ⊥) → (kind ≡ kind_no END → ⊥) → (kind ≡ kind_no Semi → ⊥) → (kind ≡ kind_no NEXT → ⊥) → r ≡ within x.depth x.around
      → Acted records old old n i x r
  unfolding acted
  other_acts {r} a b c d e v z s =
      let m = more (drop (i + 1) v.tokens) in
      subst (λ q. Shows old (i + 1) r (acted (i + 1) q m z)) is (subst (Shows old (i + 1) r) (sym (rest m z)) (other_shown {x = x} e z s))
    where
      rest : (m : Bool) (z : State) → acted (i + 1) kind m z ≡ inside z.frames z.around
      rest m z = rw (ne_eqb kind 19 a, ne_eqb kind 20 b, ne_eqb kind 10 c, ne_eqb kind 21 d, acted)
