-- Laws of steps: what a token does to what is heard so far and to the search for the end.
use Rattle.std.specs.Prelude.{ℕ, ◌+◌, ◌<◌, ◌≡◌, refl, Bool, true, false, List}
use Rattle.std.proofs.Common.{sym, ◌∙◌, subst, arith}
use Rattle.rules.specs.Text.Tokens.{kind_no, Name, STOP}
use Rattle.rules.specs.Whole.Sets.{member}
use Rattle.records.specs.Holds.{kind_byte}
use Rattle.table.specs.Scans.{separates, stops, halts, deeper}
use Rattle.reading.specs.Kinds.{closes, tests, begins, mode}
use Rattle.reading.specs.Behind.{ComesTo}
use Rattle.reading.specs.Laws.Ends.{Seeking, seek_on, comes_here, comes_behind}
use Rattle.gathering.specs.Shown.{Hears, Gathers}
use Rattle.gathering.specs.Steps.{Stepped}
use Rattle.gathering.specs.Laws.Shown.{Listening, halting, marking, heard_end, heard_last, hear_on}

-- of a kind that is known
pub of_kind : {d m k : ℕ} (known : ℕ) {b c : Bool} {e f : ℕ} → k ≡ known → Stepped d m known b c e f → Stepped d m k b c e f
of_kind {d} {m} known {b} {c} {e} {f} q x = subst (λ (k : ℕ). Stepped d m k b c e f) (sym q) x

-- names and STOP are inside of an action, and change neither depth nor mode
pub name_step : (d m : ℕ) → Stepped d m (kind_no Name) false false d m
unfolding halts stops separates member closes deeper mode tests begins
name_step d m = record { ending = refl; closing = refl; depth_is = refl; depth_most = omega arith; mode_is = refl; mode_most = omega arith }

pub stop_step : (d m : ℕ) → Stepped d m (kind_no STOP) false false d m
unfolding halts stops separates member closes deeper mode tests begins
stop_step d m = record { ending = refl; closing = refl; depth_is = refl; depth_most = omega arith; mode_is = refl; mode_most = omega arith }

-- passing over the action at `from`, up to the token i
abbrev pub Passing : (records decls memo : List ℕ) (m n from : ℕ) (r w : List ℕ) (s : Bool) (d mode i : ℕ) → Type 0
Passing records decls memo m n from r w s d mode i = Listening records decls memo m n from r w s d mode i × Seeking records n from d i

module _ {records decls memo : List ℕ} {m n from : ℕ} {r w : List ℕ} {s : Bool} {d now i k : ℕ} (inv : Passing records decls memo m n from r w s d now i)
    (h : i < n) (q : k ≡ kind_byte records i) where
  pub is_name : k ≡ kind_no Name → kind_byte records i ≡ kind_no Name
  is_name e = sym q ∙ e

  pass_on : {b c : Bool} {e f : ℕ} {r₁ w₁ : List ℕ} {s₁ : Bool} → Stepped d now k b c e f → b ≡ false → c ≡ false
      → Hears records decls memo m n now i r w s r₁ w₁ s₁ → Passing records decls memo m n from r₁ w₁ s₁ e f (i + 1)
  pass_on x b c heard = (
    hear_on inv.0 h q x.ending b heard x.closing c x.depth_is x.depth_most x.mode_is x.mode_most,
    seek_on inv.1 h q x.ending b x.depth_is x.depth_most,
  )

  pub pass_name : {r₁ w₁ : List ℕ} {s₁ : Bool} → k ≡ kind_no Name → Hears records decls memo m n now i r w s r₁ w₁ s₁ → Passing records decls memo m n from r₁ w₁ s₁ d now (i + 1)
  pass_name e heard = pass_on (of_kind 0 e (name_step d now)) refl refl heard

  pub pass_stop : {r₁ w₁ : List ℕ} {s₁ : Bool} → k ≡ kind_no STOP → r₁ ≡ r → w₁ ≡ w → s₁ ≡ true → Passing records decls memo m n from r₁ w₁ s₁ d now (i + 1)
  pass_stop e a b c = pass_on (of_kind 29 e (stop_step d now)) refl refl (halting h q e a b c)

  module _ (stop : k ≡ kind_no STOP → ⊥) (name : k ≡ kind_no Name → ⊥) {b c : Bool} {e f : ℕ} (x : Stepped d now k b c e f) where
    pub pass_mark : b ≡ false → c ≡ false → Passing records decls memo m n from r w s e f (i + 1)
    pass_mark p o = pass_on x p o (marking h q stop name)

    -- the action ends before the token
    pub heard_before : b ≡ true → Gathers records decls memo m n from r w s
    heard_before t = heard_end inv.0 h q x.ending t

    pub comes_before : b ≡ true → ComesTo records n from i
    comes_before t = comes_here inv.1 q x.ending t

    -- or with it
    pub heard_with : b ≡ false → c ≡ true → Gathers records decls memo m n from r w s
    heard_with p t = heard_last inv.0 h q x.ending p (marking h q stop name) x.closing t

    pub comes_with : b ≡ false → c ≡ true → ComesTo records n from (i + 1)
    comes_with p t = comes_behind inv.1 h q x.ending p x.closing t
