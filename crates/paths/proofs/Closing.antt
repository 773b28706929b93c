-- Where no chain of activations is too long, what is gathered of a body down such chains is closed: gathering once more adds nothing.
use Prim.Native.Nat.{ℕ, zero, suc}
use Rattle.std.specs.Prelude.{◌≡◌, refl, Bool, false}
use Rattle.std.proofs.Common.{sym, ap₂, subst}
use Rattle.std.proofs.Math.Path.{ap}
use Rattle.std.proofs.lemmas.Bool.{false≢true}
use Rattle.rules.specs.Declarations.{Word, Table}
use Rattle.rules.specs.Steps.Actions.{Act, seq, par, label, ins, Ins, iff, decode, repeat, leave, restart, call, stop, noop, transfer, Alts, no_alts, alt}
use Rattle.rules.specs.Steps.Runs.{body_act}
use Rattle.rules.specs.Whole.Sets.{calls_in, calls_i, calls_alts, any_name, chain_over}
use Rattle.rules.specs.Limits.{longest_chain}
use Rattle.laws_orders.proofs.Orders.Orderly.{Orderly}
use Rattle.laws_orders.proofs.Orders.Chains.{none_of, not_this}
use Rattle.paths.specs.Cited.Early.{Report, passed, in_turn, beside, either, inside, turning, activation, early, early_i, early_alts, body_early}
use Rattle.paths.proofs.Reports.{Sub, sub_refl}
use Rattle.paths.proofs.Covered.{Closed}

module _ (ds : Table) (test : Word) (output : ℕ) where
  module _ (p : Word → Bool) (f g : Word → Report) (same : (n : Word) → p n ≡ false → f n ≡ g n) where
    mutual
      unfolding early early_i early_alts calls_in calls_i calls_alts

      early_same : (a : Act) → any_name p (calls_in a) ≡ false → early ds test output f a ≡ early ds test output g a
      early_same (seq a b) h = let n = none_of p (calls_in a) (calls_in b) h in ap₂ in_turn (early_same a n.0) (early_same b n.1)
      early_same (par a b) h = let n = none_of p (calls_in a) (calls_in b) h in ap₂ beside (early_same a n.0) (early_same b n.1)
      early_same (label l a) h = ap (inside l) (early_same a h)
      early_same (ins i) h = early_i_same i h

      early_i_same : (i : Ins) → any_name p (calls_i i) ≡ false → early_i ds test output f i ≡ early_i ds test output g i
      early_i_same (iff e a) h = ap (either passed) (early_same a h)
      early_i_same (decode q e bs) h = early_alts_same bs h
      early_i_same (repeat a) h = ap turning (early_same a h)
      early_i_same (leave l) h = refl
      early_i_same (restart l) h = refl
      early_i_same (call n) h = ap (activation test n) (same n (not_this p n h))
      early_i_same stop h = refl
      early_i_same noop h = refl
      early_i_same (transfer d e) h = refl

      early_alts_same : (bs : Alts) → any_name p (calls_alts bs) ≡ false → early_alts ds test output f bs ≡ early_alts ds test output g bs
      early_alts_same no_alts h = refl
      early_alts_same (alt c a bs) h = let n = none_of p (calls_in a) (calls_alts bs) h in ap₂ either (early_same a n.0) (early_alts_same bs n.1)

  pub early_closed :
      (k : ℕ) (n : Word) → chain_over ds k n ≡ false
      → inside n (early ds test output (body_early ds test output k) (body_act ds n)) ≡ body_early ds test output k n
  unfolding chain_over body_early
  early_closed zero n h = absurd (false≢true (sym h))
  early_closed (suc k) n h =
      ap (inside n) (early_same (chain_over ds k) (body_early ds test output (suc k)) (body_early ds test output k) (early_closed k) (body_act ds n) h)

  pub all_closed : Orderly ds → Closed ds test output (body_early ds test output longest_chain)
  all_closed o p =
      let B = body_early ds test output in
      subst (λ z. Sub (inside p (early ds test output (B longest_chain) (body_act ds p))) z) (early_closed longest_chain p (o.chains p)) (sub_refl _)
