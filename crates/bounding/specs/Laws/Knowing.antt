-- A body's count by the counts of the bodies that it activates, where others are not known yet.
use Rattle.std.specs.Prelude.{ℕ, ◌≤◌, ◌≡◌, Bool, [], eqb}
use Rattle.std.proofs.Math.Path.{refl}
use Rattle.std.proofs.Common.{sym, ap, ap₂, ◌∙◌, subst, arith}
use Rattle.std.proofs.Math.Bool.{true, false}
use Rattle.std.proofs.Math.Option.{Option, none, some}
use borrow.Author.Tests.{eqb-true, eqb-false}
use Rattle.rules.specs.Grammar.Trees.{Action}
use Rattle.rules.specs.Declarations.{Word, Table, body_of}
use Rattle.rules.specs.Limits.{longest_chain}
use Rattle.rules.specs.Faults.Fault.{when}
use Rattle.rules.specs.Faults.Whole.{mains, begins_chain, chains, groups_faults, faults50}
use Rattle.rules.specs.Steps.Control.{start}
use Rattle.rules.specs.Steps.Runs.{body_act}
use Rattle.rules.specs.Whole.Sets.{calls_in, any_name, chain_over}
use Rattle.rules.specs.Bound.{cost_down, cost_of, turns_down, turns_from}
use Rattle.laws_accepted.proofs.Accepted.Faultless.{both_empty, when_empty, each_empty}
use Rattle.laws_accepted.proofs.Accepted.Named.{found_body}
use Rattle.bounds.specs.Cited.Counts.{endless, cut, count_down}
use Rattle.bounds.specs.Walk.{walk}
use Rattle.bounds.proofs.WalkLaws.{cut_low, walked_body}
use Rattle.bounds.proofs.Closing.{cost_same, turns_same, cost_closed, turns_closed}
use Rattle.bounds.proofs.Falling.{start_owes, owes_one}

-- no chain is too long where the whole has no faults
pub no_chains : (ds : Table) → faults50 ds ≡ [] → (w : Word) → chain_over ds longest_chain w ≡ false
unfolding faults50 chains body_act chain_over any_name calls_in
no_chains ds e w = by (body_of ds w) refl
  where
    by : (o : Option Action) → body_of ds w ≡ o → chain_over ds longest_chain w ≡ false
    by none h = rw h refl
    by (some a) h =
        let f = found_body ds w a h in
        let d = f.declared in
        let of51 = (both_empty (chains ds ds) (groups_faults ds ds) (both_empty (mains false ds) _ e).1).0 in
        let empty = each_empty (λ d. when (begins_chain ds d.name.word d.body) 51 d.name.place) (chains ds) (λ d ds. refl) ds f.number d of51 f.there in
        rw (f.its, f.named) at (when_empty (begins_chain ds d.name.word d.body) 51 d.name.place empty)

-- each body takes a step, so its count is not 0
cut_some : (t : Bool) (k : ℕ) → 1 ≤ k → cut t k ≡ 0 → ⊥
unfolding cut
cut_some true k h e = omega arith
cut_some false k h e = omega arith

pub count_some : (ds : Table) (w : Word) → count_down ds longest_chain w ≡ 0 → ⊥
unfolding cost_down
count_some ds w =
    let costs = cost_down ds 15 in
    let a = body_act ds w in
    let one = owes_one costs (λ p. false) (start a) in
    let same = start_owes costs (λ p. false) a in
    cut_some (turns_down ds longest_chain w) (cost_down ds longest_chain w) (omega arith)

-- with the counts of some bodies
module _ (ds : Table) (counts : Word → ℕ) (right : (w : Word) → (counts w ≡ 0 → ⊥) → counts w ≡ count_down ds longest_chain w) where
  abbrev missing : Word → Bool
  missing w = eqb (counts w) 0

  -- what the others would cost does not count
  abbrev cost_when : Bool → Word → ℕ
  cost_when true w = 0
  cost_when false w = cost_of ds w

  abbrev turns_when : Bool → Word → Bool
  turns_when true w = false
  turns_when false w = turns_from ds w

  abbrev costs : Word → ℕ
  costs w = cost_when (missing w) w

  abbrev turning : Word → Bool
  turning w = turns_when (missing w) w

  counted_so : (w : Word) → counts w ≡ cut (turning w) (costs w)
  unfolding cut
  counted_so w = by (missing w) refl
    where
      by : (b : Bool) → missing w ≡ b → counts w ≡ cut (turns_when b w) (cost_when b w)
      by true e = eqb-true (counts w) 0 e
      by false e = right w (eqb-false (counts w) 0 e)

  pub low_counts : (w : Word) → counts w ≤ endless
  low_counts w = subst (λ k. k ≤ endless) (sym (counted_so w)) (cut_low (turning w) (costs w))

  pub body_known : (w : Word) (a : Action) → body_of ds w ≡ some a → chain_over ds longest_chain w ≡ false → any_name missing (calls_in (body_act ds w)) ≡ false
      → walk counts a 0 ≡ count_down ds longest_chain w
  body_known w a e short known =
      walked_body costs turning counts counted_so ds w a e
      ∙ ap₂ cut
      (turns_same missing turning (turns_from ds) (λ p h. ap (λ b. turns_when b p) h) (body_act ds w) known ∙ turns_closed ds longest_chain w short)
      (cost_same missing costs (cost_of ds) (λ p h. ap (λ b. cost_when b p) h) (body_act ds w) known ∙ cost_closed ds longest_chain w short)
