-- The longest run: "a bound on steps", in numbers without a limit. "A transfer, test, activation or other step is 1; a group or sequence adds up; IF adds its
-- action; DECODE adds its dearest alternative; an activation adds its body. LEAVE cuts nothing off."
use Rattle.std.specs.Prelude.{ℕ, zero, suc, ◌+◌, max, ◌≡◌, Bool, true, false, ◌||◌, List, leb}
use Rattle.rules.specs.Text.Scan.{scan, same_bytes}
use Rattle.rules.specs.Limits.{longest_chain, most_steps}
use Rattle.rules.specs.Grammar.Trees.{Description, flatten}
use Rattle.rules.specs.Declarations.{Word, Table, declarations}
use Rattle.rules.specs.Steps.Actions.{Act, seq, par, label, ins, Ins, iff, decode, repeat, leave, restart, call, stop, noop, transfer, Alts, no_alts, alt}
use Rattle.rules.specs.Steps.Runs.{body_act}
use Rattle.rules.specs.Whole.Sets.{calls_in, any_name}
use Rattle.rules.specs.Faults.Whole.{main_name}
use Rattle.rules.specs.Answers.{accepted, refused, Checks}

-- what an action costs where the body p costs `bodies p`
module _ (bodies : Word → ℕ) where
  unfoldable mutual
    pub cost : Act → ℕ
    cost (seq a b) = cost a + cost b
    cost (par a b) = cost a + cost b
    cost (label l a) = cost a
    cost (ins i) = 1 + cost_in i

    -- beside its own step
    pub cost_in : Ins → ℕ
    cost_in (iff e a) = cost a
    cost_in (decode p e bs) = dearest bs
    cost_in (repeat a) = cost a
    cost_in (leave l) = 0
    cost_in (restart l) = 0
    cost_in (call p) = bodies p
    cost_in stop = 0
    cost_in noop = 0
    cost_in (transfer d e) = 0

    pub dearest : Alts → ℕ
    dearest no_alts = 0
    dearest (alt c a bs) = max (cost a) (dearest bs)

-- whether a REPEAT or RESTART stands in an action, or in a body that it activates, where `bodies p` says so of the body p
module _ (bodies : Word → Bool) where
  unfoldable mutual
    pub turns : Act → Bool
    turns (seq a b) = turns a || turns b
    turns (par a b) = turns a || turns b
    turns (label l a) = turns a
    turns (ins i) = turns_in i

    pub turns_in : Ins → Bool
    turns_in (iff e a) = turns a
    turns_in (decode p e bs) = any_turns bs
    turns_in (repeat a) = true
    turns_in (leave l) = false
    turns_in (restart l) = true
    turns_in (call p) = bodies p
    turns_in stop = false
    turns_in noop = false
    turns_in (transfer d e) = false

    pub any_turns : Alts → Bool
    any_turns no_alts = false
    any_turns (alt c a bs) = turns a || any_turns bs

-- "A REPEAT or RESTART can be reached by activations": it stands in p, or in a body to which activations lead from p, whether control gets there or not
abbrev pub ActivatedIn : Act → Word → Type 0
ActivatedIn a q = any_name (same_bytes q) (calls_in a) ≡ true

pub data Reaches (ds : Table) : Word → Word → Type 0 where
  itself : {p : Word} → Reaches ds p p
  onward : {p q r : Word} → ActivatedIn (body_act ds p) q → Reaches ds q r → Reaches ds p r

abbrev pub Turns : Act → Type 0
Turns a = turns (λ n. false) a ≡ true

abbrev pub Reached : Table → Word → Type 0
Reached ds p = (q : Word) × Reaches ds p q × Turns (body_act ds q)

-- of a body, down a chain of k activations
module _ (ds : Table) where
  unfoldable pub cost_down : ℕ → Word → ℕ
  cost_down zero p = 0
  cost_down (suc k) p = cost (cost_down k) (body_act ds p)

  unfoldable pub turns_down : ℕ → Word → Bool
  turns_down zero p = false
  turns_down (suc k) p = turns (turns_down k) (body_act ds p)

-- the cost of a body, and whether a REPEAT or RESTART can be reached from it; no chain of an accepted description is longer
abbrev pub cost_of : Table → Word → ℕ
cost_of ds = cost_down ds longest_chain

abbrev pub turns_from : Table → Word → Bool
turns_from ds = turns_down ds longest_chain

pub data Bound : Type 0 where
  bound : ℕ → Bound
  no_bound : Bound
  not_bounded : ℕ → ℕ → Bound

abbrev pub bound_if : Bool → Bool → ℕ → Bound
bound_if true fits n = no_bound
bound_if false false n = no_bound
bound_if false true n = bound n

-- "`no bound` is answered exactly when a REPEAT or RESTART can be reached by activations from MAIN, or the number passes 4,294,967,295"
unfoldable pub bound_of : Table → Bound
bound_of ds = let n = cost_of ds (main_name ds) in bound_if (turns_from ds (main_name ds)) (leb n most_steps) n

-- what the call may answer to a text: its own refusal first
pub data Bounds (text : List ℕ) : Bound → Type 0 where
  not_accepted : {m p : ℕ} → Checks text (refused m p) → Bounds text (not_bounded m p)
  bounded_by : {n w : ℕ} (d : Description) → flatten d ≡ (scan text).tokens → Checks text (accepted n w) → Bounds text (bound_of (declarations d))
