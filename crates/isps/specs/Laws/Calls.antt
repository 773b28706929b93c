-- The contracts settle what they speak of, and acceptance is exact.
-- Assumes nothing.
use Rattle.std.specs.Prelude.{ℕ, ◌+◌, ◌*◌, ◌/◌, ◌%◌, ◌<◌, ◌≤◌, ◌≡◌, refl, List, ◌↔◌, length, drop}
use Rattle.std.proofs.Common.{sym, ap, ◌∙◌, arith}
use Rattle.rules.specs.Limits.{longest_text}
use Rattle.rules.specs.Steps.Runs.{Ending, done, halted, paused, faulted}
use Rattle.rules.specs.Answers.{Verdict, accepted, refused, Checks, Result, refusal, ended, little_endian, bytes_of, verdict_numbers, ran_numbers, result_numbers, Lawful}
use Rattle.rules.specs.Agreement.{ending_code, ending_in}
use Rattle.laws_grammar.specs.Answers.{one_verdict, one_result, accepted_iff_lawful}
use Rattle.laws.specs.Refusals.Numbered.{checks_numbered}
use Rattle.rules.specs.Calls.Memory.{Memory, Enough, number_bytes, answered, settled}
use Rattle.rules.specs.Calls.Check.{CheckCall, verdict_number}
use Rattle.rules.specs.Calls.Check as check
use Rattle.rules.specs.Calls.Run.{RunCall, result_number, carriers_left}
use Rattle.rules.specs.Calls.Run as run

pub one_check : {text : List ℕ} {before after after' : Memory} {n n' : ℕ} → CheckCall text before after n → CheckCall text before after' n'
    → (n ≡ n') × (after ≡ after')
one_check (check.short_memory s e a) (check.short_memory s' e' a') = (e ∙ sym e', a ∙ sym a')
one_check (check.short_memory s e a) (check.long_text m l e' a') = absurd (s m)
one_check (check.short_memory s e a) (check.answer v m l c e' a') = absurd (s m)
one_check (check.long_text m l e a) (check.short_memory s e' a') = absurd (s m)
one_check (check.long_text m l e a) (check.long_text m' l' e' a') = (e ∙ sym e', a ∙ sym a')
one_check (check.long_text m l e a) (check.answer v m' l' c e' a') = absurd (omega arith)
one_check (check.answer v m l c e a) (check.short_memory s e' a') = absurd (s m)
one_check (check.answer v m l c e a) (check.long_text m' l' e' a') = absurd (omega arith)
one_check {text} {before} (check.answer v m l c e a) (check.answer v' m' l' c' e' a') =
    let same : v ≡ v' = one_verdict text c c' in
    (e ∙ ap verdict_number same ∙ sym e', a ∙ ap (λ x. settled (verdict_numbers text x) before) same ∙ sym a')

pub one_run : {text carriers left left' : List ℕ} {budget n n' : ℕ} {before after after' : Memory} → RunCall text carriers budget before after left n
    → RunCall text carriers budget before after' left' n' → (n ≡ n') × (after ≡ after') × (left ≡ left')
one_run (run.short_memory s e a c) (run.short_memory s' e' a' c') = (e ∙ sym e', a ∙ sym a', c ∙ sym c')
one_run (run.short_memory s e a c) (run.long_text m l e' a' c') = absurd (s m)
one_run (run.short_memory s e a c) (run.answer x m l r e' a' c') = absurd (s m)
one_run (run.long_text m l e a c) (run.short_memory s e' a' c') = absurd (s m)
one_run (run.long_text m l e a c) (run.long_text m' l' e' a' c') = (e ∙ sym e', a ∙ sym a', c ∙ sym c')
one_run (run.long_text m l e a c) (run.answer x m' l' r e' a' c') = absurd (omega arith)
one_run (run.answer x m l r e a c) (run.short_memory s e' a' c') = absurd (s m)
one_run (run.answer x m l r e a c) (run.long_text m' l' e' a' c') = absurd (omega arith)
one_run {text} {carriers} {budget = budget} {before = before} (run.answer x m l r e a c) (run.answer x' m' l' r' e' a' c') =
    let same : x ≡ x' = one_result text carriers budget r r' in
    (e ∙ ap result_number same ∙ sym e', a ∙ ap (λ y. settled (result_numbers text y) before) same ∙ sym a', c ∙ ap (carriers_left carriers) same ∙ sym c')

-- the first number of an answer
abbrev verdict_code : Verdict → ℕ
verdict_code (accepted n w) = 0
verdict_code (refused m p) = 4

verdict_code_lem : (text : List ℕ) (v : Verdict) (b : List ℕ) → little_endian 4 (answered (verdict_numbers text v) b) ≡ verdict_code v
unfolding little_endian answered number_bytes bytes_of
verdict_code_lem text (accepted n w) b = refl
verdict_code_lem text (refused m p) b = refl

pub ran_code : (text : List ℕ) (e : Ending) (n : ℕ) (b : List ℕ) → little_endian 4 (answered (ran_numbers text e n) b) ≡ ending_code e
unfolding little_endian answered number_bytes bytes_of
ran_code text done n b = refl
ran_code text halted n b = refl
ran_code text paused n b = refl
ran_code text (faulted m p) n b = refl

-- the first number of the answer to a run
abbrev pub result_code : Result → ℕ
result_code (refusal m p) = 4
result_code (ended e n b) = ending_code e

pub result_code_lem : (text : List ℕ) (x : Result) (b : List ℕ) → little_endian 4 (answered (result_numbers text x) b) ≡ result_code x
unfolding little_endian answered number_bytes bytes_of
result_code_lem text (refusal m p) b = refl
result_code_lem text (ended e n left) b = ran_code text e n b

-- a number in its four bytes, and the fourth one of an answer
pub four_bytes : (n : ℕ) → n < 4294967296 → n % 256 + 256 * (n / 256 % 256 + 256 * (n / 256 / 256 % 256 + 256 * (n / 256 / 256 / 256 % 256 + 256 * 0))) ≡ n
four_bytes n l =
    let a = n / 256 in
    let b = a / 256 in
    let c = b / 256 in
    let d₁ : n ≡ n % 256 + 256 * a = omega arith in
    let d₂ : a ≡ a % 256 + 256 * b = omega arith in
    let d₃ : b ≡ b % 256 + 256 * c = omega arith in
    let l₁ : a < 16777216 = omega arith in
    let l₂ : b < 65536 = omega (arith, l₁) in
    let d₄ : c ≡ c % 256 = omega (arith, l₂) in
    omega (arith, d₁, d₂, d₃, d₄)

pub ran_steps : (text : List ℕ) (e : Ending) (n : ℕ) (b : List ℕ) → n < 4294967296 → little_endian 4 (drop 12 (answered (ran_numbers text e n) b)) ≡ n
unfolding little_endian answered number_bytes bytes_of
ran_steps text done n b l = four_bytes n l
ran_steps text halted n b l = four_bytes n l
ran_steps text paused n b l = four_bytes n l
ran_steps text (faulted m p) n b l = four_bytes n l

-- accepted is what the rules allow
exact_by : {text : List ℕ} (v : Verdict) → Checks text v → (verdict_code v ≡ 0) ↔ ((m : ℕ) × (w : ℕ) × Lawful text m w)
exact_by {text} (accepted m w) c = (λ e. (m, w, (accepted_iff_lawful text m w).0 c), λ l. refl)
exact_by {text} (refused m p) c = (
  λ e. absurd (omega arith),
  λ l. absurd (let z : refused m p ≡ accepted l.0 l.1 = one_verdict text c ((accepted_iff_lawful text l.0 l.1).1 l.2) in
      let y : ◌≡◌ {A = ℕ} 0 1 = cc in omega arith),
)

pub exact : {text : List ℕ} {before after : Memory} {n : ℕ} → CheckCall text before after n → Enough before → length text ≤ longest_text
    → (ending_in after.answer ≡ 0) ↔ ((m : ℕ) × (w : ℕ) × Lawful text m w)
exact (check.short_memory s e a) enough short = absurd (s enough)
exact (check.long_text m l e a) enough short = absurd (omega arith)
exact {text} {before} (check.answer v m l c e a) enough short =
    let is = ap (λ x. ending_in x.answer) a ∙ verdict_code_lem text v before.answer in
    let both = exact_by v c in
    (λ z. both.0 (sym is ∙ z), λ l. is ∙ both.1 l)

-- the returned number is 0 exactly where the ending is
number_code : {text : List ℕ} (v : Verdict) → Checks text v → (verdict_number v ≡ 0) ↔ (verdict_code v ≡ 0)
number_code (accepted m w) c = (λ e. refl, λ e. refl)
number_code (refused m p) c = (λ e. absurd (omega (arith, checks_numbered c)), λ e. absurd (omega arith))

pub exact_number : {text : List ℕ} {before after : Memory} {n : ℕ} → CheckCall text before after n → Enough before → length text ≤ longest_text
    → (n ≡ 0) ↔ ((m : ℕ) × (w : ℕ) × Lawful text m w)
exact_number (check.short_memory s e a) enough short = absurd (s enough)
exact_number (check.long_text m l e a) enough short = absurd (omega arith)
exact_number (check.answer v m l c e a) enough short =
    let both = exact_by v c in
    let zero = number_code v c in
    (λ z. both.0 (zero.0 (sym e ∙ z)), λ l. e ∙ zero.1 (both.1 l))
