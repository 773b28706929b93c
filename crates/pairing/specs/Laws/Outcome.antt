-- Laws of what two texts come to: by who refuses, and the whole call.
-- Assumes nothing.
use Rattle.std.specs.Prelude.{ℕ, ◌*◌, ◌≤◌, ◌≡◌, refl, List, ◌++◌, length, drop, replicate, ⊤, Result, Ok, Err}
use Rattle.std.proofs.Common.{ap, ◌∙◌, subst, arith}
use Rattle.rules.specs.Limits.{longest_text}
use Rattle.rules.specs.Declarations.{Table}
use Rattle.rules.specs.Answers.{accepted, Checks}
use Rattle.rules.specs.Calls.Memory.{Memory, memory, answer_size, zeros, answered}
use Rattle.rules.specs.Pair.{turned_down, Pairs, first_refused, second_refused, paired}
use Rattle.rules.specs.Calls.Pair.{MoreMemory, more_memory, PairMemory, all_zeros, PairCall, answer}
use Rattle.lent.specs.Settled.{Settled}
use Rattle.lent.specs.Laws.Settled.{settled_same}
use Rattle.lent.specs.declared.answers.Answer.{Answer}
use Rattle.accepted.specs.Accepted.{Accepts, described_by, table_by}
use Rattle.reader.specs.Parsed.{Refuses}
use Rattle.pair_tables.specs.Judging.{Begins, Declines, Judges, begins, declines}
use Rattle.pair_tables.specs.declared.judging.PairRefusal.{PairRefusal}
use Rattle.pairing.specs.Outcome.{Tells, Outcome}

-- room for the first words of its declarations
pub firsts_room : {text records values decls : List ℕ} {m words n size : ℕ} → Accepts text records values decls m words n → 512 ≤ size → 2 * m ≤ size
firsts_room v room = omega (arith, v.lawful.declares.ready.few)

-- what is known of two accepted texts, by the case
module _ {first second : Table} {firsts buffer turns : List ℕ} where
  pub declined_by : {s : Result ⊤ PairRefusal} {r : PairRefusal} → Judges first second firsts buffer turns s → s ≡ Err r
      → Declines first second buffer turns r.side r.refusal.number r.refusal.place
  declined_by (begins h) e = let z : ◌≡◌ {A = ℕ} 0 1 = cc in absurd (omega arith)
  declined_by {r = r} (declines {r = q} h) e =
      let x : q ≡ r = cc in subst (λ (z : PairRefusal). Declines first second buffer turns z.side z.refusal.number z.refusal.place) x h

  pub begun_by : {s : Result ⊤ PairRefusal} → Judges first second firsts buffer turns s → s ≡ Ok tt → Begins first second firsts buffer turns
  begun_by (begins h) e = h
  begun_by (declines h) e = let z : ◌≡◌ {A = ℕ} 0 1 = cc in absurd (omega arith)

-- refusals of the first text, of the second, and of both together
module _ {text₀ text₁ carriers turns : List ℕ} {budget m p : ℕ} {a : Answer} where
  pub refused_first : Refuses text₀ m p → Tells text₀ text₁ (turned_down 0 m p) a → Outcome text₀ text₁ carriers turns budget carriers a
  refused_first r t = record { result = turned_down 0 m p; pairs = first_refused r.checks; tells = t; left_is = refl }

  pub refused_second : {n w : ℕ} → Checks text₀ (accepted n w) → Refuses text₁ m p → Tells text₀ text₁ (turned_down 1 m p) a
      → Outcome text₀ text₁ carriers turns budget carriers a
  refused_second v r t = record { result = turned_down 1 m p; pairs = second_refused v r.checks; tells = t; left_is = refl }

  pub refused_both : {records₀ values₀ decls₀ records₁ values₁ decls₁ : List ℕ} {m₀ words₀ n₀ m₁ words₁ n₁ side : ℕ}
      (v : Accepts text₀ records₀ values₀ decls₀ m₀ words₀ n₀) (u : Accepts text₁ records₁ values₁ decls₁ m₁ words₁ n₁)
      → Declines (table_by v) (table_by u) carriers turns side m p → Tells text₀ text₁ (turned_down side m p) a
      → Outcome text₀ text₁ carriers turns budget carriers a
  refused_both {side = side} v u d t = record {
    result = turned_down side m p;
    pairs = subst (Pairs text₀ text₁ carriers turns budget) (d.refuses budget)
        (paired (described_by v) (described_by u) v.lawful.declares.reads u.lawful.declares.reads v.verdict u.verdict);
    tells = t;
    left_is = refl;
  }

-- the whole call
pub pair_call : {text₀ text₁ carriers turns left : List ℕ} {budget : ℕ} {before after : Memory} {more rest : MoreMemory} {found : Answer}
    → PairMemory before more
    → length text₀ ≤ longest_text → length text₁ ≤ longest_text → Outcome text₀ text₁ carriers turns budget left found → Settled before after found
    → rest ≡ all_zeros more
    → PairCall text₀ text₁ carriers turns budget before after more rest left found.number
unfolding answered
pair_call {before = before} enough l₀ l₁ o s zeroed =
    answer o.result enough l₀ l₁ o.pairs o.tells.number
    (settled_same s
    ∙ ap (λ bs. memory (zeros before.work_a) (zeros before.work_b) (zeros before.work_c) (bs ++ drop answer_size before.answer))
    o.tells.is) zeroed o.left_is

-- three buffers that are cleared, and were as long before
pub all_zeros_lem : (d e f : List ℕ) {x y z : List ℕ} {i j k : ℕ} → x ≡ replicate i 0 → y ≡ replicate j 0 → z ≡ replicate k 0 → i ≡ length d → j ≡ length e
    → k ≡ length f
    → more_memory x y z ≡ all_zeros (more_memory d e f)
all_zeros_lem d e f p q r ld le lf =
    let x = p ∙ ap (λ n. replicate n 0) ld in
    let y = q ∙ ap (λ n. replicate n 0) le in
    let z = r ∙ ap (λ n. replicate n 0) lf in
    cc
