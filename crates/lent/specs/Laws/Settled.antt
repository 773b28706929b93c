-- Laws of how a call leaves the memory that it was lent.
-- Assumes nothing.
use Rattle.std.specs.Prelude.{ℕ, ◌≡◌, List, length, replicate}
use Rattle.std.proofs.Common.{ap, ◌∙◌}
use Rattle.rules.specs.Calls.Memory.{Memory, memory, zeros, settled}
use Rattle.lent.specs.Numbers.{numbers_of}
use Rattle.lent.specs.Settled.{Settled}
use Rattle.lent.specs.declared.answers.Answer.{Answer}

-- work memory of the same length, with whatever in it
pub settled_from : {a b c x a₁ b₁ c₁ : List ℕ} {after : Memory} {found : Answer} → Settled (memory a₁ b₁ c₁ x) after found
    → length a₁ ≡ length a → length b₁ ≡ length b → length c₁ ≡ length c → Settled (memory a b c x) after found
settled_from s la lb lc = record {
  work_a = s.work_a ∙ ap (λ n. replicate n 0) la;
  work_b = s.work_b ∙ ap (λ n. replicate n 0) lb;
  work_c = s.work_c ∙ ap (λ n. replicate n 0) lc;
  answer = s.answer;
}

pub settled_same : {before after : Memory} {found : Answer} → Settled before after found → after ≡ settled (numbers_of found) before
settled_same {before} {after} s =
    ap (λ a. memory a after.work_b after.work_c after.answer) s.work_a
    ∙ ap (λ b. memory (zeros before.work_a) b after.work_c after.answer) s.work_b
    ∙ ap (λ c. memory (zeros before.work_a) (zeros before.work_b) c after.answer) s.work_c
    ∙ ap (memory (zeros before.work_a) (zeros before.work_b) (zeros before.work_c)) s.answer
