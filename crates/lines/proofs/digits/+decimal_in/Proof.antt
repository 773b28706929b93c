-- `lines::digits::decimal_in` meets its contract: the last digit stands behind the others. The number of digits allowed falls.
-- Assumes nothing.
use borrow.Author.Rules.{rules}
use Prim.Native.Nat.{ℕ, ◌<◌}
use borrow.Fn.Kinds.{In}
use borrow.Fn.PlainCycle.{Measures, is, falls, and}
use Rattle.lines.proofs.digits.decimal_in.Reads as decimal_in_lem
use Rattle.lines.proofs.digits.decimal_in.Kinds as decimal_in_kinds
use Rattle.lines.proofs.digits.+decimal_in.Lts-decimal_in as decimal_in_lts
use Rattle.lines.proofs.bytes.put_byte.Reads as put_byte_reads
use Rattle.lines.proofs.Numbers.{room_for_digit, no_digit, one_digit, more_digits}
use Rattle.lines.proofs.digits.+decimal_in.{statement}
use Rattle.lines.proofs.digits.+decimal_in.Tie.{close}

abbrev μ_decimal_in : Measures 1 decimal_in_kinds.ps ℕ
μ_decimal_in κs a = a.1.1.0

abbrev decimal_in_at : ℕ → In 1 decimal_in_kinds.ps
decimal_in_at t =
    and 1 decimal_in_kinds.ps (is 1 decimal_in_kinds.ps μ_decimal_in t) decimal_in_lem.Pre

abbrev decimal_in_below : ℕ → In 1 decimal_in_kinds.ps
decimal_in_below t =
    and 1 decimal_in_kinds.ps (falls 1 decimal_in_kinds.ps ◌<◌ μ_decimal_in t) decimal_in_lem.Pre

pub +decimal_in_spec : {M : Type 1} → statement M
+decimal_in_spec = close μ_decimal_in λ t. decimal_in_lts.spec (
  put_byte_reads.Asked,
  put_byte_reads.Learnt,
  decimal_in_below t,
  decimal_in_lem.Post,
)
    (decimal_in_at t)
    decimal_in_lem.Post
    (λ c. search (rules, no_digit))
    (λ c. search rules)
    (λ c. search rules)
    (λ c κs. search rules)
    (λ c. search rules)
    (λ c. search (rules, one_digit))
    (λ c. search rules)
    (λ c κs. search rules)
    (λ c. search rules)
    (λ c. search rules)
    (λ c κs. search (rules, room_for_digit))
    (λ c. search rules)
    (λ c. search (rules, more_digits))
