-- `lines::digits::hex_in` meets its contract: the last digit stands behind the others. The number of digits falls.
-- Assumes nothing.
use borrow.Author.Rules.{rules}
use Prim.Native.Nat.{ℕ, ◌<◌}
use borrow.Fn.Kinds.{In}
use borrow.Fn.PlainCycle.{Measures, is, falls, and}
use Rattle.lines.proofs.digits.hex_in.Reads as hex_in_lem
use Rattle.lines.proofs.digits.hex_in.Kinds as hex_in_kinds
use Rattle.lines.proofs.digits.+hex_in.Lts-hex_in as hex_in_lts
use Rattle.lines.proofs.bytes.put_byte.Reads as put_byte_reads
use Rattle.lines.proofs.digits.hex_digit.Reads as hex_digit_reads
use Rattle.lines.proofs.Numbers.{room_for_hex, no_hex, more_hex}
use Rattle.lines.proofs.digits.+hex_in.{statement}
use Rattle.lines.proofs.digits.+hex_in.Tie.{close}

abbrev μ_hex_in : Measures 1 hex_in_kinds.ps ℕ
μ_hex_in κs a = a.1.1.0

abbrev hex_in_at : ℕ → In 1 hex_in_kinds.ps
hex_in_at t = and 1 hex_in_kinds.ps (is 1 hex_in_kinds.ps μ_hex_in t) hex_in_lem.Pre

abbrev hex_in_below : ℕ → In 1 hex_in_kinds.ps
hex_in_below t = and 1 hex_in_kinds.ps (falls 1 hex_in_kinds.ps ◌<◌ μ_hex_in t) hex_in_lem.Pre

pub +hex_in_spec : {M : Type 1} → statement M
+hex_in_spec = close μ_hex_in λ t. hex_in_lts.spec (
  hex_in_below t,
  hex_in_lem.Post,
  hex_digit_reads.Asked,
  hex_digit_reads.Learnt,
  put_byte_reads.Asked,
  put_byte_reads.Learnt,
)
    (hex_in_at t)
    hex_in_lem.Post
    (λ c. search (rules, no_hex))
    (λ c. search rules)
    (λ c κs. search rules)
    (λ c κs. search rules)
    (λ c κs. search (rules, room_for_hex))
    (λ c. search rules)
    (λ c. search (rules, more_hex))
