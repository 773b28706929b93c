-- What a scan from a token on comes to.
use Rattle.std.specs.Prelude.{ℕ, ◌+◌, length, Result}
use Rattle.rules.specs.Text.Scan.{Scan}
use Rattle.rules.specs.declared.refusals.Refusal.{Refusal}
use Rattle.text.specs.Table.{ended_at}

abbrev pub scanned_from : ℕ → Scan → Result ℕ Refusal
scanned_from n s = ended_at (n + length s.tokens) s.end
