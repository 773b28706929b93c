-- `values::fields::with_field` meets its contract: the old field is part of the word, and the new word fits 64 bits as the old one does.
-- Assumes nothing.
use Rattle.std.proofs.Common.{◌≡◌, ℕ, ◌+◌, ◌-◌, ◌*◌, ◌%◌, ◌^◌, ◌<◌, ◌≤◌, arith, rules}
use Rattle.rules.specs.Values.{field, with_field}
use Rattle.values.specs.Laws.Fields.{word_parts, with_fits}
use Rattle.values.proofs.fields.with_field.Goals as goal

module _ (low size w old : ℕ) (fits : w < 2 ^ 64) (within : low + size ≤ 64) (is_old : old ≡ field low size w) where
  contained : old * 2 ^ low % 2 ^ 64 ≤ w
  contained = rw is_old (omega (arith, word_parts low size w))

  replaced : (v new : ℕ) → new ≡ v % 2 ^ size → w - old * 2 ^ low % 2 ^ 64 + new * 2 ^ low % 2 ^ 64 ≡ with_field low size w v
  unfolding with_field
  replaced v new is_new = rw (is_old, is_new) (omega (arith, word_parts low size w, with_fits low size w v 64 within fits))

  fit : (v new : ℕ) → new ≡ v % 2 ^ size → w - old * 2 ^ low % 2 ^ 64 + new * 2 ^ low % 2 ^ 64 < 2 ^ 64
  fit v new is_new = rw (replaced v new is_new) (with_fits low size w v 64 within fits)

pub overflow_sub-result : goal.overflow_sub-result
overflow_sub-result c = search (rules, contained)

pub overflow_add-result : goal.overflow_add-result
overflow_add-result c = search (rules, fit)

pub returns : goal.returns
returns c = search (rules, replaced)
