-- The laws of a word's fields: a field fits its size, reads back what was put there, and no put touches a bit outside its own.
-- Assumes nothing.
use Rattle.std.specs.Prelude.{◌≡◌, ℕ, ◌+◌, ◌-◌, ◌*◌, ◌/◌, ◌%◌, ◌^◌, ◌<◌, ◌≤◌, ◌⊎◌}
use Rattle.std.proofs.Common.{sym, ap, ◌∙◌, inl, inr, add_comm, add-mul, mul_assoc, mod-lt, div-lt_iff_lt-mul, arith, pow_pos, pow-add, shr-shr, shr_lt}
use Rattle.std.proofs.Math.Pow as pow
use Rattle.std.proofs.Math.Pow.{split, mod-mod-pow}
use Rattle.rules.specs.Values.{field, with_field}

pub field_fits : (low size w : ℕ) → field low size w < 2 ^ size
unfolding field
field_fits low size w = mod-lt (w / 2 ^ low) (pow_pos size)

-- a word from its three parts, above the field, the field and below it, in two ways
word : (low size h x r : ℕ) → h * 2 ^ (low + size) + x * 2 ^ low + r ≡ (h * 2 ^ size + x) * 2 ^ low + r
word low size h x r = rw (add_comm low size, pow-add, add-mul, mul_assoc)

pub word_parts : (low size w : ℕ) → w / 2 ^ (low + size) * 2 ^ (low + size) + field low size w * 2 ^ low + w % 2 ^ low ≡ w
unfolding field
word_parts low size w = rw (word, ← shr-shr w low size, split, split)

module _ (low size w v : ℕ) where
  -- below the field
  with_low : with_field low size w v % 2 ^ low ≡ w % 2 ^ low
  unfolding with_field
  with_low = rw word (pow.low _ low (mod-lt w (pow_pos low)))

  -- from the field up
  with_up : with_field low size w v / 2 ^ low ≡ w / 2 ^ (low + size) * 2 ^ size + v % 2 ^ size
  unfolding with_field
  with_up = rw word (pow.high _ low (mod-lt w (pow_pos low)))

  -- above the field
  with_high : with_field low size w v / 2 ^ (low + size) ≡ w / 2 ^ (low + size)
  with_high = sym (shr-shr _ low size) ∙ rw with_up (pow.high _ size (mod-lt v (pow_pos size)))

  pub with_reads_back : field low size (with_field low size w v) ≡ v % 2 ^ size
  unfolding field
  with_reads_back = rw with_up (pow.low _ size (mod-lt v (pow_pos size)))

  -- a word keeps its length, here by how many bits stand above the field
  with_fits_above : (k : ℕ) → w < 2 ^ (k + (low + size)) → with_field low size w v < 2 ^ (k + (low + size))
  with_fits_above k h = rw (pow-add 2 k) ((div-lt_iff_lt-mul (pow_pos (low + size))).0 (rw with_high (shr_lt k (low + size) h)))

  pub with_fits : (n : ℕ) → low + size ≤ n → w < 2 ^ n → with_field low size w v < 2 ^ n
  with_fits n h fits =
      let e : n - (low + size) + (low + size) ≡ n = omega arith in
      rw e at (with_fits_above (n - (low + size)) (rw e fits))

-- a field below a bound sees only the bits below it, and one from a bound up only those from there
field_of_low : (low size k w : ℕ) → low + size ≤ k → field low size (w % 2 ^ k) ≡ field low size w
unfolding field
field_of_low low size k w h =
    let e : k - (size + low) + (size + low) ≡ k = omega arith in
    sym (pow.field _ size low)
    ∙ ap (λ (x : ℕ). x / 2 ^ low) (rw e at (mod-mod-pow w (k - (size + low)) (size + low)))
    ∙ pow.field w size low

field_of_high : (low size k w : ℕ) → k ≤ low → field low size w ≡ field (low - k) size (w / 2 ^ k)
unfolding field
field_of_high low size k w h = let e : k + (low - k) ≡ low = omega arith in rw (shr-shr, e)

-- two runs of bits, of which none is in both
abbrev pub Apart : ℕ → ℕ → ℕ → ℕ → Type 0
Apart low size low' size' = (low + size ≤ low') ⊎ (low' + size' ≤ low)

pub with_keeps : (low size w v low' size' : ℕ) → Apart low' size' low size → field low' size' (with_field low size w v) ≡ field low' size' w
with_keeps low size w v low' size' (inl below) =
    sym (field_of_low low' size' low _ below)
    ∙ ap (field low' size') (with_low low size w v)
    ∙ field_of_low low' size' low w below
with_keeps low size w v low' size' (inr above) =
    field_of_high low' size' (low + size) _ above
    ∙ ap (field (low' - (low + size)) size') (with_high low size w v)
    ∙ sym (field_of_high low' size' (low + size) w above)
