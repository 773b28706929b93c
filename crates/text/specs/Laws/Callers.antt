-- What callers may rest on: the tokens of a scan are few, each stands within the text, their places rise, and the table holds them.
use Rattle.std.specs.Prelude.{◌≡◌, refl, Bool, true, false, ◌||◌, List, [], ◌∷◌, ℕ, zero, suc, ◌+◌, ◌-◌, ◌^◌, ◌<◌, ◌≤◌, eqb, ltb, length, get_or}
use Rattle.std.proofs.Common.{ap, arith, ltb-true}
use Rattle.cells.specs.Cells.{cells}
use Rattle.rules.specs.Text.Tokens.{Token, kind_no}
use Rattle.rules.specs.Text.Scan.{Scan, End, fine, refuse, scan_end, followed, scan_from, scan, Lexeme, lexeme, no_lexeme, token, bad_lexeme}
use Rattle.rules.specs.Limits.{most_tokens}
use Rattle.lexemes.specs.Lexemes.{size_of}
use Rattle.text.specs.Laws.Sound.{Sound, Placed, lexeme_sound}
use Rattle.text.specs.Table.{value_by, value_cells, write_cells}
use Rattle.text.specs.Laws.Writes.{Fitting, written}

-- a token that stands from `low` on, before `high`
pub record Stands (low high : ℕ) (t : Token) : Type 0 where
  pub kind : kind_no t.kind < 42
  pub size : size_of t ≤ 64
  pub value : t.info.value < 2 ^ 64
  pub free : t.info.free < 2 ^ 64
  pub from : low ≤ t.info.place
  pub before : t.info.place < high

-- tokens whose places rise
abbrev pub Rising : ℕ → ℕ → List Token → Type 0
Rising low high [] = Unit
Rising low high (t ∷ ts) = Stands low high t × Rising (t.info.place + 1) high ts

weaker : (low₀ low high : ℕ) (ts : List Token) → low₀ ≤ low → Rising low high ts → Rising low₀ high ts
weaker low₀ low high [] h r = tt
weaker low₀ low high (t ∷ ts) h r =
    (record { kind = r.0.kind; size = r.0.size; value = r.0.value; free = r.0.free; from = omega (arith, r.0.from); before = r.0.before }, r.1)

-- what a scan from p on, with k tokens allowed, comes to
record Kept (p k high : ℕ) (s : Scan) : Type 0 where
  pub few : length s.tokens ≤ k
  pub rising : Rising p high s.tokens

moved : {p k high : ℕ} {s : Scan} → Kept (p + 1) k high s → Kept p k high s
moved {p} {k} {high} {s} r = record { few = r.few; rising = weaker p (p + 1) high s.tokens (omega arith) r.rising }

none_kept : (p k high : ℕ) (e : End) → Kept p k high (scan_end e)
none_kept p k high e = record { few = omega arith; rising = tt }

one_kept : (p k high n room : ℕ) (t : Token) (s : Scan) → 0 < k → p < high → Placed p room n t → Kept (p + 1) (k - 1) high s → Kept p k high (followed t s)
one_kept p k high n room t s some inside is rest = record {
  few = omega (arith, rest.few);
  rising = (
    record { kind = is.kind; size = is.size; value = is.value; free = is.free; from = omega (arith, is.place); before = omega (arith, is.place) },
    rw is.place rest.rising,
  );
}

step : (p k b high : ℕ) (bs : List ℕ) → p < high → ((j n : ℕ) → Kept (p + 1) j high (scan_from (p + 1) j n bs)) → (l : Lexeme) → lexeme p b bs ≡ l
    → Sound p (length bs) l → Kept p k high (scan_from p k 0 (b ∷ bs))
unfolding scan_from
step p k b high bs inside more (no_lexeme n) e is = rw (scan_from, e) (moved (more k n))
step p k b high bs inside more (bad_lexeme m) e is = rw (scan_from, e) (none_kept p k high (refuse m p))
step p k b high bs inside more (token n t) e is = go (ltb 0 k) refl
  where
    go : (r : Bool) → ltb 0 k ≡ r → Kept p k high (scan_from p k 0 (b ∷ bs))
    go true q =
        rw (scan_from, e, q) (one_kept p k high n (length bs) t (scan_from (p + 1) (k - 1) n bs) (ltb-true 0 k q) inside is (more (k - 1) n))
    go false q = rw (scan_from, e, q) (none_kept p k high (refuse 13 p))

kept : (p k n high : ℕ) (bs : List ℕ) → high ≡ p + length bs → Kept p k high (scan_from p k n bs)
unfolding scan_from
kept p k n high [] h = none_kept p k high fine
kept p k (suc n) high (b ∷ bs) h = moved (kept (p + 1) k n high bs (omega arith))
kept p k zero high (b ∷ bs) h =
    step p k b high bs (omega arith) (λ j n. kept (p + 1) j n high bs (omega arith)) (lexeme p b bs) refl (lexeme_sound p b bs)

-- token i, and any two of them
stands_at : (low high : ℕ) (ts : List Token) → Rising low high ts → (d : Token) (i : ℕ) → i < length ts → Stands low high (get_or ts i d)
stands_at low high [] r d i h = absurd (omega arith)
stands_at low high (t ∷ ts) r d zero h = r.0
stands_at low high (t ∷ ts) r d (suc i) h =
    stands_at low high ts (weaker low (t.info.place + 1) high ts (omega (arith, r.0.from)) r.1) d i (omega arith)

rise : (low high : ℕ) (ts : List Token) → Rising low high ts → (d : Token) (i j : ℕ) → i < j → j < length ts
    → (get_or ts i d).info.place < (get_or ts j d).info.place
rise low high [] r d i j h l = absurd (omega arith)
rise low high (t ∷ ts) r d i zero h l = absurd (omega arith)
rise low high (t ∷ ts) r d zero (suc j) h l = omega (arith, (stands_at (t.info.place + 1) high ts r.1 d j (omega arith)).from)
rise low high (t ∷ ts) r d (suc i) (suc j) h l = rise (t.info.place + 1) high ts r.1 d i j (omega arith) (omega arith)

-- both lists of cells are as long as the tokens, and fit their cells
pub length_values : (before : ℕ) (ts : List Token) → length (value_cells before ts) ≡ length ts
unfolding value_cells
length_values before [] = refl
length_values before (t ∷ ts) = ap suc (length_values t.info.free ts)

value_fits : (k v m : ℕ) → v < 2 ^ 64 → m < 2 ^ 64 → value_by k v m < 2 ^ 64
unfolding value_by
value_fits k v m hv hm = go (eqb k 1 || eqb k 2)
  where
    go : (r : Bool) → elim r [ true ↦ v | false ↦ m ] < 2 ^ 64
    go true = hv
    go false = hm

values_fit : (low high before : ℕ) (ts : List Token) → Rising low high ts → before < 2 ^ 64 → Fitting 8 (value_cells before ts)
unfolding value_cells
values_fit low high before [] r h = tt
values_fit low high before (t ∷ ts) r h = (
  value_fits (kind_no t.kind) t.info.value before r.0.value h,
  values_fit (t.info.place + 1) high t.info.free ts r.1 r.0.free,
)

-- the tokens of a text
module _ (text : List ℕ) where
  abbrev tokens : List Token
  tokens = (scan text).tokens

  whole : Kept 0 8192 (length text) (scan text)
  unfolding scan
  whole = kept 0 8192 0 (length text) text (omega arith)

  pub few_tokens : length tokens ≤ 8192
  few_tokens = whole.few

  pub token_stands : (d : Token) (i : ℕ) → i < length tokens → Stands 0 (length text) (get_or tokens i d)
  token_stands d i h = stands_at 0 (length text) tokens whole.rising d i h

  pub places_rise : (d : Token) (i j : ℕ) → i < j → j < length tokens → (get_or tokens i d).info.place < (get_or tokens j d).info.place
  places_rise d i j h l = rise 0 (length text) tokens whole.rising d i j h l

  -- what a scan leaves in a buffer of cells for all the tokens: the cells
  module _ (b : List ℕ) (room : 65536 ≤ length b) where
    pub values_held : cells 8 (length tokens) (write_cells 8 b 0 (value_cells 0 tokens)) ≡ value_cells 0 tokens
    values_held =
        let size : length (value_cells 0 tokens) ≡ length tokens = length_values 0 tokens in
        rw size at (written 8 b (value_cells 0 tokens) (omega (arith, size, few_tokens)) (values_fit 0 (length text) 0 tokens whole.rising (omega arith)))

-- a refusal's place is inside the text
refuse_step : (p k b : ℕ) (bs : List ℕ) (m q : ℕ) → ((j n : ℕ) → (scan_from (p + 1) j n bs).end ≡ refuse m q → q < p + 1 + length bs) → (l : Lexeme) → lexeme p b bs ≡ l
    → (scan_from p k 0 (b ∷ bs)).end ≡ refuse m q → q < p + suc (length bs)
unfolding scan_from
refuse_step p k b bs m q more (no_lexeme n) e h = omega (arith, more k n (rw (scan_from, e) at h))
refuse_step p k b bs m q more (bad_lexeme x) e h = let is : refuse x p ≡ refuse m q = rw (scan_from, e) at h in let same : p ≡ q = cc in omega arith
refuse_step p k b bs m q more (token n t) e h = go (ltb 0 k) refl
  where
    go : (r : Bool) → ltb 0 k ≡ r → q < p + suc (length bs)
    go true z = omega (arith, more (k - 1) n (rw (scan_from, e, z) at h))
    go false z = let is : refuse 13 p ≡ refuse m q = rw (scan_from, e, z) at h in let same : p ≡ q = cc in omega arith

refuse_within : (p k n : ℕ) (bs : List ℕ) (m q : ℕ) → (scan_from p k n bs).end ≡ refuse m q → q < p + length bs
unfolding scan_from
refuse_within p k n [] m q h = let z : ◌≡◌ {A = ℕ} 0 1 = cc in absurd (omega arith)
refuse_within p k (suc n) (b ∷ bs) m q h = omega (arith, refuse_within (p + 1) k n bs m q h)
refuse_within p k zero (b ∷ bs) m q h = refuse_step p k b bs m q (λ j n. refuse_within (p + 1) j n bs m q) (lexeme p b bs) refl h

pub refused_inside : (text : List ℕ) (m q : ℕ) → (scan text).end ≡ refuse m q → q < length text
unfolding scan
refused_inside text m q h = omega (arith, refuse_within 0 most_tokens 0 text m q h)
