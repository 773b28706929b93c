-- From what stands in a token list at a place to its tokens and to what the table has for them.
-- Assumes nothing.
use Rattle.std.specs.Prelude.{ℕ, ◌+◌, ◌*◌, ◌<◌, ◌≤◌, ◌≡◌, refl, List, [], ◌∷◌, ◌++◌, length, drop}
use Rattle.std.proofs.Common.{sym, ap, ◌∙◌, arith, length-drop, length-append, get_or-drop, drop-drop}
use Rattle.std.proofs.Math.Seq.{drop-append_seam}
use Rattle.rules.specs.Text.Tokens.{Name, Const, kind_no, Token, tk}
use Rattle.rules.specs.Text.Scan.{plain_info}
use Rattle.rules.specs.Grammar.Trees.{Tokens}
use Rattle.laws_grammar.specs.Grammar.Positions.{Writes}
use Rattle.laws_grammar.specs.Cited.Positions.{Stands}
use Rattle.records.specs.Holds.{kind_byte, value_cell_of, token_at, Holds}

-- the token i is t, and `rest` stands behind it
pub record Here (ts : Tokens) (i : ℕ) (t : Token) (rest : Tokens) : Type 0 where
  pub within : i < length ts
  pub token : token_at ts i ≡ t
  pub behind : drop (i + 1) ts ≡ rest

module _ (ts : Tokens) (p : ℕ) (xs : Tokens) (reads : drop p ts ≡ xs) where
  -- the tokens that stand from p on, by their distance
  pub far : (k : ℕ) → k < length xs → p + k < length ts
  far k h = omega (arith, ap length reads, length-drop p ts)

  pub token_far : (k : ℕ) → token_at ts (p + k) ≡ token_at xs k
  token_far k = sym (get_or-drop p ts k (tk Name (plain_info 0))) ∙ ap (λ (l : Tokens). token_at l k) reads

  pub behind_far : (k : ℕ) → drop (p + k) ts ≡ drop k xs
  behind_far k = sym (drop-drop k p ts) ∙ ap (drop k) reads

pub here : (ts : Tokens) (i : ℕ) (t : Token) (rest : Tokens) → drop i ts ≡ t ∷ rest → Here ts i t rest
here ts i t rest e = record {
  within = omega (arith, far ts i (t ∷ rest) e 0 (omega arith));
  token = ap (token_at ts) (omega arith) ∙ token_far ts i (t ∷ rest) e 0;
  behind = behind_far ts i (t ∷ rest) e 1;
}

-- what f writes stands there
pub stands_here : (f : Tokens → Tokens) → Writes f → (ts : Tokens) (i : ℕ) (rest : Tokens) → i ≤ length ts → drop i ts ≡ f rest
    → Stands f ts i (i + length (f []))
stands_here f w ts i rest h e =
    let all : drop i ts ≡ f [] ++ rest = e ∙ w.grows [] rest in
    let behind : drop (i + length (f [])) ts ≡ rest = behind_far ts i (f [] ++ rest) all (length (f [])) ∙ drop-append_seam (f []) rest in
    record {
      size = refl;
      ends = omega (arith, ap length all, length-drop i ts, length-append (f []) rest);
      reads = e ∙ ap f (sym behind);
    }

module _ {text records values : List ℕ} {ts : Tokens} (h : Holds text records values ts) where
  pub record_within : (i : ℕ) → i < length ts → 8 * i + 8 ≤ length records
  record_within i l = omega (arith, h.record_room)

  pub value_within : (i : ℕ) → i < length ts → 8 * i + 8 ≤ length values
  value_within i l = omega (arith, h.value_room)

  pub kind_here : (i : ℕ) (t : Token) → i < length ts → token_at ts i ≡ t → kind_byte records i ≡ kind_no t.kind
  kind_here i t l e = (h.entry i l).kind ∙ ap (λ (x : Token). kind_no x.kind) e

  module _ (p : ℕ) (xs : Tokens) (reads : drop p ts ≡ xs) where
    -- the kind of the token q, which is the k-th from p on
    pub kind_far : (q k : ℕ) → q ≡ p + k → k < length xs → kind_byte records q ≡ kind_no (token_at xs k).kind
    kind_far q k e l = ap (kind_byte records) e ∙ kind_here (p + k) (token_at xs k) (far ts p xs reads k l) (token_far ts p xs reads k)

    -- the value of the token q, which is a constant
    pub value_far : (q k : ℕ) → q ≡ p + k → k < length xs → (token_at xs k).kind ≡ Const → value_cell_of values q ≡ (token_at xs k).info.value
    value_far q k e l c =
        let t = token_far ts p xs reads k in
        ap (value_cell_of values) e
        ∙ ((h.entry (p + k) (far ts p xs reads k l)).constant (ap (λ (x : Token). x.kind) t ∙ c)).value
        ∙ ap (λ (x : Token). x.info.value) t
