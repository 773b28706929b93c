-- Laws of the tokens in the table: the kind of one, and the next one.
use Rattle.std.specs.Prelude.{ℕ, ◌+◌, ◌<◌, ◌≤◌, ◌≡◌, List, [], ◌∷◌, length, drop}
use Rattle.std.proofs.Common.{sym, ap, ◌∙◌, arith, add-one, drop_of_length-le, drop-cons}
use Rattle.rules.specs.Text.Tokens.{Name, tk, kind_no}
use Rattle.rules.specs.Text.Scan.{plain_info}
use Rattle.laws_grammar.specs.Cited.Kinds.{kind_at}
use Rattle.laws_grammar.specs.Grammar.Kinds.{kind_at_kind_no}
use Rattle.records.specs.Holds.{no_kind, kind_byte, token_at}
use Rattle.records.specs.Words.{NameAt}
use Rattle.reading.specs.Kinds.{next_no}
use Rattle.reading.specs.Reading.{Kinded, Reading}

module _ {records : List ℕ} {n : ℕ} (v : Kinded records n) where
  pub next_token : (i : ℕ) → i < n → drop i v.tokens ≡ token_at v.tokens i ∷ drop (i + 1) v.tokens
  next_token i h = rw (add-one i) (drop-cons v.tokens i (tk Name (plain_info 0)) (omega (arith, v.count)))

  pub no_more : (i : ℕ) → n ≤ i → drop i v.tokens ≡ []
  no_more i h = let past : length v.tokens ≤ i = omega (arith, v.count) in drop_of_length-le v.tokens past

module _ {records : List ℕ} {n i : ℕ} where
  pub kind_there : {k : ℕ} → i < n → k ≡ kind_byte records i → (v : Kinded records n) → k ≡ next_no (drop i v.tokens)
  kind_there h e v = e ∙ (v.kind i h ∙ sym (ap next_no (next_token v i h)))

  pub kind_past : n ≤ i → (v : Kinded records n) → no_kind ≡ next_no (drop i v.tokens)
  kind_past h v = sym (ap next_no (no_more v i h))

module _ {records decls : List ℕ} {m n : ℕ} (v : Reading records decls m n) where
  abbrev pub kinded : Kinded records n
  kinded = record {
    tokens = v.tokens;
    count = v.count;
    few = omega (arith, v.count, v.ready.holds.few);
    room = omega (arith, v.count, v.ready.holds.record_room);
    kind = λ i h. (v.ready.holds.entry i (omega (arith, v.count))).kind;
  }

  -- the name that is the token i
  pub name_at : (i : ℕ) → i < n → kind_byte records i ≡ kind_no Name → NameAt v.tokens i
  name_at i h e = record {
    within = omega (arith, v.count);
    kind = sym (kind_at_kind_no (token_at v.tokens i).kind) ∙ ap kind_at (sym (kinded.kind i h) ∙ e);
  }
