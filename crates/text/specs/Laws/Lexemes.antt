-- Laws of lexemes: the value that the code hands about says which lexeme it is.
use Rattle.std.specs.Prelude.{◌≡◌, ℕ, Ok, Err}
use Rattle.std.proofs.Common.{sym, ap, ◌∙◌, arith}
use Rattle.rules.specs.Text.Tokens.{Token, kind_no}
use Rattle.rules.specs.Text.Scan.{Lexeme as Stands, no_lexeme, token, bad_lexeme}
use Rattle.lexemes.specs.declared.lexemes.Lexeme.TheVariants.{Nothing, Token as At}
use Rattle.lexemes.specs.declared.lexemes.Token.{Token as Found}
use Rattle.lexemes.specs.declared.lexemes.Misspelling.{Misspelling}
use Rattle.lexemes.specs.Lexemes.{lexeme_of, size_of}
use Rattle.lexemes.specs.Misspellings.{refusal_number, misspelling}
use Rattle.lexemes.specs.Laws.Misspellings.{Numbered}

-- from the code's value back to the lexeme
pub nothing_back : (l : Stands) (n : ℕ) → Ok (Nothing n) ≡ lexeme_of l → l ≡ no_lexeme n
nothing_back (no_lexeme m) n e = cc
nothing_back (token m t) n e = absurd (let z : ◌≡◌ {A = ℕ} 0 1 = cc in omega arith)
nothing_back (bad_lexeme m) n e = absurd (let z : ◌≡◌ {A = ℕ} 0 1 = cc in omega arith)

pub refused_back : (l : Stands) (x : Misspelling) → Numbered l → Err x ≡ lexeme_of l → l ≡ bad_lexeme (refusal_number x)
refused_back (no_lexeme m) x h e = absurd (let z : ◌≡◌ {A = ℕ} 0 1 = cc in omega arith)
refused_back (token m t) x h e = absurd (let z : ◌≡◌ {A = ℕ} 0 1 = cc in omega arith)
refused_back (bad_lexeme m) x h e = let same : x ≡ misspelling m = cc in ap bad_lexeme (h ∙ ap refusal_number (sym same))

pub record IsToken (l : Stands) (n k s v f : ℕ) : Type 0 where
  pub it : Token
  pub is : l ≡ token n it
  pub kind : k ≡ kind_no it.kind
  pub size : s ≡ size_of it
  pub value : v ≡ it.info.value
  pub free : f ≡ it.info.free

pub token_back : (l : Stands) (x : Found) → Ok (At x) ≡ lexeme_of l → IsToken l x.more x.kind x.size x.value x.free
token_back (no_lexeme m) x e = absurd (let z : ◌≡◌ {A = ℕ} 0 1 = cc in omega arith)
token_back (token m t) x e =
    let same : x ≡ record { more = m; kind = kind_no t.kind; size = size_of t; value = t.info.value; free = t.info.free } = cc in
    record {
      it = t;
      is = ap (λ (y : Found). token y.more t) (sym same);
      kind = ap (λ (y : Found). y.kind) same;
      size = ap (λ (y : Found). y.size) same;
      value = ap (λ (y : Found). y.value) same;
      free = ap (λ (y : Found). y.free) same;
    }
token_back (bad_lexeme m) x e = absurd (let z : ◌≡◌ {A = ℕ} 0 1 = cc in omega arith)
