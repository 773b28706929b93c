-- Laws of marks: the mark that a text goes on with is found by the number of its bytes, those of two bytes first.
use Rattle.std.specs.Prelude.{◌≡◌, refl, Bool, true, false, ◌&&◌, List, [], ◌∷◌, ◌++◌, ℕ, ◌-◌, eqb, length, take, Option, Some, None, Result, Ok, Err}
use Rattle.std.proofs.Common.{ap, ◌∙◌, eqb-true}
use Rattle.rules.specs.Text.Tokens.{Spelling, marks, kind_no}
use Rattle.rules.specs.Text.Constants.{all}
use Rattle.rules.specs.Text.Scan.{same_bytes, mark_at, mark_lexeme}
use Rattle.lexemes.specs.Codes.{mark_code, kind_found, mark_token, pairs, singles}
use Rattle.lexemes.specs.Lexemes.{lexeme_of}
use Rattle.classes.specs.Laws.Runs.{and_left, and_right}
use Rattle.lexemes.specs.Laws.Spellings.{all_take, same_code, spelled, is_byte, mark_digits}
use Rattle.lexemes.specs.declared.lexemes.Lexeme.{Lexeme}
use Rattle.lexemes.specs.declared.lexemes.Misspelling.{Misspelling}
use Rattle.lexemes.specs.declared.lexemes.Misspelling.TheVariants.{NotAllowed}

-- spellings of k bytes
unfoldable pub sized : ℕ → List Spelling → Bool
sized k [] = true
sized k (s ∷ ss) = eqb (length s.written) k && sized k ss

-- a mark of k bytes of a kind that is found, or the rest
abbrev pub marked : ℕ → Option ℕ → Result Lexeme Misspelling → Result Lexeme Misspelling
marked k None rest = rest
marked k (Some n) rest = Ok (mark_token n (k - 1))

mark_by : (k p : ℕ) (ss rest : List Spelling) (l : List ℕ) → sized k ss ≡ true → spelled is_byte ss ≡ true → all is_byte (take k l) ≡ true
    → lexeme_of (mark_lexeme p (mark_at (ss ++ rest) l)) ≡ marked k (kind_found mark_code (mark_code (take k l)) ss) (lexeme_of (mark_lexeme p (mark_at rest l)))
unfolding sized spelled mark_at kind_found mark_lexeme
mark_by k p [] rest l hk hs hl = refl
mark_by k p (s ∷ ss) rest l hk hs hl =
    go (eqb (mark_code (take k l)) (mark_code s.written)) refl
    (mark_by k p ss rest l (and_right (eqb (length s.written) k) (sized k ss) hk)
    (and_right (all is_byte s.written) (spelled is_byte ss) hs) hl)
  where
    size : length s.written ≡ k
    size = eqb-true _ _ (and_left (eqb (length s.written) k) (sized k ss) hk)

    same : same_bytes s.written (take (length s.written) l) ≡ eqb (mark_code (take k l)) (mark_code s.written)
    same = rw size (same_code mark_digits s.written (take k l) (and_left (all is_byte s.written) (spelled is_byte ss) hs) hl)

    go : (r : Bool) → eqb (mark_code (take k l)) (mark_code s.written) ≡ r
        → lexeme_of (mark_lexeme p (mark_at (ss ++ rest) l)) ≡ marked k (kind_found mark_code (mark_code (take k l)) ss) (lexeme_of (mark_lexeme p (mark_at rest l)))
        → lexeme_of (mark_lexeme p (mark_at (s ∷ (ss ++ rest)) l))
        ≡ marked k (kind_found mark_code (mark_code (take k l)) (s ∷ ss)) (lexeme_of (mark_lexeme p (mark_at rest l)))
    go true e more = rw (mark_at, same ∙ e, kind_found, e) (ap (λ (n : ℕ). Ok (mark_token (kind_no s.kind) (n - 1))) size)
    go false e more = rw (mark_at, same ∙ e, kind_found, e) more

-- a text's mark: one of two bytes, or one of one byte, or none
pub mark_law : (p : ℕ) (l : List ℕ) → all is_byte l ≡ true
    → lexeme_of (mark_lexeme p (mark_at marks l))
    ≡ marked 2 (kind_found mark_code (mark_code (take 2 l)) pairs) (marked 1 (kind_found mark_code (mark_code (take 1 l)) singles) (Err NotAllowed))
unfolding sized spelled all mark_at mark_lexeme
mark_law p l h =
    mark_by 2 p pairs singles l refl refl (all_take is_byte 2 l h)
    ∙ ap (marked 2 (kind_found mark_code (mark_code (take 2 l)) pairs)) (mark_by 1 p singles [] l refl refl (all_take is_byte 1 l h))
