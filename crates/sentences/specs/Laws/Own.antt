-- "Every refusal number has its own sentence": the refusal numbers of document 01's table, and that no two of their sentences are the same.
-- Assumes nothing.
use Rattle.std.specs.Prelude.{ℕ, ◌≡◌, refl, Bool, true, false, ◌&&◌, not, List, [], ◌∷◌, eqb}
use Rattle.sentences.specs.Sentences.{among, call_sentences, token_sentences, grammar_sentences, declaration_sentences, body_sentences, whole_sentences, carrier_sentences}
use Rattle.sentences.specs.Sentences.{ten, sentence}

abbrev pub refusals : List ℕ
refusals =
    1 ∷ 2 ∷ 10 ∷ 11 ∷ 12 ∷ 13 ∷ 20 ∷ 21 ∷ 30 ∷ 31 ∷ 32 ∷ 33 ∷ 40 ∷ 41 ∷ 42 ∷ 43 ∷ 44 ∷ 45 ∷ 46 ∷ 50 ∷ 51 ∷ 52 ∷ 53 ∷ 60 ∷ 61 ∷ []

unfoldable pub same : List ℕ → List ℕ → Bool
same [] [] = true
same [] (y ∷ ys) = false
same (x ∷ xs) [] = false
same (x ∷ xs) (y ∷ ys) = eqb x y && same xs ys

-- a sentence is that of none of these numbers
unfoldable pub said_of_none : List ℕ → List ℕ → Bool
said_of_none s [] = true
said_of_none s (n ∷ ns) = not (same s (sentence n)) && said_of_none s ns

-- each of these numbers has a sentence, which no later one has
unfoldable pub all_own : List ℕ → Bool
all_own [] = true
all_own (n ∷ ns) = (not (same (sentence n) []) && said_of_none (sentence n) ns) && all_own ns

pub own_sentence : all_own refusals ≡ true
unfolding all_own said_of_none same sentence ten among call_sentences token_sentences grammar_sentences declaration_sentences body_sentences whole_sentences carrier_sentences
own_sentence = refl
