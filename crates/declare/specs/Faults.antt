-- The tests of the 30s for one declaration.
use Rattle.std.specs.Prelude.{ℕ, ◌+◌, Bool, true, false, ◌||◌, List, [], ◌∷◌, ltb}
use Rattle.rules.specs.Declarations.{Word, Declared, Table, words_of}
use Rattle.rules.specs.Faults.Declared.{is_known, large_bits, large_words, bad_mapping}
use Rattle.rules.specs.Limits.{most_declarations, most_words}

-- the names that are known behind declarations, the latest first
unfoldable pub known_behind : List Word → Table → List Word
known_behind known [] = known
known_behind known (d ∷ ds) = known_behind (d.name.word ∷ known) ds

abbrev pub is_large : Declared → Bool
is_large d = large_bits d.bits || large_words d.words

-- behind n declarations with w words
abbrev pub is_too_many : ℕ → ℕ → Declared → Bool
is_too_many n w d = ltb most_declarations (n + 1) || ltb most_words (w + words_of d)

-- n where a test holds
abbrev pub number_or : Bool → ℕ → ℕ → ℕ
number_or true n r = n
number_or false n r = r

-- The least number of a declaration's faults, or 0; `known` are the names before it, n the declarations and w their words.
unfoldable pub own_number : Word → Table → List Word → ℕ → ℕ → Declared → ℕ
own_number outer all known n w d =
    number_or (is_known d.name.word known) 30
    (number_or (is_large d) 31 (number_or (is_too_many n w d) 32 (number_or (bad_mapping outer all d d.target) 33 0)))
