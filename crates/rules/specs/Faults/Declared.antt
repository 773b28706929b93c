-- The faults of the 30s: of the declarations.
use Rattle.std.specs.Prelude.{ℕ, ◌+◌, min, max, Bool, true, false, not, ◌&&◌, ◌||◌, List, [], ◌∷◌, ◌++◌, leb, ltb, eqb}
use Rattle.std.proofs.Math.Option.{Option, none, some}
use Rattle.std.proofs.Math.ListN.{get_elem?}
use Rattle.rules.specs.Limits.{largest_name, most_declarations, most_words, most_bits}
use Rattle.rules.specs.Text.Scan.{same_bytes}
use Rattle.rules.specs.Declarations.{Word, Names, how_many, BitNames, one_unnamed, these, bit_count, Target, Declared, Table, number_of, words_of}
use Rattle.rules.specs.Faults.Fault.{Fault, when}

-- 30: "name declared twice, outer name included"; the names before it are known
unfoldable pub is_known : Word → List Word → Bool
is_known n [] = false
is_known n (m ∷ ms) = same_bytes m n || is_known n ms

unfoldable pub twice : List Word → Table → List Fault
twice known [] = []
twice known (d ∷ ds) = when (is_known d.name.word known) 30 d.name.place ++ twice (d.name.word ∷ known) ds

-- 31: "over 64 bits, or a declared bit or word name over 4,095"
abbrev pub far_names : Names → Bool
far_names s = ltb largest_name (max s.left s.right)

abbrev pub large_bits : Option BitNames → Bool
large_bits none = false
large_bits (some one_unnamed) = false
large_bits (some (these s)) = ltb most_bits (how_many s) || far_names s

abbrev pub large_words : Option Names → Bool
large_words none = false
large_words (some s) = far_names s

unfoldable pub large : Table → List Fault
large [] = []
large (d ∷ ds) = when (large_bits d.bits || large_words d.words) 31 d.name.place ++ large ds

-- 32: "over 256 declarations, or 4,096 words in total": at the declaration with which the number, or the total, passes
unfoldable pub too_many : ℕ → ℕ → Table → List Fault
too_many n w [] = []
too_many n w (d ∷ ds) =
    when (ltb most_declarations (n + 1) || ltb most_words (w + words_of d)) 32 d.name.place ++ too_many (n + 1) (w + words_of d) ds

-- whether bits lie inside the declared ones and run the same way; one bit runs both ways
unfoldable pub among : Names → ℕ → Bool
among s n = leb (min s.left s.right) n && leb n (max s.left s.right)

abbrev pub same_way : Bool → Bool → Bool
same_way true b = b
same_way false b = not b

unfoldable pub inside : BitNames → Names → Bool
inside one_unnamed s = false
inside (these b) s =
    among b s.left && (among b s.right && (eqb s.left s.right || same_way (leb b.left b.right) (leb s.left s.right)))

-- 33: what a mapping lies on, "a name declared twice means its first" and the outer name is declared first of all
abbrev pub fits : Option BitNames → Option BitNames → Names → Bool
fits none own s = false
fits (some c) none s = false
fits (some c) (some b) s = inside c s && eqb (bit_count b) (how_many s)

abbrev pub good_target : Option BitNames → Names → Option Declared → Bool
good_target own s none = false
good_target own s (some d) = elim d.words [ none ↦ elim d.target [ none ↦ fits d.bits own s | some t ↦ false ] | some w ↦ false ]

abbrev pub declared_at : Table → Option ℕ → Option Declared
declared_at ds none = none
declared_at ds (some i) = get_elem? ds i

unfoldable pub bad_mapping : Word → Table → Declared → Option Target → Bool
bad_mapping outer ds d none = false
bad_mapping outer ds d (some t) = same_bytes outer t.name.word || not (good_target d.bits t.bits (declared_at ds (number_of ds t.name.word)))

unfoldable pub mappings : Word → Table → Table → List Fault
mappings outer all [] = []
mappings outer all (d ∷ ds) = when (bad_mapping outer all d d.target) 33 d.name.place ++ mappings outer all ds

unfoldable pub faults30 : Word → Table → List Fault
faults30 outer ds = twice (outer ∷ []) ds ++ (large ds ++ (too_many 0 0 ds ++ mappings outer ds ds))
