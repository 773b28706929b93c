-- What the two sides see of what they share: the same words. And each side finds its words as long as it declares them.
-- Assumes nothing.
use Rattle.std.specs.Prelude.{ℕ, zero, suc, ◌+◌, ◌<◌, ◌≡◌, true, List, [], ◌∷◌, ◌++◌, length, get_or, take, drop, replicate}
use Rattle.std.proofs.Math.Path.{refl}
use Rattle.std.proofs.Common.{sym, ap, ap₂, ◌∙◌, subst, true≢false, append_assoc, zero-add, add_assoc, arith, length-append, get_or-append-add, get_or-drop, take_at, drop_at, drop-drop}
use Rattle.std.proofs.Math.Option.{Option, none, some}
use Rattle.std.proofs.Math.ListN.{get_elem?, get_or-append}
use Rattle.std.proofs.lemmas.List.{length-replicate, get_or-replicate}
use Rattle.rules.specs.Declarations.{BitNames, one_unnamed, these, bit_count, Declared, Table, words_of, total_words, first_word}
use Rattle.rules.specs.Answers.{length_of, word_lengths}
use Rattle.rules.specs.Pair.{same_words, same_bits_of, same_own_bits, same_shape, same_storage, shared_with, unshared, joint, up_from, first_words, words_at, first_side, second_side, side_of, seen}
use Rattle.laws_orders.proofs.Orders.Tests.{impossible}
use Rattle.laws_accepted.proofs.Accepted.Named.{and_both}
use Rattle.pairs.specs.Laws.Views.{up_length, up_at, seen_front}
use Rattle.pairs.specs.Laws.Sharing.{Found, found, same_names, same_count, first_fits}

-- a word of a declaration lies as far behind the declaration's first word in the table as behind its first word in its own text
pub word_at_lem : (ds : Table) (fs : List ℕ) (i k : ℕ) (d : Declared) → get_elem? ds i ≡ some d → length fs ≡ length ds → k < words_of d
    → get_or (words_at ds fs) (first_word ds i + k) 0 ≡ get_or fs i 0 + k
unfolding words_at first_word
word_at_lem [] fs i k d e l h = impossible (cc)
word_at_lem (x ∷ ds) [] i k d e l h = absurd (omega arith)
word_at_lem (x ∷ ds) (f ∷ fs) zero k d e l h =
    let q : d ≡ x = cc in
    let b : k < words_of x = subst (λ (z : Declared). k < words_of z) q h in
    let z : 0 + k ≡ k = omega arith in
    ap (λ j. get_or (up_from (words_of x) f ++ words_at ds fs) j 0) z
    ∙ get_or-append (up_from (words_of x) f) (words_at ds fs) 0 k (let n = up_length (words_of x) f in omega (arith, n, b)) ∙ up_at (words_of x) f k b
word_at_lem (x ∷ ds) (f ∷ fs) (suc i) k d e l h =
    let n = up_length (words_of x) f in
    let z : words_of x + first_word ds i + k ≡ length (up_from (words_of x) f) + (first_word ds i + k) = omega (arith, n) in
    ap (λ j. get_or (up_from (words_of x) f ++ words_at ds fs) j 0) z
    ∙ get_or-append-add (up_from (words_of x) f) (words_at ds fs) (first_word ds i + k) 0 ∙ word_at_lem ds fs i k d e (omega arith) h

pub firsts_length : (first : Table) (free : ℕ) (ds : Table) → length (first_words first free ds) ≡ length ds
unfolding first_words
firsts_length first free [] = refl
firsts_length first free (d ∷ ds) = by (shared_with first d) (λ g. firsts_length first g ds)
  where
    by : (o : Option ℕ) → ((g : ℕ) → length (first_words first g ds) ≡ length ds)
        → length {A = ℕ} (elim o [ some i ↦ first_word first i ∷ first_words first free ds | none ↦ free ∷ first_words first (free + words_of d) ds ]) ≡ suc (length ds)
    by none h = ap suc (h (free + words_of d))
    by (some i) h = ap suc (h free)

-- the first word of a shared carrier is the first text's
first_shared : (first : Table) (free : ℕ) (ds : Table) (j i : ℕ) (d : Declared) → get_elem? ds j ≡ some d → shared_with first d ≡ some i
    → get_or (first_words first free ds) j 0 ≡ first_word first i
unfolding first_words
first_shared first free [] j i d e q = impossible (cc)
first_shared first free (x ∷ ds) zero i d e q = by (shared_with first x) refl
  where
    is : x ≡ d
    is = cc (e)

    by : (o : Option ℕ) → shared_with first x ≡ o
        → get_or (elim o [ some k ↦ first_word first k ∷ first_words first free ds | none ↦ free ∷ first_words first (free + words_of x) ds ]) 0 0 ≡ first_word first i
    by none p = let z : some i ≡ none = sym q ∙ ap (shared_with first) (sym is) ∙ p in impossible (cc)
    by (some k) p = let z : some i ≡ some k = sym q ∙ ap (shared_with first) (sym is) ∙ p in let y : k ≡ i = cc in ap (first_word first) y
first_shared first free (x ∷ ds) (suc j) i d e q = by (shared_with first x) (λ g. first_shared first g ds j i d e q)
  where
    by : (o : Option ℕ) → ((g : ℕ) → get_or (first_words first g ds) j 0 ≡ first_word first i)
        → get_or (elim o [ some k ↦ first_word first k ∷ first_words first free ds | none ↦ free ∷ first_words first (free + words_of x) ds ]) (suc j) 0 ≡ first_word first i
    by none h = h (free + words_of x)
    by (some k) h = h free

-- SHARED: word k of a shared carrier is, for both sides, word k of the first text's
pub shared_word : (first second : Table) (i j k : ℕ) (d : Declared) → get_elem? second j ≡ some d → shared_with first d ≡ some i → k < words_of d
    → get_or (second_side first second).view (first_word second j + k) 0 ≡ first_word first i + k
shared_word first second i j k d e q h =
    word_at_lem second (first_words first (total_words first) second) j k d e (firsts_length first (total_words first) second) h
    ∙ ap (λ z. z + k) (first_shared first (total_words first) second j i d e q)

pub first_word_lem : (first : Table) (w : ℕ) → w < total_words first → get_or (first_side first).view w 0 ≡ w
first_word_lem first w h = up_at (total_words first) 0 w h ∙ (let e : 0 + w ≡ w = omega arith in e)

pub shared_alike : (first second : Table) (i j k : ℕ) (d : Declared) → get_elem? second j ≡ some d → shared_with first d ≡ some i → k < words_of d
    → get_or (first_side first).view (first_word first i + k) 0 ≡ get_or (second_side first second).view (first_word second j + k) 0
shared_alike first second i j k d e q h =
    let f = found first d i q in
    let n : words_of f.carrier ≡ words_of d = same_count f.carrier d f.same in
    let l = first_fits first i f.carrier f.declared in
    first_word_lem first (first_word first i + k) (omega (arith, n, l, h)) ∙ sym (shared_word first second i j k d e q h)

-- as long on both sides
same_bits : (a b : BitNames) → same_bits_of a b ≡ true → bit_count a ≡ bit_count b
unfolding bit_count
same_bits one_unnamed one_unnamed e = refl
same_bits one_unnamed (these b) e = absurd (true≢false (sym e))
same_bits (these a) one_unnamed e = absurd (true≢false (sym e))
same_bits (these a) (these b) e = same_names a b e

same_own_bits_lem : (a b : Option BitNames) → same_own_bits a b ≡ true → length_of a ≡ length_of b
same_own_bits_lem none none e = refl
same_own_bits_lem none (some b) e = absurd (true≢false (sym e))
same_own_bits_lem (some a) none e = absurd (true≢false (sym e))
same_own_bits_lem (some a) (some b) e = same_bits a b e

same_length : {first : Table} {d : Declared} {i : ℕ} (f : Found first d i) → length_of f.carrier.bits ≡ length_of d.bits
same_length {d = d} f =
    let c = f.carrier in
    let a = and_both (same_storage c d) (same_shape c d) f.same in
    let w = and_both (same_words c.words d.words) (same_own_bits c.bits d.bits) a.1 in
    same_own_bits_lem c.bits d.bits w.1

-- the lengths of one declaration's words
abbrev row_of : Declared → List ℕ
row_of d = replicate (words_of d) (length_of d.bits)

row_length : (d : Declared) → length (row_of d) ≡ words_of d
row_length d = length-replicate (words_of d) (length_of d.bits)

pub lengths_append : (xs ys : Table) → word_lengths (xs ++ ys) ≡ word_lengths xs ++ word_lengths ys
unfolding word_lengths
lengths_append [] ys = refl
lengths_append (x ∷ xs) ys =
    ap (λ z. row_of x ++ z) (lengths_append xs ys) ∙ sym (append_assoc (row_of x) (word_lengths xs) (word_lengths ys))

pub lengths_count : (ds : Table) → length (word_lengths ds) ≡ total_words ds
unfolding word_lengths total_words
lengths_count [] = refl
lengths_count (d ∷ ds) =
    length-append (row_of d) (word_lengths ds) ∙ ap₂ (λ a b. a + b) (row_length d) (lengths_count ds)

row_at : (d : Declared) (k : ℕ) (more : List ℕ) → k < words_of d → get_or (row_of d ++ more) k 0 ≡ length_of d.bits
row_at d k more h =
    let n = row_length d in
    get_or-append (row_of d) more 0 k (omega (arith, n, h)) ∙ get_or-replicate (words_of d) k (length_of d.bits) 0 h

row_of_lem : (x c : Declared) (k : ℕ) (more : List ℕ) → x ≡ c → k < words_of c → get_or (row_of x ++ more) k 0 ≡ length_of c.bits
row_of_lem x c k more q h = row_at x k more (subst (λ (z : Declared). k < words_of z) (sym q) h) ∙ ap (λ (z : Declared). length_of z.bits) q

behind_row : (d : Declared) (j : ℕ) (more : List ℕ) → get_or (row_of d ++ more) (words_of d + j) 0 ≡ get_or more j 0
behind_row d j more = ap (λ n. get_or (row_of d ++ more) (n + j) 0) (sym (row_length d)) ∙ get_or-append-add (row_of d) more j 0

length_at : (first : Table) (i k : ℕ) (c : Declared) → get_elem? first i ≡ some c → k < words_of c → (more : List ℕ)
    → get_or (word_lengths first ++ more) (first_word first i + k) 0 ≡ length_of c.bits
unfolding word_lengths first_word
length_at [] i k c e h more = impossible (cc)
length_at (x ∷ first) zero k c e h more =
    ap₂ (λ l j. get_or l j 0) (append_assoc (row_of x) (word_lengths first) more) (zero-add k) ∙ row_of_lem x c k (word_lengths first ++ more) (cc) h
length_at (x ∷ first) (suc i) k c e h more =
    ap₂ (λ l j. get_or l j 0) (append_assoc (row_of x) (word_lengths first) more) (add_assoc (words_of x) (first_word first i) k)
    ∙ behind_row x (first_word first i + k) (word_lengths first ++ more) ∙ length_at first i k c e h more

-- words that are all as long
seen_row : (n i l : ℕ) (L : List ℕ) → ((k : ℕ) → k < n → get_or L (i + k) 0 ≡ l) → seen (up_from n i) L ≡ replicate n l
unfolding seen up_from
seen_row zero i l L h = refl
seen_row (suc n) i l L h =
    ap₂ (λ a b. a ∷ b) (ap (λ j. get_or L j 0) (let e : i ≡ i + 0 = omega arith in e) ∙ h 0 (omega arith))
    (seen_row n (suc i) l L (λ k b. ap (λ j. get_or L j 0) (let e : suc i + k ≡ i + suc k = omega arith in e) ∙ h (suc k) (omega arith)))

seen_both : (v w : List ℕ) (L : List ℕ) → seen (v ++ w) L ≡ seen v L ++ seen w L
unfolding seen
seen_both [] w L = refl
seen_both (i ∷ v) w L = ap (λ z. get_or L i 0 ∷ z) (seen_both v w L)

lengths_from : (first : Table) (L : List ℕ) → ((i k : ℕ) (c : Declared) → get_elem? first i ≡ some c → k < words_of c → get_or L (first_word first i + k) 0 ≡ length_of c.bits)
    → (free : ℕ) (ds : Table) → drop free L ≡ word_lengths (unshared first ds) → seen (words_at ds (first_words first free ds)) L ≡ word_lengths ds
unfolding first_words words_at unshared word_lengths
lengths_from first L h free [] e = unfold seen in refl
lengths_from first L h free (d ∷ ds) e = by (shared_with first d) refl e (λ g q. lengths_from first L h g ds q)
  where
    by : (o : Option ℕ) → shared_with first d ≡ o → drop free L ≡ word_lengths (elim o [ none ↦ d ∷ unshared first ds | some i ↦ unshared first ds ])
        → ((g : ℕ) → drop g L ≡ word_lengths (unshared first ds) → seen (words_at ds (first_words first g ds)) L ≡ word_lengths ds)
        → seen (words_at (d ∷ ds) (elim o [ some i ↦ first_word first i ∷ first_words first free ds | none ↦ free ∷ first_words first (free + words_of d) ds ])) L
        ≡ row_of d ++ word_lengths ds
    by none q z ih =
        seen_both (up_from (words_of d) free) _ L
        ∙ ap₂ (λ a b. a ++ b)
        (seen_row (words_of d) free (length_of d.bits) L (λ k b.
        sym (get_or-drop free L k 0) ∙ ap (λ l. get_or l k 0) z ∙ row_at d k (word_lengths (unshared first ds)) b))
        (ih (free + words_of d)
        (sym (drop-drop (words_of d) free L) ∙ ap (drop (words_of d)) z ∙ drop_at (row_of d) (word_lengths (unshared first ds)) (words_of d) (row_length d)))
    by (some i) q z ih =
        let f = found first d i q in
        let n : words_of f.carrier ≡ words_of d = same_count f.carrier d f.same in
        seen_both (up_from (words_of d) (first_word first i)) _ L
        ∙ ap₂ (λ a b. a ++ b)
        (seen_row (words_of d) (first_word first i) (length_of d.bits) L (λ k b. h i k f.carrier f.declared (omega (arith, n, b)) ∙ same_length f)) (ih free z)

-- AS LONG: the lengths of the table's words, as a side sees them, are those of its own words. So 61 of the table is 61 of each side.
pub seen_lengths : (first second : Table) (t : ℕ) → seen (side_of first second t).view (word_lengths (joint first second)) ≡ word_lengths (side_of first second t).declared
seen_lengths first second zero =
    let L = word_lengths (joint first second) in
    let split : L ≡ word_lengths first ++ word_lengths (unshared first second) = lengths_append first (unshared first second) in
    let n = lengths_count first in
    let m = ap length split ∙ length-append (word_lengths first) (word_lengths (unshared first second)) in
    seen_front (total_words first) L (omega (arith, n, m)) ∙ ap (take (total_words first)) split ∙ take_at (word_lengths first) _ (total_words first) n
seen_lengths first second (suc t) =
    let split : word_lengths (joint first second) ≡ word_lengths first ++ word_lengths (unshared first second) = lengths_append first (unshared first second) in
    lengths_from first (word_lengths (joint first second))
    (λ i k c e b. ap (λ l. get_or l (first_word first i + k) 0) split ∙ length_at first i k c e b (word_lengths (unshared first second)))
    (total_words first) second (ap (drop (total_words first)) split ∙ drop_at (word_lengths first) _ (total_words first) (lengths_count first))
