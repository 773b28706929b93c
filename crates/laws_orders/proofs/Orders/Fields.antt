-- Reading and storing bits of words: what is read, and what a store changes, for fields that lie in a set of words.
use Rattle.std.specs.Prelude.{ℕ, zero, suc, ◌+◌, ◌*◌, ◌/◌, ◌%◌, ◌^◌, ◌≡◌, refl, true, false, List, [], ◌∷◌, ◌⊎◌, length, get_or, set}
use Rattle.std.proofs.Common.{sym, ◌∙◌, ap, true≢false, inl, inr, div-add-mod', arith, length-set, get_or-set_other}
use Rattle.std.proofs.Math.Nat.{mod-one}
use Rattle.std.proofs.lemmas.List.{set-get_or}
use Rattle.rules.specs.Values.{value, field, with_field}
use Rattle.rules.specs.Steps.Evaluation.{Carriers, Field, read_field, write_field, store_all}
use Rattle.laws_orders.proofs.Orders.Foot.{Cells, Within}
use Rattle.laws_orders.proofs.Orders.Effect.{Agree}

-- here a cell is a word
abbrev pub word : Carriers → ℕ → ℕ
word s i = get_or s i 0

-- a field of no bits, or in a word of the set
abbrev pub Lands : Cells → Field → Type 0
Lands F f = (f.size ≡ 0) ⊎ (F f.word ≡ true)

abbrev pub AllLand : Cells → List Field → Type 0
AllLand F [] = Unit {0}
AllLand F (f ∷ fs) = Lands F f × AllLand F fs

pub lands_more : {F G : Cells} → Within F G → (f : Field) → Lands F f → Lands G f
lands_more w f (inl e) = inl e
lands_more w f (inr e) = inr (w f.word e)

pub all_land_more : {F G : Cells} → Within F G → (fs : List Field) → AllLand F fs → AllLand G fs
all_land_more w [] h = tt
all_land_more w (f ∷ fs) h = (lands_more w f h.0, all_land_more w fs h.1)

no_bits_read : (low n : ℕ) → field low 0 n ≡ 0
unfolding field
no_bits_read low n = mod-one (n / 2 ^ low)

read_nothing : (f : Field) (n : ℕ) → f.size ≡ 0 → field f.low f.size n ≡ 0
read_nothing f n e = ap (λ z. field f.low z n) e ∙ no_bits_read f.low n

no_bits_stored : (low n v : ℕ) → with_field low 0 n v ≡ n
unfolding with_field
no_bits_stored low n v =
    let a : low + 0 ≡ low = omega arith in
    let b : v % 1 ≡ 0 = mod-one v in
    let c : n / 2 ^ low * 2 ^ low + n % 2 ^ low ≡ n = div-add-mod' n (2 ^ low) in
    rw (a, b) (omega arith)

store_nothing : (s : Carriers) (f : Field) (v : ℕ) → f.size ≡ 0 → write_field s f v ≡ s
store_nothing s f v e =
    ap (λ z. set s f.word (with_field f.low z (word s f.word) v)) e
    ∙ (ap (set s f.word) (no_bits_stored f.low (word s f.word) v) ∙ set-get_or s f.word 0)

pub read_agrees : (F : Cells) (s u : Carriers) (f : Field) → Lands F f → Agree word F s u → read_field s f ≡ read_field u f
read_agrees F s u f (inl e) a = ap (value f.size) (read_nothing f (word s f.word) e ∙ sym (read_nothing f (word u f.word) e))
read_agrees F s u f (inr e) a = ap (λ n. value f.size (field f.low f.size n)) (a f.word e)

store_keeps : (F : Cells) (s : Carriers) (f : Field) (v i : ℕ) → Lands F f → F i ≡ false → word (write_field s f v) i ≡ word s i
store_keeps F s f v i (inl e) h = ap (λ z. word z i) (store_nothing s f v e)
store_keeps F s f v i (inr e) h =
    get_or-set_other s f.word i (with_field f.low f.size (word s f.word) v) 0 (λ q. true≢false (sym e ∙ (ap F (sym q) ∙ h)))

set_agrees : (s u : Carriers) (k x i : ℕ) → length s ≡ length u → word s i ≡ word u i → word (set s k x) i ≡ word (set u k x) i
set_agrees [] [] k x i l a = refl
set_agrees [] (c ∷ u) k x i l a = absurd (omega arith)
set_agrees (b ∷ s) [] k x i l a = absurd (omega arith)
set_agrees (b ∷ s) (c ∷ u) zero x zero l a = refl
set_agrees (b ∷ s) (c ∷ u) zero x (suc i) l a = a
set_agrees (b ∷ s) (c ∷ u) (suc k) x zero l a = a
set_agrees (b ∷ s) (c ∷ u) (suc k) x (suc i) l a = set_agrees s u k x i (omega arith) a

store_agrees :
    (F : Cells) (s u : Carriers) (f : Field) (v : ℕ) → length s ≡ length u → Lands F f → Agree word F s u
    → Agree word F (write_field s f v) (write_field u f v)
store_agrees F s u f v l (inl e) a i h = ap (λ z. word z i) (store_nothing s f v e) ∙ (a i h ∙ ap (λ z. word z i) (sym (store_nothing u f v e)))
store_agrees F s u f v l (inr e) a i h =
    ap (λ n. word (set s f.word (with_field f.low f.size n v)) i) (a f.word e) ∙ set_agrees s u f.word _ i l (a i h)

pub stores_length : (s : Carriers) (fs : List Field) (vs : List ℕ) → length (store_all s fs vs) ≡ length s
unfolding store_all
stores_length s [] vs = refl
stores_length s (f ∷ fs) [] = refl
stores_length s (f ∷ fs) (v ∷ vs) = stores_length (write_field s f v) fs vs ∙ length-set s f.word _

pub stores_keep : (F : Cells) (s : Carriers) (fs : List Field) (vs : List ℕ) (i : ℕ) → AllLand F fs → F i ≡ false → word (store_all s fs vs) i ≡ word s i
unfolding store_all
stores_keep F s [] vs i h e = refl
stores_keep F s (f ∷ fs) [] i h e = refl
stores_keep F s (f ∷ fs) (v ∷ vs) i h e = stores_keep F (write_field s f v) fs vs i h.1 e ∙ store_keeps F s f v i h.0 e

pub stores_agree :
    (F : Cells) (s u : Carriers) (fs : List Field) (vs : List ℕ) → length s ≡ length u → AllLand F fs
    → Agree word F s u → Agree word F (store_all s fs vs) (store_all u fs vs)
unfolding store_all
stores_agree F s u [] vs l h a = a
stores_agree F s u (f ∷ fs) [] l h a = a
stores_agree F s u (f ∷ fs) (v ∷ vs) l h a =
    stores_agree F (write_field s f v) (write_field u f v) fs vs (length-set s f.word _ ∙ (l ∙ sym (length-set u f.word _))) h.1
    (store_agrees F s u f v l h.0 a)
