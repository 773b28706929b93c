-- The laws of a joined destination: what is cut up left to right gives, joined again, the lowest bits of the value; and the pieces are those
-- that a walk takes from the left, which knows only how many bits are left.
-- Assumes nothing.
use Rattle.std.specs.Prelude.{◌≡◌, ℕ, ◌-◌, ◌%◌, ◌^◌, List, [], ◌∷◌, refl}
use Rattle.std.proofs.Common.{sym}
use Rattle.std.proofs.Math.Nat.{mod-one, add-sub_cancel_left}
use Rattle.std.proofs.lemmas.Nat.{mod-pow-add}
use Rattle.rules.specs.Text.Tokens.{join}
use Rattle.rules.specs.Values.{op_number, field, total, cut}

-- the pieces xs, of the lengths ns, joined by `@`
unfoldable pub joined : List ℕ → List ℕ → ℕ
joined [] xs = 0
joined (n ∷ ns) [] = 0
joined (n ∷ ns) (x ∷ xs) = op_number join n x (total ns) (joined ns xs)

pub cut_joined : (ns : List ℕ) (v : ℕ) → joined ns (cut ns v) ≡ v % 2 ^ total ns
unfolding joined cut total field op_number
cut_joined [] v = sym (mod-one v)
cut_joined (n ∷ ns) v = rw (cut_joined ns v, mod-pow-add v n (total ns))

-- the pieces from the left, where `rest` bits are left
unfoldable pub pieces : List ℕ → ℕ → ℕ → List ℕ
pieces [] rest v = []
pieces (n ∷ ns) rest v = field (rest - n) n v ∷ pieces ns (rest - n) v

pub cut_pieces : (ns : List ℕ) (v : ℕ) → pieces ns (total ns) v ≡ cut ns v
unfolding pieces cut total
cut_pieces [] v = refl
cut_pieces (n ∷ ns) v = rw (add-sub_cancel_left, cut_pieces ns v)
