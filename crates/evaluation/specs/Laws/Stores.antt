-- Laws of stores: of one field, and what a turn of the loop keeps of the others.
-- Assumes nothing.
use Rattle.std.specs.Prelude.{ℕ, suc, ◌+◌, ◌-◌, ◌*◌, ◌/◌, ◌%◌, ◌^◌, ◌<◌, ◌≤◌, ◌≡◌, refl, get_or, set}
use Rattle.std.proofs.Common.{sym, ◌∙◌, subst, arith}
use Rattle.std.proofs.Math.Path.{ap, ap₂}
use mathlib.Core.List.{List, [], ◌∷◌, ◌++◌}
use Rattle.std.proofs.Math.Nat.{mod-mod}
use Rattle.std.proofs.Math.ListN.{length}
use Rattle.cells.specs.Cells as bytes
use Rattle.cells.specs.Cells.{cells, put_cell}
use Rattle.cells.proofs.Laws.{le_put_same, le_put_below, length_put, cells_get, cells_put}
use Rattle.rules.specs.Values.{field, with_field, total, cut}
use Rattle.rules.specs.Limits.{most_bits}
use Rattle.rules.specs.Declarations.{total_words}
use Rattle.rules.specs.Steps.Evaluation.{Carriers, Field, write_field, store_all}
use Rattle.values.specs.Laws.Cuts.{pieces, cut_pieces}
use Rattle.operands.specs.Cells.{cell_first, cell_low, cell_bits}
use Rattle.operands.specs.Worths.{Within}
use Rattle.evaluation.specs.Stores.{Kept, Packs, Put, sizes, StoresAt, AllWithin, StoresAnswer}

-- a put behind them leaves them, and adds one
module _ (b : List ℕ) (n x : ℕ) where
  kept_put : (k : ℕ) (fs : List Field) → k + length fs ≤ n → Kept b k fs → Kept (put_cell 8 b n x) k fs
  kept_put k [] h q = tt
  kept_put k (f ∷ fs) h q =
      (subst (λ c. Packs c f) (sym (le_put_below 8 8 b (8 * n) x (8 * k) (omega arith))) q.0, kept_put (k + 1) fs (omega arith) q.1)

kept_end : (b : List ℕ) (k : ℕ) (fs : List Field) (f : Field) → Packs (bytes.cell 8 b (k + length fs)) f → Kept b k fs → Kept b k (fs ++ (f ∷ []))
kept_end b k [] f p q = let e : k + 0 ≡ k = omega arith in (subst (λ i. Packs (bytes.cell 8 b i) f) e p, tt)
kept_end b k (g ∷ fs) f p q =
    let e : k + suc (length fs) ≡ k + 1 + length fs = omega arith in
    (q.0, kept_end b (k + 1) fs f (subst (λ i. Packs (bytes.cell 8 b i) f) e p) q.1)

pub kept_more : (b : List ℕ) (fs : List Field) (f : Field) (n x : ℕ) → n ≡ length fs → 8 * n + 8 ≤ length b → x < 2 ^ 64 → Packs x f → Kept b 0 fs
    → Kept (put_cell 8 b n x) 0 (fs ++ (f ∷ []))
kept_more b fs f n x e room fits p q =
    let i : 0 + length fs ≡ n = omega arith in
    let same : bytes.cell 8 (put_cell 8 b n x) n ≡ x = le_put_same 8 b (8 * n) x (omega arith) fits in
    kept_end (put_cell 8 b n x) 0 fs f (rw (i, same) p) (kept_put b n x 0 fs (omega arith) q)

pub put_by : {before after : List ℕ} {word low size x old new : ℕ} → old ≡ bytes.cell 8 before word → new ≡ with_field low size old x
    → after ≡ put_cell 8 before word new → new < 2 ^ 64 → Put before after word low size x
put_by {before} {after} {word} {low} {size} {x} e f g h =
    let same = f ∙ ap (λ w. with_field low size w x) e in
    record { is = g ∙ ap (put_cell 8 before word) same; fits = subst (λ y. y < 2 ^ 64) same h }

module _ (n : ℕ) (before after : List ℕ) (f : Field) (x : ℕ) (p : Put before after f.word f.low f.size x) where
  pub put_length : length after ≡ length before
  put_length = ap length p.is ∙ length_put 8 before (8 * f.word) (with_field f.low f.size (bytes.cell 8 before f.word) x)

  pub put_writes : f.word < n → 8 * n ≤ length before → cells 8 n after ≡ write_field (cells 8 n before) f x
  put_writes h room =
      ap (cells 8 n) p.is
      ∙ cells_put 8 n before f.word (with_field f.low f.size (bytes.cell 8 before f.word) x) h room p.fits
      ∙ ap (λ w. set (cells 8 n before) f.word (with_field f.low f.size w x)) (sym (cells_get 8 n before f.word h))

-- a single field takes the lowest bits of the value as it is
single_low : (low size w x : ℕ) → with_field low size w (field 0 size x) ≡ with_field low size w x
unfolding with_field field
single_low low size w x =
    let e : x / 2 ^ 0 ≡ x = omega arith in
    ap (λ y. w / 2 ^ (low + size) * 2 ^ (low + size) + y * 2 ^ low + w % 2 ^ low) (ap (λ y. y % 2 ^ size % 2 ^ size) e ∙ mod-mod x (2 ^ size))

pub single_store : (s : Carriers) (f : Field) (x : ℕ) → store_all s (f ∷ []) (cut (sizes (f ∷ [])) x) ≡ write_field s f x
unfolding store_all cut total
single_store s f x = ap (set s f.word) (single_low f.low f.size (get_or s f.word 0) x)

-- on the way: k are stored, and `rest` bits are left
pub record Storing {carriers scratch : List ℕ} {count bits : ℕ} (v : StoresAt carriers scratch count bits) (x : ℕ) (now : List ℕ) (k rest : ℕ) : Type 0 where
  pub left : List Field
  pub counts : k + length left ≡ count
  pub kept : Kept scratch k left
  pub within : AllWithin v.table left
  pub left_bits : rest ≡ total (sizes left)
  pub short : rest ≤ most_bits
  pub long : length now ≡ length carriers
  pub same : store_all (cells 8 (total_words v.table) now) left (pieces (sizes left) rest x)
      ≡ store_all (cells 8 (total_words v.table) carriers) v.fields (cut (sizes v.fields) x)

module _ {carriers scratch : List ℕ} {count bits : ℕ} (v : StoresAt carriers scratch count bits) (x : ℕ) where
  unfoldable pub storing : Storing v x carriers 0 bits
  storing = record {
    left = v.fields;
    counts = omega (arith, v.counts);
    kept = v.kept;
    within = v.within;
    left_bits = v.total_bits;
    short = v.short;
    long = refl;
    same = ap (store_all (cells 8 (total_words v.table) carriers) v.fields) (ap (λ n. pieces (sizes v.fields) n x) v.total_bits ∙ cut_pieces (sizes v.fields) x);
  }

  module _ {now : List ℕ} {k rest : ℕ} (s : Storing v x now k rest) where
    pub stored_all : count ≤ k → StoresAnswer v x now
    unfolding store_all pieces
    stored_all h = go s.left s.counts s.same
      where
        go : (fs : List Field) → k + length fs ≡ count
            → store_all (cells 8 (total_words v.table) now) fs (pieces (sizes fs) rest x)
            ≡ store_all (cells 8 (total_words v.table) carriers) v.fields (cut (sizes v.fields) x)
            → StoresAnswer v x now
        go [] c e = (e, s.long)
        go (f ∷ fs) c e = absurd (omega arith)

    -- the next one
    pub record Next : Type 0 where
      pub field_next : Field
      pub more : List Field
      pub are : s.left ≡ field_next ∷ more
      pub packs : Packs (bytes.cell 8 scratch k) field_next
      pub kept : Kept scratch (k + 1) more
      pub inside : Within v.table field_next
      pub within : AllWithin v.table more

    pub next_field : k < count → Next
    next_field h = go s.left refl s.counts s.kept s.within
      where
        go : (fs : List Field) → s.left ≡ fs → k + length fs ≡ count → Kept scratch k fs → AllWithin v.table fs → Next
        go [] e c q w = absurd (omega arith)
        go (f ∷ fs) e c q w = record { field_next = f; more = fs; are = e; packs = q.0; kept = q.1; inside = w.0; within = w.1 }

    module _ (h : k < count) {c : ℕ} (e : c ≡ bytes.cell 8 scratch k) where
      abbrev n : Next
      n = next_field h

      pub packed : Packs c n.field_next
      packed = subst (λ c. Packs c n.field_next) (sym e) n.packs

      pub left_split : rest ≡ n.field_next.size + total (sizes n.more)
      unfolding total
      left_split = s.left_bits ∙ ap (λ fs. total (sizes fs)) n.are

      pub part_fits : (0 < cell_bits c) × (cell_bits c ≤ rest) × (rest ≤ most_bits)
      part_fits = (omega (arith, packed.size, n.inside.some), omega (arith, packed.size, left_split), s.short)

      pub store_fits : (8 * cell_first c + 8 ≤ length now) × ((cell_low c < most_bits) × (cell_low c + cell_bits c ≤ most_bits))
      store_fits = (
        omega (arith, packed.word, n.inside.word, v.words, s.long),
        (omega (arith, packed.low, n.inside.some, n.inside.fits), omega (arith, packed.low, packed.size, n.inside.fits)),
      )

      module _ {after : List ℕ} (p : Put now after (cell_first c) (cell_low c) (cell_bits c) (field (rest - cell_bits c) (cell_bits c) x)) where
        abbrev piece : ℕ
        piece = field (rest - n.field_next.size) n.field_next.size x

        pub put_next : Put now after n.field_next.word n.field_next.low n.field_next.size piece
        put_next = rw (sym packed.word, sym packed.low, sym packed.size) p

        pub turn_writes : cells 8 (total_words v.table) after ≡ write_field (cells 8 (total_words v.table) now) n.field_next piece
        turn_writes = put_writes (total_words v.table) now after n.field_next piece put_next n.inside.word (omega (arith, v.words, s.long))

        unfoldable pub stored_turn : Storing v x after (k + 1) (rest - cell_bits c)
        unfolding store_all pieces
        stored_turn = record {
          left = n.more;
          counts = omega (arith, s.counts, ap length n.are);
          kept = n.kept;
          within = n.within;
          left_bits = omega (arith, packed.size, left_split);
          short = omega (arith, s.short);
          long = put_length (total_words v.table) now after n.field_next piece put_next ∙ s.long;
          same =
              ap₂ (λ t z. store_all t n.more (pieces (sizes n.more) z x)) turn_writes (ap (λ z. rest - z) packed.size)
              ∙ ap (λ fs. store_all (cells 8 (total_words v.table) now) fs (pieces (sizes fs) rest x)) (sym n.are)
              ∙ s.same;
        }
