-- What stays shown while counts go up and frames are written.
use Rattle.std.specs.Prelude.{ℕ, suc, ◌+◌, ◌*◌, ◌-◌, ◌<◌, ◌≤◌, max, ◌≡◌, refl, List, [], ◌∷◌, ltb, length}
use Rattle.std.proofs.Common.{sym, ap, ◌∙◌, subst, arith, lt-ltb, le-ltb}
use Rattle.cells.specs.Cells.{cell, put_cell}
use Rattle.cells.proofs.Laws.{put_size, put_same, put_here}
use Rattle.rules.specs.Limits.{deepest}
use Rattle.bounds.specs.Cited.Counts.{endless, up}
use Rattle.bounds.proofs.WalkLaws.{up_low}
use Rattle.counting.specs.Machine.{Frame, State, opened, closed, another, counted, turned}
use Rattle.counting.specs.Holding.{FrameAt, Frames, no_frames, frames, Shows, Does}
use Rattle.counting.specs.declared.counts.Nest.{Nest}

abbrev pub nest : ℕ → ℕ → Nest
nest d x = record { depth = d; count = x }

-- a count that is put
pub count_here : (old new : List ℕ) (k v : ℕ) → new ≡ put_cell 8 old k v → 8 * k + 8 ≤ length old → v ≤ endless → cell 8 new k ≡ v
count_here old new k v put room low = put_here 8 old new k v put room (omega arith)

frames_kept : {old new : List ℕ} {fs : List Frame} → ((q : ℕ) → q < 2 * length fs → cell 8 new q ≡ cell 8 old q) → Frames old fs → Frames new fs
frames_kept s no_frames = no_frames
frames_kept s (frames {fs = fs} a r) =
    frames (record {
      base = s (2 * length fs) (omega arith) ∙ a.base;
      base_low = a.base_low;
      best = s (2 * length fs + 1) (omega arith) ∙ a.best;
      best_low = a.best_low;
    }) (frames_kept (λ q h. s q (omega arith)) r)

-- nothing is written
pub count_shown : {x : Nest} (k : ℕ) {c : ℕ} → c ≡ up x.count k → (room : List ℕ) → Does (counted k) room x room (nest x.depth c)
count_shown {x} k e room z s = record {
  space = s.space;
  depth_is = s.depth_is;
  shallow = s.shallow;
  count_is = e ∙ ap (λ y. up y k) s.count_is;
  low = omega (arith, up_low x.count k);
  frames = s.frames;
}

pub turn_shown : {x : Nest} → (room : List ℕ) → Does turned room x room (nest x.depth 4294967296)
turn_shown room z s = record { space = s.space; depth_is = s.depth_is; shallow = s.shallow; count_is = refl; low = omega arith; frames = s.frames }

-- BEGIN
abbrev Opens : List ℕ → Nest → List ℕ → Nest → Type 0
Opens old x new y = Does (λ z. opened (ltb (length z.frames) deepest) z) old x new y

pub too_deep : {room : List ℕ} {x : Nest} → 32 ≤ x.depth → Opens room x room (nest 0 x.count)
too_deep {room} {x} h z s =
    subst (λ b. Shows room (nest 0 x.count) (opened b z)) (sym (le-ltb (length z.frames) deepest (omega (arith, s.depth_is))))
    (record { space = s.space; depth_is = refl; shallow = omega arith; count_is = s.count_is; low = s.low; frames = no_frames })

pub open_shown : {old mid new : List ℕ} {x : Nest} → x.depth < 32 → mid ≡ put_cell 8 old (2 * x.depth) x.count → new ≡ put_cell 8 mid (2 * x.depth + 1) x.count
    → Opens old x new (nest (x.depth + 1) x.count)
open_shown {old} {mid} {new} {x} h p q z s =
    let d = x.depth in
    let c = x.count in
    let size = put_size 8 old mid (2 * d) c p in
    let size_now = put_size 8 mid new (2 * d + 1) c q in
    let deep : length z.frames ≡ d = sym s.depth_is in
    let base : cell 8 new (2 * d) ≡ z.count =
    put_same 8 mid new (2 * d + 1) c q (2 * d) (λ e. omega arith) ∙ (count_here old mid (2 * d) c p (omega (arith, s.space)) s.low ∙ s.count_is) in
    let best : cell 8 new (2 * d + 1) ≡ z.count = count_here mid new (2 * d + 1) c q (omega (arith, s.space, size)) s.low ∙ s.count_is in
    let low : z.count ≤ endless = omega (arith, s.count_is, s.low) in
    subst (λ b. Shows new (nest (d + 1) c) (opened b z)) (sym (lt-ltb (length z.frames) deepest (omega arith)))
    (record {
      space = omega (arith, s.space, size, size_now);
      depth_is = omega arith;
      shallow = omega arith;
      count_is = s.count_is;
      low = s.low;
      frames =
          frames (record {
            base = ap (λ j. cell 8 new (2 * j)) deep ∙ base;
            base_low = low;
            best = ap (λ j. cell 8 new (2 * j + 1)) deep ∙ best;
            best_low = low;
          })
          (frames_kept (λ j l. put_same 8 mid new (2 * d + 1) c q j (λ e. omega arith) ∙ put_same 8 old mid (2 * d) c p j (λ e. omega arith)) s.frames);
    })

-- the innermost frame, as it is read
record Inner (room : List ℕ) (x : Nest) (z : State) : Type 0 where
  frame_is : Frame
  others : List Frame
  is : z.frames ≡ frame_is ∷ others
  there : FrameAt room (length others) frame_is
  rest : Frames room others
  size : x.depth ≡ suc (length others)

inner : {room : List ℕ} {x : Nest} {z : State} → Shows room x z → (x.depth ≡ 0 → ⊥) → Inner room x z
inner {room} {x} {z} s n = by z.frames refl s.frames
  where
    by : (fs : List Frame) → z.frames ≡ fs → Frames room fs → Inner room x z
    by fs e no_frames = absurd (n (s.depth_is ∙ ap length e))
    by fs e (frames {f = f} {fs = others} a r) = record { frame_is = f; others = others; is = e; there = a; rest = r; size = s.depth_is ∙ ap length e }

none_there : (fs : List Frame) → length fs ≡ 0 → fs ≡ []
none_there [] e = refl
none_there (f ∷ fs) e = absurd (omega arith)

-- END
pub close_none : {room : List ℕ} {x : Nest} → x.depth ≡ 0 → Does (λ z. closed z.frames z) room x room x
close_none {room} {x} e z s = subst (λ fs. Shows room x (closed fs z)) (sym (none_there z.frames (sym s.depth_is ∙ e))) s

pub close_shown : {room : List ℕ} {x : Nest} {best c : ℕ} → (x.depth ≡ 0 → ⊥) → best ≡ cell 8 room (2 * x.depth - 1) → c ≡ max best x.count
    → Does (λ z. closed z.frames z) room x room (nest (x.depth - 1) c)
close_shown {room} {x} {best} {c} n b e z s =
    let y = inner s n in
    let at : 2 * x.depth - 1 ≡ 2 * length y.others + 1 = omega (arith, y.size) in
    let best_is : best ≡ y.frame_is.best = b ∙ (ap (cell 8 room) at ∙ y.there.best) in
    subst (λ fs. Shows room (nest (x.depth - 1) c) (closed fs z)) (sym y.is)
    (record {
      space = s.space;
      depth_is = omega (arith, y.size);
      shallow = omega (arith, s.shallow);
      count_is = omega (arith, s.count_is);
      low = omega (arith, s.low, y.there.best_low);
      frames = y.rest;
    })

-- `,`
pub another_none : {room : List ℕ} {x : Nest} → x.depth ≡ 0 → Does (λ z. another z.frames z) room x room x
another_none {room} {x} e z s = subst (λ fs. Shows room x (another fs z)) (sym (none_there z.frames (sym s.depth_is ∙ e))) s

pub another_shown : {old new : List ℕ} {x : Nest} {base best c : ℕ} → (x.depth ≡ 0 → ⊥) → base ≡ cell 8 old (2 * x.depth - 1 - 1) → best ≡ cell 8 old (2 * x.depth - 1)
    → c ≡ max best x.count → new ≡ put_cell 8 old (2 * x.depth - 1) c → Does (λ z. another z.frames z) old x new (nest x.depth base)
another_shown {old} {new} {x} {base} {best} {c} n a b e p z s =
    let y = inner s n in
    let k = length y.others in
    let at : 2 * x.depth - 1 ≡ 2 * k + 1 = omega (arith, y.size) in
    let at_base : 2 * x.depth - 1 - 1 ≡ 2 * k = omega (arith, y.size) in
    let base_is : base ≡ y.frame_is.base = a ∙ (ap (cell 8 old) at_base ∙ y.there.base) in
    let best_is : best ≡ y.frame_is.best = b ∙ (ap (cell 8 old) at ∙ y.there.best) in
    let put : new ≡ put_cell 8 old (2 * k + 1) c = p ∙ ap (λ j. put_cell 8 old j c) at in
    let size = put_size 8 old new (2 * k + 1) c put in
    let low : c ≤ endless = omega (arith, s.low, y.there.best_low) in
    let dearest : c ≡ max y.frame_is.best z.count = omega (arith, s.count_is) in
    subst (λ fs. Shows new (nest x.depth base) (another fs z)) (sym y.is)
    (record {
      space = omega (arith, s.space);
      depth_is = y.size;
      shallow = s.shallow;
      count_is = base_is;
      low = omega (arith, y.there.base_low);
      frames =
          frames (record {
            base = put_same 8 old new (2 * k + 1) c put (2 * k) (λ e. omega arith) ∙ y.there.base;
            base_low = y.there.base_low;
            best = count_here old new (2 * k + 1) c put (omega (arith, s.space, s.shallow, y.size)) low ∙ dearest;
            best_low = omega arith;
          }) (frames_kept (λ j l. put_same 8 old new (2 * k + 1) c put j (λ e. omega arith)) y.rest);
    })
