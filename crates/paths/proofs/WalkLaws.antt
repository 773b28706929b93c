-- The walk of a body comes to the body's report.
use Rattle.std.specs.Prelude.{ℕ, suc, ◌<◌, ◌≡◌, Bool, false, cond, not, ◌||◌, ◌&&◌, eqb}
use Rattle.std.proofs.Math.Path.{refl, fun_ext}
use Rattle.std.proofs.Common.{sym, ◌∙◌, ap, ap₂, subst, eq-eqb, ne_eqb}
use Rattle.std.proofs.Math.Bool.{true, or-false, and-false, and_assoc}
use mathlib.Core.List.{List, [], ◌∷◌, ◌++◌, append-nil, append_assoc}
use Rattle.std.proofs.Math.Option.{Option, none, some}
use native.Mathlib.Omega.{arith}
use Rattle.rules.specs.Text.Scan.{same_bytes}
use Rattle.rules.specs.Grammar.Trees.{Action, block, labelled, if_then, decode, repeat, leave, restart, activate, stop, no_op, transfer, Members, end, also, next}
use Rattle.rules.specs.Grammar.Trees.{Alternatives, counted, selected, Counted, counted_end, counted_more, Selected, select, otherwise, SelectedMore, selected_end, selected_more}
use Rattle.rules.specs.Declarations.{Word, Table, body_of}
use Rattle.rules.specs.Steps.Actions.{Act, par, act_of, groups, whole, alts_of, counted_alts, selected_alts, more_alts, in_turn as joined_to}
use Rattle.rules.specs.Steps.Runs.{body_act}
use Rattle.laws_accepted.proofs.Accepted.Named.{same_equal, same_itself}
use Rattle.paths.proofs.Bools.{mix, spread, iff_flags, alts_flags, label_flags, call_flags, pass_flags, stay_flags, leave_flags, turn_flags}
use Rattle.paths.proofs.Bools.{end_flags, next_flags, also_flags, also_next_flags}
use Rattle.paths.specs.Cited.Early.{Report, report, nowhere, passed, inside, either, in_turn, beside, turning, early, early_i, early_alts, body_early}
use Rattle.paths.specs.Cited.Marks.{Marks, Slot, slot, marked, cleared, added, flag_of, marked_at, unmarked}
use Rattle.paths.specs.Walk.{walk_body, walk, walk_members, walk_alternatives, walk_counted, walk_selected, walk_more}

-- which flags the LEAVEs set, by their targets
abbrev pub left : List Slot → (Word → Bool) → ℕ → Bool
left [] g j = false
left (s ∷ ls) g j = (eqb j s.flag && g s.name) || left ls (λ n. not (same_bytes n s.name) && g n) j

abbrev pub sets : List Slot → ℕ → Report → ℕ → Bool
sets ls k x j = (eqb j k && x.ends) || left ls x.leaves j

abbrev pub Below : ℕ → List Slot → Type 0
Below d [] = Unit {0}
Below d (s ∷ ls) = (s.flag < d) × Below d ls

below_more : (d : ℕ) (ls : List Slot) → Below d ls → Below (suc d) ls
below_more d [] h = tt
below_more d (s ∷ ls) h = let q : s.flag < d = h.0 in (omega arith, below_more d ls h.1)

left_same : (ls : List Slot) (f g : Word → Bool) (j : ℕ) → ((n : Word) → f n ≡ g n) → left ls f j ≡ left ls g j
left_same ls f g j h = ap (λ x. left ls x j) (fun_ext h)

left_none : (ls : List Slot) (j : ℕ) → left ls (λ n. false) j ≡ false
left_none [] j = refl
left_none (s ∷ ls) j =
    ap₂ ◌||◌ (and-false (eqb j s.flag)) (left_same ls (λ n. not (same_bytes n s.name) && false) (λ n. false) j (λ n. and-false (not (same_bytes n s.name))) ∙ left_none ls j)

-- a LEAVE sets no free flag
left_below : (ls : List Slot) (d : ℕ) (g : Word → Bool) → Below d ls → left ls g d ≡ false
left_below [] d g h = refl
left_below (s ∷ ls) d g h =
    let q : s.flag < d = h.0 in
    ap₂ ◌||◌ (ap (λ x. x && g s.name) (ne_eqb d s.flag (λ e. omega arith))) (left_below ls d (λ n. not (same_bytes n s.name) && g n) h.1)

left_mix : (ls : List Slot) (f g : Word → Bool) (e : Bool) (j : ℕ) → left ls (λ n. f n || (e && g n)) j ≡ (left ls f j || (e && left ls g j))
left_mix [] f g e j = sym (and-false e)
left_mix (s ∷ ls) f g e j =
    let c : Word → Bool = λ n. not (same_bytes n s.name) in
    let t : Bool = eqb j s.flag in
    ap (λ z. (t && (f s.name || (e && g s.name))) || z)
    (left_same ls (λ n. c n && (f n || (e && g n))) (λ n. (c n && f n) || (e && (c n && g n))) j (λ n. spread (c n) (f n) e (g n))
    ∙ left_mix ls (λ n. c n && f n) (λ n. c n && g n) e j)
    ∙ mix t (left ls (λ n. c n && f n) j) (left ls (λ n. c n && g n) j) (f s.name) (g s.name) e

-- a LEAVE sets the flag of the innermost label of its name
abbrev hits : Option ℕ → ℕ → Bool
hits none j = false
hits (some k) j = eqb j k

same_swapped : (x y : Word) (b : Bool) → same_bytes x y ≡ b → same_bytes y x ≡ b
same_swapped x y true e = ap (λ z. same_bytes z x) (sym (same_equal x y e)) ∙ same_itself x
same_swapped x y false e = by (same_bytes y x) refl
  where
    by : (b : Bool) → same_bytes y x ≡ b → b ≡ false
    by true h = sym (same_itself x) ∙ (ap (λ z. same_bytes x z) (sym (same_equal y x h)) ∙ e)
    by false h = refl

left_one : (ls : List Slot) (l : Word) (j : ℕ) → left ls (λ n. same_bytes n l) j ≡ hits (flag_of ls l) j
left_one [] l j = refl
left_one (s ∷ ls) l j = by (same_bytes l s.name) refl (left_one ls l j)
  where
    t : Bool
    t = eqb j s.flag

    rest : Word → Bool
    rest n = not (same_bytes n s.name) && same_bytes n l

    never : same_bytes l s.name ≡ true → (n : Word) → rest n ≡ false
    never e n = ap (λ z. not (same_bytes n s.name) && same_bytes n z) (same_equal l s.name e) ∙ nor (same_bytes n s.name)
      where
        nor : (b : Bool) → (not b && b) ≡ false
        nor true = refl
        nor false = refl

    still : same_bytes l s.name ≡ false → (n : Word) → rest n ≡ same_bytes n l
    still e n = go (same_bytes n l) refl
      where
        go : (b : Bool) → same_bytes n l ≡ b → (not (same_bytes n s.name) && b) ≡ b
        go true h = ap (λ z. not z && true) (ap (λ z. same_bytes z s.name) (same_equal n l h) ∙ e)
        go false h = and-false (not (same_bytes n s.name))

    by :
        (b : Bool) → same_bytes l s.name ≡ b → left ls (λ n. same_bytes n l) j ≡ hits (flag_of ls l) j
        → ((t && same_bytes s.name l) || left ls rest j) ≡ hits (cond b (some s.flag) (flag_of ls l)) j
    by true e ih =
        ap₂ (λ x y. (t && x) || y) (same_swapped l s.name true e) (left_same ls rest (λ n. false) j (never e) ∙ left_none ls j) ∙ (or-false (t && true) ∙ and_true_is t)
      where
        and_true_is : (b : Bool) → (b && true) ≡ b
        and_true_is true = refl
        and_true_is false = refl
    by false e ih =
        ap₂ (λ x y. (t && x) || y) (same_swapped l s.name false e) (left_same ls rest (λ n. same_bytes n l) j (still e) ∙ ih) ∙ ap (λ z. z || hits (flag_of ls l) j) (and-false t)

-- What a walk of an action does, by the action's report: of the flags that are neither free nor idle it sets those at the ends that are reached, and it adds the places.
pub record Walked (ls : List Slot) (d k : ℕ) (b : Bool) (x : Report) (w v : Marks) : Type 0 where
  pub flags : (j : ℕ) → 0 < j → j < d → v.flags j ≡ (w.flags j || (b && sets ls k x j))
  pub places : v.places ≡ w.places ++ cond b x.places []

-- the flag at the end of an inner action, and those outside
inner_set : (ls : List Slot) (d : ℕ) (x : Report) → Below d ls → sets ls d x d ≡ x.ends
inner_set ls d x h = ap₂ (λ p q. (p && x.ends) || q) (eq-eqb d d refl) (left_below ls d x.leaves h) ∙ or-false x.ends

outer_set : (ls : List Slot) (d j : ℕ) (x : Report) → j < d → sets ls d x j ≡ left ls x.leaves j
outer_set ls d j x h = ap (λ p. (p && x.ends) || left ls x.leaves j) (ne_eqb j d (λ e. omega arith))

idle_set : (ls : List Slot) (j : ℕ) (x : Report) → 0 < j → sets ls 0 x j ≡ left ls x.leaves j
idle_set ls j x h = ap (λ p. (p && x.ends) || left ls x.leaves j) (ne_eqb j 0 (λ e. omega arith))

-- a walk with a cleared flag of its own at the end: that flag tells whether the end is reached
module _ (ls : List Slot) (d : ℕ) (b : Bool) (x : Report) (w v : Marks) (some_d : 0 < d) (below : Below d ls) where
  own_flag : Walked ls (suc d) d b x (cleared d w) v → v.flags d ≡ (b && x.ends)
  own_flag h =
      h.flags d some_d (omega arith)
      ∙ ap₂ (λ p q. (not p && w.flags d) || (b && q)) (eq-eqb d d refl) (inner_set ls d x below)

  others : Walked ls (suc d) d b x (cleared d w) v → (j : ℕ) → 0 < j → j < d → v.flags j ≡ (w.flags j || (b && left ls x.leaves j))
  others h j o q =
      h.flags j o (omega arith) ∙ ap₂ (λ p z. (not p && w.flags j) || (b && z)) (ne_eqb j d (λ e. omega arith)) (outer_set ls d j x q)

added_both : (b : Bool) (us xs ys : List ℕ) → ((us ++ cond b xs []) ++ cond b ys []) ≡ us ++ cond b (xs ++ ys) []
added_both true us xs ys = append_assoc us xs ys
added_both false us xs ys = append-nil (us ++ [])

no_more : (b : Bool) (us : List ℕ) → us ≡ us ++ cond b [] []
no_more true us = sym (append-nil us)
no_more false us = sym (append-nil us)

label_walked :
    (ls : List Slot) (d k : ℕ) (b : Bool) (l : Word) (x : Report) (w v : Marks) → Walked (slot l k ∷ ls) d k b x w v → Walked ls d k b (inside l x) w v
label_walked ls d k b l x w v p =
    record {
      flags = λ j o h.
          p.flags j o h ∙ label_flags (w.flags j) b (eqb j k) x.ends (x.leaves l) (left ls (λ n. not (same_bytes n l) && x.leaves n) j);
      places = p.places;
    }

-- one, and then the other from the same place
either_walked :
    (ls : List Slot) (d k : ℕ) (b : Bool) (x y : Report) (w v u : Marks) → Walked ls d k b x w v → Walked ls d k b y v u → Walked ls d k b (either x y) w u
either_walked ls d k b x y w v u p q =
    record {
      flags = λ j o h.
          let t : Bool = eqb j k in
          q.flags j o h ∙ ap (λ z. z || (b && sets ls k y j)) (p.flags j o h)
          ∙ alts_flags (w.flags j) b t x.ends (left ls x.leaves j) y.ends (left ls y.leaves j)
          ∙ ap (λ z. w.flags j || (b && ((t && (x.ends || y.ends)) || z))) (sym (left_mix ls x.leaves y.leaves true j));
      places = q.places ∙ ap (λ s. s ++ cond b y.places []) p.places ∙ added_both b w.places x.places y.places;
    }

-- nothing is reached
still_walked : (ls : List Slot) (d k : ℕ) (b : Bool) (w : Marks) → Walked ls d k b nowhere w w
still_walked ls d k b w =
    record {
      flags = λ j o h. stay_flags (w.flags j) b (eqb j k) ∙ ap (λ z. w.flags j || (b && ((eqb j k && false) || z))) (sym (left_none ls j));
      places = no_more b w.places;
    }

-- the end is reached
passed_walked : (ls : List Slot) (d k : ℕ) (b : Bool) (ps : List ℕ) (w : Marks) → Walked ls d k b (report ps true (λ n. false)) w (marked k b (added (cond b ps []) w))
passed_walked ls d k b ps w =
    record {
      flags = λ j o h. pass_flags (eqb j k) b (w.flags j) ∙ ap (λ z. w.flags j || (b && ((eqb j k && true) || z))) (sym (left_none ls j));
      places = refl;
    }

noop_walked : (ls : List Slot) (d k : ℕ) (b : Bool) (w : Marks) → Walked ls d k b passed w (marked k b w)
noop_walked ls d k b w =
    record {
      flags = λ j o h. pass_flags (eqb j k) b (w.flags j) ∙ ap (λ z. w.flags j || (b && ((eqb j k && true) || z))) (sym (left_none ls j));
      places = no_more b w.places;
    }

-- an IF's end is reached at once
iff_walked : (ls : List Slot) (d k : ℕ) (b : Bool) (x : Report) (w v : Marks) → Walked ls d k b x (marked k b w) v → Walked ls d k b (either passed x) w v
iff_walked ls d k b x w v p =
    record { flags = λ j o h. p.flags j o h ∙ iff_flags (eqb j k) b (w.flags j) x.ends (left ls x.leaves j); places = p.places }

turning_walked : (ls : List Slot) (d k : ℕ) (b : Bool) (x : Report) (w v : Marks) → Walked ls d 0 b x w v → Walked ls d k b (turning x) w v
turning_walked ls d k b x w v p =
    record {
      flags = λ j o h.
          p.flags j o h ∙ ap (λ z. w.flags j || (b && z)) (idle_set ls j x o) ∙ turn_flags (w.flags j) b (eqb j k) (left ls x.leaves j);
      places = p.places;
    }

leave_walked : (ls : List Slot) (d k : ℕ) (b : Bool) (l : Word) (w : Marks) → Walked ls d k b (report [] false (λ n. same_bytes n l)) w (marked_at (flag_of ls l) b w)
leave_walked ls d k b l w =
    record {
      flags = λ j o h.
          by (flag_of ls l) j ∙ ap (λ z. w.flags j || (b && ((eqb j k && false) || z))) (sym (left_one ls l j));
      places = same (flag_of ls l) ∙ no_more b w.places;
    }
  where
    by : (o : Option ℕ) (j : ℕ) → (marked_at o b w).flags j ≡ (w.flags j || (b && ((eqb j k && false) || hits o j)))
    by none j = stay_flags (w.flags j) b (eqb j k)
    by (some m) j = leave_flags (eqb j m) b (w.flags j) (eqb j k)

    same : (o : Option ℕ) → (marked_at o b w).places ≡ w.places
    same none = refl
    same (some m) = refl

call_walked :
    (ls : List Slot) (d k : ℕ) (b : Bool) (e : Bool) (ps : List ℕ) (w : Marks)
    → Walked ls d k b (report ps e (λ n. false)) w (marked k (b && e) (added (cond b ps []) w))
call_walked ls d k b e ps w =
    record {
      flags = λ j o h. call_flags (eqb j k) b e (w.flags j) ∙ ap (λ z. w.flags j || (b && ((eqb j k && e) || z))) (sym (left_none ls j));
      places = refl;
    }

-- the first members of a group, if those before them have come to their ends
abbrev gate : Bool → Report → Report
gate c x = report x.places (c && x.ends) x.leaves

end_walked :
    (ls : List Slot) (d k : ℕ) (b c : Bool) (x : Report) (w v : Marks) → 0 < d → Below d ls → Walked ls (suc d) d b x (cleared d w) v
    → Walked ls d k b (gate c x) w (marked k (c && v.flags d) v)
end_walked ls d k b c x w v z below p =
    record {
      flags = λ j o h.
          ap₂ (λ s t. (eqb j k && (c && s)) || t) (own_flag ls d b x w v z below p) (others ls d b x w v z below p j o h)
          ∙ end_flags (eqb j k) c b x.ends (w.flags j) (left ls x.leaves j);
      places = p.places;
    }

next_places : (b c e : Bool) (us xs ys : List ℕ) → ((us ++ cond b xs []) ++ cond (c && (b && e)) ys []) ≡ us ++ cond b (xs ++ cond (c && e) ys []) []
next_places true c e us xs ys = append_assoc us xs (cond (c && e) ys [])
next_places false true e us xs ys = append-nil (us ++ [])
next_places false false e us xs ys = append-nil (us ++ [])

next_walked :
    (ls : List Slot) (d k : ℕ) (b c : Bool) (x y : Report) (w v u : Marks) → 0 < d → Below d ls → Walked ls (suc d) d b x (cleared d w) v
    → Walked ls d k (c && v.flags d) y v u → Walked ls d k b (in_turn (gate c x) y) w u
next_walked ls d k b c x y w v u z below p q =
    record {
      flags = λ j o h.
          q.flags j o h
          ∙ ap₂ (λ s t. s || ((c && t) && sets ls k y j)) (others ls d b x w v z below p j o h) (own_flag ls d b x w v z below p)
          ∙ next_flags (w.flags j) b (left ls x.leaves j) c x.ends (eqb j k) y.ends (left ls y.leaves j)
          ∙ ap (λ s. w.flags j || (b && ((eqb j k && ((c && x.ends) && y.ends)) || s))) (sym (left_mix ls x.leaves y.leaves (c && x.ends) j));
      places =
          q.places
          ∙ ap₂ (λ s t. s ++ cond (c && t) y.places []) p.places (own_flag ls d b x w v z below p)
          ∙ next_places b c x.ends w.places x.places y.places;
    }

-- a member, and those beside it that follow
also_walked :
    (ls : List Slot) (d k : ℕ) (b c : Bool) (x y : Report) (w v u : Marks) → 0 < d → Below d ls → Walked ls (suc d) d b x (cleared d w) v
    → Walked ls d k b (gate (c && v.flags d) y) v u → Walked ls d k b (gate c (beside x y)) w u
also_walked ls d k b c x y w v u z below p q =
    record {
      flags = λ j o h.
          q.flags j o h
          ∙ ap₂ (λ s t. s || (b && ((eqb j k && ((c && t) && y.ends)) || left ls y.leaves j))) (others ls d b x w v z below p j o h)
          (own_flag ls d b x w v z below p)
          ∙ also_flags (w.flags j) b (left ls x.leaves j) (eqb j k) c x.ends y.ends (left ls y.leaves j)
          ∙ ap (λ s. w.flags j || (b && ((eqb j k && (c && (x.ends && y.ends))) || s))) (sym (left_mix ls x.leaves y.leaves true j));
      places = q.places ∙ ap (λ s. s ++ cond b y.places []) p.places ∙ added_both b w.places x.places y.places;
    }

also_next_places :
    (b c e f : Bool) (us xs ys zs : List ℕ)
    → ((us ++ cond b xs []) ++ cond b (ys ++ cond ((c && (b && e)) && f) zs []) []) ≡ us ++ cond b ((xs ++ ys) ++ cond (c && (e && f)) zs []) []
also_next_places true c e f us xs ys zs =
    append_assoc us xs (ys ++ cond ((c && e) && f) zs [])
    ∙ ap (λ s. us ++ s) (sym (append_assoc xs ys (cond ((c && e) && f) zs [])) ∙ ap (λ t. (xs ++ ys) ++ cond t zs []) (and_assoc c e f))
also_next_places false c e f us xs ys zs = append-nil (us ++ [])

also_next_walked :
    (ls : List Slot) (d k : ℕ) (b c : Bool) (x y r : Report) (w v u : Marks) → 0 < d → Below d ls → Walked ls (suc d) d b x (cleared d w) v
    → Walked ls d k b (in_turn (gate (c && v.flags d) y) r) v u → Walked ls d k b (in_turn (gate c (beside x y)) r) w u
also_next_walked ls d k b c x y r w v u z below p q =
    record {
      flags = λ j o h.
          let t : Bool = eqb j k in
          let m : Bool = left ls y.leaves j in
          let n : Bool = left ls r.leaves j in
          let g : Bool = c && (x.ends && y.ends) in
          q.flags j o h
          ∙ ap (λ s. v.flags j || (b && ((t && (((c && v.flags d) && y.ends) && r.ends)) || s))) (left_mix ls y.leaves r.leaves ((c && v.flags d) && y.ends) j)
          ∙ ap₂ (λ s a. s || (b && ((t && (((c && a) && y.ends) && r.ends)) || (m || (((c && a) && y.ends) && n))))) (others ls d b x w v z below p j o h)
          (own_flag ls d b x w v z below p)
          ∙ also_next_flags (w.flags j) b (left ls x.leaves j) t c x.ends y.ends r.ends m n
          ∙ ap (λ s. w.flags j || (b && ((t && (g && r.ends)) || s)))
          (ap (λ s. s || (g && n)) (sym (left_mix ls x.leaves y.leaves true j)) ∙ sym (left_mix ls (λ n. x.leaves n || y.leaves n) r.leaves g j));
      places =
          q.places
          ∙ ap₂ (λ s a. s ++ cond b (y.places ++ cond ((c && a) && y.ends) r.places []) []) p.places (own_flag ls d b x w v z below p)
          ∙ also_next_places b c x.ends y.ends w.places x.places y.places r.places;
    }

module _ (ds : Table) (test : Word) (output : ℕ) (known : Word → Report) where
  abbrev E : Act → Report
  E a = early ds test output known a

  -- a group and what is behind it, if the members before have come to their ends
  abbrev gathered : Bool → Act → Option Act → Report
  gathered c g none = gate c (E g)
  gathered c g (some r) = in_turn (gate c (E g)) (E r)

  gathered_whole : (g : Act) (o : Option Act) → gathered true g o ≡ E (joined_to g o)
  unfolding early
  gathered_whole g none = refl
  gathered_whole g (some r) = refl

  gathered_also :
      (ls : List Slot) (d k : ℕ) (b c : Bool) (x g : Act) (o : Option Act) (w v u : Marks) → 0 < d → Below d ls → Walked ls (suc d) d b (E x) (cleared d w) v
      → Walked ls d k b (gathered (c && v.flags d) g o) v u → Walked ls d k b (gathered c (par x g) o) w u
  unfolding early
  gathered_also ls d k b c x g none w v u z below p q = also_walked ls d k b c (E x) (E g) w v u z below p q
  gathered_also ls d k b c x g (some r) w v u z below p q = also_next_walked ls d k b c (E x) (E g) (E r) w v u z below p q

  mutual
    unfolding walk walk_members walk_alternatives walk_counted walk_selected walk_more early early_i early_alts act_of groups alts_of counted_alts selected_alts more_alts

    -- the walk of an action does what its report says
    pub walk_is :
        (a : Action) (ls : List Slot) (d k : ℕ) (b : Bool) (w : Marks) → k < d → Below d ls
        → Walked ls d k b (E (act_of a)) w (walk ds test output known a ls d k b w)
    walk_is (block i a m) ls d k b w h q =
        let g = groups (act_of a) m in
        let v = walk ds test output known a ls (suc d) d b (cleared d w) in
        subst (λ x. Walked ls d k b x w (walk_members ds test output known m ls d k b true v)) (gathered_whole g.group g.behind)
        (members_is m (act_of a) ls d k b true w v h q (walk_is a ls (suc d) d b (cleared d w) (omega arith) (below_more d ls q)))
    walk_is (labelled n i a) ls d k b w h q = label_walked ls d k b n.word _ w _ (walk_is a (slot n.word k ∷ ls) d k b w h (h, q))
    walk_is (if_then i o t e a) ls d k b w h q = iff_walked ls d k b _ w _ (walk_is a ls d k b (marked k b w) h q)
    walk_is (decode i o t e g v) ls d k b w h q = alternatives_is v ls d k b w h q
    walk_is (repeat i a) ls d k b w h q = turning_walked ls d k b _ w _ (walk_is a ls d 0 b w (omega arith) q)
    walk_is (leave i n) ls d k b w h q = leave_walked ls d k b n.word w
    walk_is (restart i n) ls d k b w h q = still_walked ls d k b w
    walk_is (activate n l r) ls d k b w h q = call_walked ls d k b _ _ w
    walk_is (stop i l r) ls d k b w h q = still_walked ls d k b w
    walk_is (no_op i l r) ls d k b w h q = noop_walked ls d k b w
    walk_is (transfer n s f j e o t) ls d k b w h q = passed_walked ls d k b _ w

    members_is :
        (m : Members) (x : Act) (ls : List Slot) (d k : ℕ) (b c : Bool) (w v : Marks) → k < d → Below d ls → Walked ls (suc d) d b (E x) (cleared d w) v
        → Walked ls d k b (gathered c (groups x m).group (groups x m).behind) w (walk_members ds test output known m ls d k b c v)
    members_is (end i) x ls d k b c w v h q p = end_walked ls d k b c (E x) w v (omega arith) q p
    members_is (also i a m) x ls d k b c w v h q p =
        let g = groups (act_of a) m in
        gathered_also ls d k b c x g.group g.behind w v _ (omega arith) q p
        (members_is m (act_of a) ls d k b (c && v.flags d) v _ h q (walk_is a ls (suc d) d b (cleared d v) (omega arith) (below_more d ls q)))
    members_is (next i a m) x ls d k b c w v h q p =
        let g = groups (act_of a) m in
        let f : Bool = c && v.flags d in
        let u = walk ds test output known a ls (suc d) d f (cleared d v) in
        next_walked ls d k b c (E x) (E (whole g)) w v _ (omega arith) q p
        (subst (λ r. Walked ls d k f r v (walk_members ds test output known m ls d k f true u)) (gathered_whole g.group g.behind)
        (members_is m (act_of a) ls d k f true v u h q (walk_is a ls (suc d) d f (cleared d v) (omega arith) (below_more d ls q))))

    alternatives_is :
        (v : Alternatives) (ls : List Slot) (d k : ℕ) (b : Bool) (w : Marks) → k < d → Below d ls
        → Walked ls d k b (early_alts ds test output known (alts_of v)) w (walk_alternatives ds test output known v ls d k b w)
    alternatives_is (counted a c) ls d k b w h q =
        let v = walk ds test output known a ls d k b w in either_walked ls d k b _ _ w v _ (walk_is a ls d k b w h q) (counted_is c 1 ls d k b v h q)
    alternatives_is (selected s) ls d k b w h q = selected_is s ls d k b w h q

    counted_is :
        (c : Counted) (n : ℕ) (ls : List Slot) (d k : ℕ) (b : Bool) (w : Marks) → k < d → Below d ls
        → Walked ls d k b (early_alts ds test output known (counted_alts n c)) w (walk_counted ds test output known c ls d k b w)
    counted_is (counted_end i) n ls d k b w h q = still_walked ls d k b w
    counted_is (counted_more i a c) n ls d k b w h q =
        let v = walk ds test output known a ls d k b w in either_walked ls d k b _ _ w v _ (walk_is a ls d k b w h q) (counted_is c (suc n) ls d k b v h q)

    selected_is :
        (s : Selected) (ls : List Slot) (d k : ℕ) (b : Bool) (w : Marks) → k < d → Below d ls
        → Walked ls d k b (early_alts ds test output known (selected_alts s)) w (walk_selected ds test output known s ls d k b w)
    selected_is (select s i a m) ls d k b w h q =
        let v = walk ds test output known a ls d k b w in either_walked ls d k b _ _ w v _ (walk_is a ls d k b w h q) (more_is m ls d k b v h q)
    selected_is (otherwise i e a g) ls d k b w h q =
        let v = walk ds test output known a ls d k b w in either_walked ls d k b _ _ w v _ (walk_is a ls d k b w h q) (still_walked ls d k b v)

    more_is :
        (m : SelectedMore) (ls : List Slot) (d k : ℕ) (b : Bool) (w : Marks) → k < d → Below d ls
        → Walked ls d k b (early_alts ds test output known (more_alts m)) w (walk_more ds test output known m ls d k b w)
    more_is (selected_end i) ls d k b w h q = still_walked ls d k b w
    more_is (selected_more i s) ls d k b w h q = selected_is s ls d k b w h q

  pub body_walked :
      (a : Action) (n : Word) → let w = walk_body ds test output known a n in
      let x = inside n (E (act_of a)) in
      (w.flags 1 ≡ x.ends) × (w.places ≡ x.places)
  unfolding walk_body
  body_walked a n =
      let r = label_walked [] 2 1 true n _ unmarked _ (walk_is a (slot n 1 ∷ []) 2 1 true unmarked (omega arith) (omega arith, tt)) in
      (r.flags 1 (omega arith) (omega arith) ∙ or-false _, r.places)

-- with what is known down chains of k bodies, the walk of a body gives what is known down chains of k + 1
pub body_level :
    (ds : Table) (test : Word) (output : ℕ) (k : ℕ) (n : Word) (a : Action) → body_of ds n ≡ some a
    → let w = walk_body ds test output (body_early ds test output k) a n in
    (w.flags 1 ≡ (body_early ds test output (suc k) n).ends) × (w.places ≡ (body_early ds test output (suc k) n).places)
unfolding body_early body_act
body_level ds test output k n a e = rw e (body_walked ds test output (body_early ds test output k) a n)
