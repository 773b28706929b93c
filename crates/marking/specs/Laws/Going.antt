-- The walk along the tokens of a description.
use Rattle.std.specs.Prelude.{ℕ, suc, ◌+◌, ◌*◌, ◌-◌, ◌<◌, ◌≤◌, ◌≡◌, refl, List, length, drop}
use Rattle.std.proofs.Common.{sym, ◌∙◌, subst, arith, length-drop}
use Rattle.cells.specs.Cells.{cell}
use Rattle.rules.specs.Grammar.Trees.{Tokens}
use Rattle.records.specs.Holds.{kind_byte, token_at}
use Rattle.table.specs.Scans.{no as kind_of}
use Rattle.reading.specs.Groups.{more}
use Rattle.reading.specs.Reading.{Kinded}
use Rattle.reading.specs.Laws.Reading.{next_token, no_more}
use Rattle.members.specs.Cells.{cells_in}
use Rattle.members.specs.Laws.Cells.{rank_is, up_is}
use Rattle.marking.specs.Machine.{State, outset, acted, Told, Follows}
use Rattle.marking.specs.Holding.{Paired, within, enough, no_frames, Shows}
use Rattle.marking.specs.Walking.{Acting, Acted}
use Rattle.marking.specs.declared.frames.Nest.{Nest}

-- the cells of the tokens before i are the same
abbrev Same : List ℕ → List ℕ → ℕ → Type 0
Same old new i = (j : ℕ) → j < 2 * i → cell 2 new j ≡ cell 2 old j

-- in front of the token i: where the tokens from i on take their cells, all have theirs
pub record SoFar {records : List ℕ} {n : ℕ} (v : Kinded records n) (cells room : List ℕ) (s : Nest) (i : ℕ) : Type 0 where
  state : State
  shows : Shows room i s state
  follows : (later : List ℕ) → Same cells later i → Follows (cells_in later n) n state (drop i v.tokens) → Follows (cells_in later n) n outset (drop 3 v.tokens)

pub record Going (records first_cells first_room cells room : List ℕ) (n : ℕ) (s : Nest) (i : ℕ) : Type 0 where
  pub kinds : Kinded records n
  pub cells_size : length cells ≡ length first_cells
  pub room_size : length room ≡ length first_room
  pub space : 4 * n ≤ length cells
  so_far : (v : Kinded records n) → SoFar v cells room s i

pub goes : {records cells room : List ℕ} {n : ℕ} {s : Nest} → Kinded records n → 4 * n ≤ length cells → enough ≤ length room → s ≡ within 0 0
    → Going records cells room cells room n s 3
goes {records} {cells} {room} {n} {s} k h l e = record {
  kinds = k;
  cells_size = refl;
  room_size = refl;
  space = h;
  so_far = λ v. record { state = outset; shows = subst (λ x. Shows room 3 x outset) (sym e) start; follows = λ later same f. f };
}
  where
    start : Shows room 3 (within 0 0) outset
    start = record {
      space = l;
      depth_is = refl;
      shallow = omega arith;
      around_is = refl;
      around_low = omega arith;
      rank_is = refl;
      rank_low = omega arith;
      up_is = refl;
      up_low = omega arith;
      frames = no_frames;
    }

module _ {records cells₀ room₀ cells room : List ℕ} {n i : ℕ} {s : Nest} (g : Going records cells₀ room₀ cells room n s i) where
  pub over : n ≤ i → (v : Kinded records n) → Follows (cells_in cells n) n outset (drop 3 v.tokens)
  over h v =
      let x = g.so_far v in
      x.follows cells (λ j l. refl) (subst (Follows (cells_in cells n) n x.state) (sym (no_more v i h)) tt)

  module _ (h : i < n) where
    pub to_put : (4 * i + 4 ≤ length cells) × (s.rank < 65536) × (s.up < 65536)
    to_put = let x = (g.so_far g.kinds).shows in (omega (arith, g.space), x.rank_low, x.up_low)

    pub to_act : Acting records room n i s
    to_act = let x = g.so_far g.kinds in record { kinds = g.kinds; within = h; stands = (x.state, x.shows) }

    pub goes_on : {new now : List ℕ} {r : Nest} → Paired cells new i s.rank s.up → Acted records room now n i s r → length now ≡ length room
        → Going records cells₀ room₀ new now n r (i + 1)
    goes_on {new} {now} {r} put acts size = record {
      kinds = g.kinds;
      cells_size = put.size ∙ g.cells_size;
      room_size = size ∙ g.room_size;
      space = omega (arith, put.size, g.space);
      so_far = λ v. on v (g.so_far v);
    }
      where
        on : (v : Kinded records n) → SoFar v cells room s i → SoFar v new now r (i + 1)
        on v x = record {
          state = after;
          shows = acts v x.state x.shows;
          follows = λ later same f.
              x.follows later (λ j l. same j (omega arith) ∙ put.kept j l)
              (subst (Follows (cells_in later n) n x.state) (sym (next_token v i h)) (subst (λ k. Told (cells_in later n) n k x.state) (sym here) (told later same), step later f));
        }
          where
            rest : Tokens
            rest = drop (i + 1) v.tokens

            after : State
            after = acted (i + 1) (kind_byte records i) (more rest) x.state

            here : n - suc (length rest) ≡ i
            here = omega (arith, length-drop (i + 1) v.tokens, v.count)

            behind : i + 1 ≡ n - length rest
            behind = omega (arith, length-drop (i + 1) v.tokens, v.count)

            told : (later : List ℕ) → Same new later (i + 1) → Told (cells_in later n) n i x.state
            told later same = record {
              rank = rank_is later n i h ∙ (same (2 * i) (omega arith) ∙ (put.first ∙ x.shows.rank_is));
              up = up_is later n i h ∙ (same (2 * i + 1) (omega arith) ∙ (put.second ∙ x.shows.up_is));
            }

            step : (later : List ℕ) → Follows (cells_in later n) n after rest
                → Follows (cells_in later n) n (acted (n - length rest) (kind_of (token_at v.tokens i)) (more rest) x.state) rest
            step later f =
                subst (λ p. Follows (cells_in later n) n (acted p (kind_of (token_at v.tokens i)) (more rest) x.state) rest) behind
                (subst (λ k. Follows (cells_in later n) n (acted (i + 1) k (more rest) x.state) rest) (v.kind i h) f)
