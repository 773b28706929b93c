-- Telling one event after the other: what is left to tell from the memory as it is comes to the same as all from the memory as it was.
use Rattle.std.specs.Prelude.{ℕ, zero, suc, ◌+◌, ◌-◌, ◌≤◌, ◌<◌, ◌≡◌, refl, List, [], ◌∷◌, ◌++◌, length}
use Rattle.std.proofs.Common.{sym, ◌∙◌, subst, arith}
use Rattle.std.proofs.Math.Path.{ap}
use Rattle.rules.specs.Stores.{Entry}
use Rattle.laws_orders.proofs.Orders.Tests.{impossible}
use Rattle.traces.specs.Cited.Events.{Event, opens}
use Rattle.telling.specs.Cited.Passing.{times}
use Rattle.matching.specs.Matching.{Matching, told, told_all}
use Rattle.matching.specs.Room.{matching_in, Sound, Stands}
use Rattle.room.specs.Trace.{most_groups}
use Rattle.passing.specs.Depth.{Fits}

pub told_append : (es fs : List Event) (z : Matching) → told_all (es ++ fs) z ≡ told_all fs (told_all es z)
unfolding told_all
told_append [] fs z = refl
told_append (e ∷ es) fs z = told_append es fs (told e z)

-- of all events, told from the memory `start`, these are left, to be told from the memory `room`
pub record Left (start : List ℕ) (all : List Event) (room : List ℕ) (es : List Event) : Type 0 where
  pub sound : (l : List Entry) → Sound l start → Sound l room
  pub same : (l : List Entry) → Sound l start → told_all es (matching_in l room) ≡ told_all all (matching_in l start)

pub all_left : (room : List ℕ) (es : List Event) → Left room es room es
all_left room es = record { sound = λ l s. s; same = λ l s. refl }

-- the same under another name
pub left_as : {start room : List ℕ} {all es fs : List Event} → es ≡ fs → Left start all room es → Left start all room fs
left_as {start} {room} {all} e n = subst (Left start all room) e n

module _ {start room next : List ℕ} {all : List Event} (es fs : List Event) where
  -- some of them are told
  pub some_told : Left start all room (es ++ fs) → ((l : List Entry) → Sound l room → Stands l next (told_all es (matching_in l room))) → Left start all next fs
  some_told n h = record {
    sound = λ l s. (h l (n.sound l s)).sound;
    same = λ l s. ap (told_all fs) (h l (n.sound l s)).is ∙ sym (told_append es fs (matching_in l room)) ∙ n.same l s;
  }

module _ {start room next : List ℕ} {all es : List Event} where
  pub one_told : (e : Event) → Left start all room (e ∷ es) → ((l : List Entry) → Sound l room → Stands l next (told e (matching_in l room))) → Left start all next es
  unfolding told_all
  one_told e n h = record {
    sound = λ l s. (h l (n.sound l s)).sound;
    same = λ l s. ap (told_all es) (h l (n.sound l s)).is ∙ n.same l s;
  }

  pub all_told : Left start all room es → ((l : List Entry) → Sound l room → Stands l next (told_all es (matching_in l room)))
      → (l : List Entry) → Sound l start → Stands l next (told_all all (matching_in l start))
  all_told n h l s = record { sound = (h l (n.sound l s)).sound; is = (h l (n.sound l s)).is ∙ n.same l s }

pub still_fits : {start room : List ℕ} {all es : List Event} {l : List Entry} → Left start all room es → Fits all l start → Fits es l room
still_fits {l = l} n f = record {
  sound = n.sound l f.sound;
  few = subst (λ (z : Matching). length z.groups ≤ most_groups) (sym (n.same l f.sound)) f.few;
}

pub none_left : {start room : List ℕ} {all : List Event} → Left start all room [] → (l : List Entry) → Sound l start → Stands l room (told_all all (matching_in l start))
unfolding told_all
none_left n l s = record { sound = n.sound l s; is = n.same l s }

-- all of them under another name
pub told_as : {start next : List ℕ} {es fs : List Event} → es ≡ fs → ((l : List Entry) → Sound l start → Stands l next (told_all es (matching_in l start)))
    → (l : List Entry) → Sound l start → Stands l next (told_all fs (matching_in l start))
told_as {start} {next} e h = subst (λ (es : List Event). (l : List Entry) → Sound l start → Stands l next (told_all es (matching_in l start))) e h

pub fits_as : {room : List ℕ} {es fs : List Event} {l : List Entry} → es ≡ fs → Fits fs l room → Fits es l room
fits_as {room} {l = l} e f = subst (λ (es : List Event). Fits es l room) (sym e) f

-- an event so many times
times_more : (k : ℕ) (e : Event) → 0 < k → times k e ≡ e ∷ times (k - 1) e
unfolding times
times_more zero e h = impossible (omega arith)
times_more (suc k) e h = let p : k ≡ suc k - 1 = omega arith in ap (λ j. e ∷ times j e) p

module _ {start room next : List ℕ} {all : List Event} (k : ℕ) (e : Event) where
  pub one_of_many : 0 < k → Left start all room (times k e) → ((l : List Entry) → Sound l room → Stands l next (told e (matching_in l room)))
      → Left start all next (times (k - 1) e)
  one_of_many h n t = one_told e (subst (Left start all room) (times_more k e h) n) t

pub none_of_many : {start room : List ℕ} {all : List Event} (k : ℕ) (e : Event) → k ≤ 0 → Left start all room (times k e)
    → (l : List Entry) → Sound l start → Stands l room (told_all all (matching_in l start))
unfolding times
none_of_many {start} {room} {all} k e h n = let p : k ≡ 0 = omega arith in none_left (subst (λ j. Left start all room (times j e)) p n)

-- groups that begin
groups_opened : (k : ℕ) (z : Matching) → length (told_all (times k opens) z).groups ≡ length z.groups + k
unfolding told_all times
groups_opened zero z = omega arith
groups_opened (suc k) z = groups_opened k (told opens z) ∙ omega arith

pub one_opens : {l : List Entry} {room : List ℕ} (k : ℕ) → 0 < k → Fits (times k opens) l room → Sound l room × (length (matching_in l room).groups < most_groups)
one_opens {l} {room} k h f = (f.sound, omega (arith, f.few, groups_opened k (matching_in l room)))
