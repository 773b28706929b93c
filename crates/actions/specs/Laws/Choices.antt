-- The alternatives of a tree as a list, with their faults by their numbers.
-- Assumes nothing.
use Rattle.std.specs.Prelude.{ℕ, ◌+◌, ◌≡◌, refl, length, get_or, drop}
use Rattle.std.proofs.Common.{sym, ◌∙◌, arith, get_or-drop, drop-drop}
use Rattle.std.proofs.Math.Path.{ap, ap₂}
use mathlib.Core.List.{List, [], ◌∷◌, ◌++◌, append-nil}
use Rattle.std.proofs.Math.Numerals.{add-one}
use Rattle.rules.specs.Grammar.Trees.{Action, stop, Counted, counted_end, counted_more, Selected, select, otherwise, SelectedMore, selected_end, selected_more}
use Rattle.rules.specs.Grammar.Verdict.{any_info}
use Rattle.rules.specs.Declarations.{Word, Table}
use Rattle.rules.specs.Selectors.{Item, between, selector_items}
use Rattle.rules.specs.Faults.Fault.{Fault}
use Rattle.rules.specs.Faults.Bodies.{selector_place, first_place, alternative, counted_faults, selected_faults, more_faults, action_faults, inside_counted, inside_selected, inside_more}
use Rattle.selectors.specs.Overlaps.{earlier_items}
use Rattle.actions.specs.Laws.Ranges.{range_faults}
use Rattle.actions.specs.Laws.Compared.{judged_at}

pub record Choice : Type 0 where
  pub items : List Item
  pub place : ℕ
  pub action : Action

abbrev pub choice : List Item → ℕ → Action → Choice
choice is p a = record { items = is; place = p; action = a }

unfoldable mutual
  pub choices_of : Selected → List Choice
  choices_of (select s b a m) = choice (selector_items s) (selector_place s) a ∷ more_choices m
  choices_of (otherwise i b a e) = choice [] i.place a ∷ []

  pub more_choices : SelectedMore → List Choice
  more_choices (selected_end e) = []
  more_choices (selected_more c s) = choices_of s

-- an alternative without a selector, and those behind it
unfoldable pub counted_choices : Action → Counted → List Choice
counted_choices a (counted_end e) = choice [] (first_place a) a ∷ []
counted_choices a (counted_more c b more) = choice [] (first_place a) a ∷ counted_choices b more

-- BY THEIR NUMBERS
module _ (all : List Choice) where
  abbrev pub choice_at : ℕ → Choice
  choice_at k = get_or all k (choice [] 0 (stop any_info any_info any_info))

  abbrev pub items_in : ℕ → List Item
  items_in k = (choice_at k).items

  abbrev pub place_in : ℕ → ℕ
  place_in k = (choice_at k).place

  abbrev pub action_in : ℕ → Action
  action_in k = (choice_at k).action

  -- those from k on
  module _ (k : ℕ) (c : Choice) (cs : List Choice) (e : drop k all ≡ c ∷ cs) where
    pub choice_now : choice_at k ≡ c
    choice_now =
        ap choice_at (omega arith) ∙ sym (get_or-drop k all 0 (choice [] 0 (stop any_info any_info any_info))) ∙ ap (λ l. get_or l 0 (choice [] 0 (stop any_info any_info any_info))) e

    pub choice_next : drop (k + 1) all ≡ cs
    choice_next = sym (drop-drop 1 k all) ∙ ap (drop 1) e

  module _ (n : ℕ) where
    judged_now : (k : ℕ) (c : Choice) → choice_at k ≡ c → alternative n k c.place (earlier_items items_in k) c.items ≡ judged_at items_in place_in n k
    judged_now k c e = ap (λ x. alternative n k x.place (earlier_items items_in k) x.items) (sym e)

    earlier_next : (k : ℕ) (c : Choice) → choice_at k ≡ c → c.items ++ earlier_items items_in k ≡ earlier_items items_in (k + 1)
    unfolding earlier_items
    earlier_next k c e = rw add-one (ap (λ x. x.items ++ earlier_items items_in k) (sym e))

    mutual
      unfolding choices_of selected_faults range_faults

      pub selected_range : (k : ℕ) (s : Selected) → drop k all ≡ choices_of s
          → selected_faults n k (earlier_items items_in k) s ≡ range_faults (judged_at items_in place_in n) k (length (choices_of s))
      selected_range k (select s b a m) e =
          let c = choice (selector_items s) (selector_place s) a in
          let now = choice_now k c (more_choices m) e in
          ap₂ ◌++◌ (judged_now k c now) (ap (λ before. more_faults n (k + 1) before m) (earlier_next k c now) ∙ more_range (k + 1) m (choice_next k c (more_choices m) e))
      selected_range k (otherwise i b a x) e =
          judged_now k (choice [] i.place a) (choice_now k (choice [] i.place a) [] e) ∙ sym (append-nil (judged_at items_in place_in n k))

      more_range : (k : ℕ) (m : SelectedMore) → drop k all ≡ more_choices m
          → more_faults n k (earlier_items items_in k) m ≡ range_faults (judged_at items_in place_in n) k (length (more_choices m))
      more_range k (selected_end x) e = refl
      more_range k (selected_more c s) e = selected_range k s e

  -- the faults inside
  module _ (outer : Word) (ds : Table) (ws : List Word) where
    abbrev pub inside_at : ℕ → List Fault
    inside_at k = action_faults outer ds ws (action_in k)

    inside_now : (k : ℕ) (c : Choice) → choice_at k ≡ c → action_faults outer ds ws c.action ≡ inside_at k
    inside_now k c e = ap (λ x. action_faults outer ds ws x.action) (sym e)

    mutual
      unfolding choices_of inside_selected range_faults

      pub inside_range : (k : ℕ) (s : Selected) → drop k all ≡ choices_of s → inside_selected outer ds ws s ≡ range_faults inside_at k (length (choices_of s))
      inside_range k (select s b a m) e =
          let c = choice (selector_items s) (selector_place s) a in
          ap₂ ◌++◌ (inside_now k c (choice_now k c (more_choices m) e)) (inside_more_lem k m (choice_next k c (more_choices m) e))
      inside_range k (otherwise i b a x) e =
          inside_now k (choice [] i.place a) (choice_now k (choice [] i.place a) [] e) ∙ sym (append-nil (inside_at k))

      inside_more_lem : (k : ℕ) (m : SelectedMore) → drop (k + 1) all ≡ more_choices m → inside_more outer ds ws m ≡ range_faults inside_at (k + 1) (length (more_choices m))
      inside_more_lem k (selected_end x) e = refl
      inside_more_lem k (selected_more c s) e = inside_range (k + 1) s e

    pub inside_counted_lem : (k : ℕ) (a : Action) (c : Counted) → drop k all ≡ counted_choices a c
        → action_faults outer ds ws a ++ inside_counted outer ds ws c ≡ range_faults inside_at k (length (counted_choices a c))
    unfolding counted_choices inside_counted range_faults
    inside_counted_lem k a (counted_end x) e =
        ap (λ fs. fs ++ []) (inside_now k (choice [] (first_place a) a) (choice_now k (choice [] (first_place a) a) [] e))
    inside_counted_lem k a (counted_more x b c) e =
        ap₂ ◌++◌ (inside_now k (choice [] (first_place a) a) (choice_now k (choice [] (first_place a) a) (counted_choices b c) e))
        (inside_counted_lem (k + 1) b c (choice_next k (choice [] (first_place a) a) (counted_choices b c) e))

  -- an alternative without a selector is judged by its number
  module _ (n : ℕ) where
    abbrev pub numbered_at : ℕ → List Fault
    numbered_at k = alternative n k (place_in k) [] (between k k ∷ [])

    pub counted_range : (k : ℕ) (a : Action) (c : Counted) → drop k all ≡ counted_choices a c
        → alternative n k (first_place a) [] (between k k ∷ []) ++ counted_faults n (k + 1) c ≡ range_faults numbered_at k (length (counted_choices a c))
    unfolding counted_choices counted_faults range_faults
    counted_range k a (counted_end x) e =
        ap (λ p. alternative n k p [] (between k k ∷ []) ++ []) (sym (ap (λ y. y.place) (choice_now k (choice [] (first_place a) a) [] e)))
    counted_range k a (counted_more x b c) e =
        ap₂ ◌++◌ (ap (λ p. alternative n k p [] (between k k ∷ [])) (sym (ap (λ y. y.place) (choice_now k (choice [] (first_place a) a) (counted_choices b c) e))))
        (counted_range (k + 1) b c (choice_next k (choice [] (first_place a) a) (counted_choices b c) e))
