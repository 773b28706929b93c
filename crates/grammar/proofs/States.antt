-- A test that all states pass, computed over them one by one, holds of every state.
-- Assumes nothing.
use mathlib.Core.Bool.{Bool, true, false, ◌&&◌}
use mathlib.Core.List.{List, [], ◌∷◌}
use Prim.Native.Nat.{ℕ, zero, suc}
use lib.Dec.{T}
use lib.ListN.{get_or}
use Rattle.laws_grammar.specs.Cited.Rows.{Site, Use, Part, Owner, State}
use Rattle.laws_grammar.specs.Cited.Rows.{in_block, in_counted, in_selected, in_last, test, choose, value, in_parens, in_subscript, of_expression}
use Rattle.laws_grammar.specs.Cited.Rows.{of_destination, of_mapping, of_words, of_name, of_main, title, title_becomes, title_begin, declaration, heading_name}
use Rattle.laws_grammar.specs.Cited.Rows.{heading_close, declarator, declarator_rest, first_word, word_colon, second_word, words_close, words_bits, own_bits, own_bits_more}
use Rattle.laws_grammar.specs.Cited.Rows.{own_bits_second, own_bits_close, own_bits_done, body_or_mapping, body_begin, mapping_bits, main_name, main_rest, declaration_done, action}
use Rattle.laws_grammar.specs.Cited.Rows.{action_name, jump_target, call_open, destination, action_done, alternatives_begin, call_close, first_alternative, selector, selector_rest}
use Rattle.laws_grammar.specs.Cited.Rows.{selector_second, selector_becomes, otherwise_becomes, list_item, list_item_rest, list_item_second, list_rest, operand, access_rest, access_bits_lem}
use Rattle.laws_grammar.specs.Cited.Rows.{bits_first, bits_more, bits_second, bits_close, part_done}

pub both_parts : (a b : Bool) → T (a && b) → T a × T b
both_parts true b t = (tt, t)
both_parts false b t = absurd t

abbrev all : List Bool → Bool
all [] = true
all (b ∷ bs) = b && all bs

nth : (bs : List Bool) (i : ℕ) → T (all bs) → T (get_or bs i true)
nth [] i t = tt
nth (b ∷ bs) zero t = (both_parts b (all bs) t).0
nth (b ∷ bs) (suc i) t = nth bs i (both_parts b (all bs) t).1

abbrev of_sites : (Site → Bool) → List Bool
of_sites f = f in_block ∷ f in_counted ∷ f in_selected ∷ f in_last ∷ []

each_site : (f : Site → Bool) → T (all (of_sites f)) → (c : Site) → T (f c)
each_site f t in_block = nth (of_sites f) 0 t
each_site f t in_counted = nth (of_sites f) 1 t
each_site f t in_selected = nth (of_sites f) 2 t
each_site f t in_last = nth (of_sites f) 3 t

abbrev of_uses : (Use → Bool) → List Bool
of_uses f =
    all (of_sites (λ c. f (test c)))
    ∷ all (of_sites (λ c. f (choose c)))
    ∷ all (of_sites (λ c. f (value c)))
    ∷ f in_parens
    ∷ f in_subscript
    ∷ []

each_use : (f : Use → Bool) → T (all (of_uses f)) → (u : Use) → T (f u)
each_use f t (test c) = each_site (λ c. f (test c)) (nth (of_uses f) 0 t) c
each_use f t (choose c) = each_site (λ c. f (choose c)) (nth (of_uses f) 1 t) c
each_use f t (value c) = each_site (λ c. f (value c)) (nth (of_uses f) 2 t) c
each_use f t in_parens = nth (of_uses f) 3 t
each_use f t in_subscript = nth (of_uses f) 4 t

abbrev of_parts : (Part → Bool) → List Bool
of_parts f =
    all (of_uses (λ u. f (of_expression u)))
    ∷ all (of_sites (λ c. f (of_destination c)))
    ∷ f of_mapping
    ∷ []

each_part : (f : Part → Bool) → T (all (of_parts f)) → (q : Part) → T (f q)
each_part f t (of_expression u) = each_use (λ u. f (of_expression u)) (nth (of_parts f) 0 t) u
each_part f t (of_destination c) = each_site (λ c. f (of_destination c)) (nth (of_parts f) 1 t) c
each_part f t of_mapping = nth (of_parts f) 2 t

abbrev of_owners : (Owner → Bool) → List Bool
of_owners f = f of_words ∷ f of_name ∷ f of_main ∷ []

each_owner : (f : Owner → Bool) → T (all (of_owners f)) → (w : Owner) → T (f w)
each_owner f t of_words = nth (of_owners f) 0 t
each_owner f t of_name = nth (of_owners f) 1 t
each_owner f t of_main = nth (of_owners f) 2 t

abbrev of_states : (State → Bool) → List Bool
of_states f =
    f title
    ∷ f title_becomes
    ∷ f title_begin
    ∷ f declaration
    ∷ f heading_name
    ∷ f heading_close
    ∷ f declarator
    ∷ f declarator_rest
    ∷ f first_word
    ∷ f word_colon
    ∷ f second_word
    ∷ f words_close
    ∷ f words_bits
    ∷ all (of_owners (λ w. f (own_bits w)))
    ∷ all (of_owners (λ w. f (own_bits_more w)))
    ∷ all (of_owners (λ w. f (own_bits_second w)))
    ∷ all (of_owners (λ w. f (own_bits_close w)))
    ∷ all (of_owners (λ w. f (own_bits_done w)))
    ∷ f body_or_mapping
    ∷ f body_begin
    ∷ f mapping_bits
    ∷ f main_name
    ∷ f main_rest
    ∷ f declaration_done
    ∷ all (of_sites (λ c. f (action c)))
    ∷ all (of_sites (λ c. f (action_name c)))
    ∷ all (of_sites (λ c. f (jump_target c)))
    ∷ all (of_sites (λ c. f (call_open c)))
    ∷ all (of_sites (λ c. f (destination c)))
    ∷ all (of_sites (λ c. f (action_done c)))
    ∷ all (of_sites (λ c. f (alternatives_begin c)))
    ∷ f call_close
    ∷ f first_alternative
    ∷ f selector
    ∷ f selector_rest
    ∷ f selector_second
    ∷ f selector_becomes
    ∷ f otherwise_becomes
    ∷ f list_item
    ∷ f list_item_rest
    ∷ f list_item_second
    ∷ f list_rest
    ∷ all (of_uses (λ u. f (operand u)))
    ∷ all (of_parts (λ q. f (access_rest q)))
    ∷ all (of_parts (λ q. f (access_bits_lem q)))
    ∷ all (of_parts (λ q. f (bits_first q)))
    ∷ all (of_parts (λ q. f (bits_more q)))
    ∷ all (of_parts (λ q. f (bits_second q)))
    ∷ all (of_parts (λ q. f (bits_close q)))
    ∷ all (of_parts (λ q. f (part_done q)))
    ∷ []

abbrev pub states : (State → Bool) → Bool
states f = all (of_states f)

pub each_state : (f : State → Bool) → T (states f) → (s : State) → T (f s)
each_state f t title = nth (of_states f) 0 t
each_state f t title_becomes = nth (of_states f) 1 t
each_state f t title_begin = nth (of_states f) 2 t
each_state f t declaration = nth (of_states f) 3 t
each_state f t heading_name = nth (of_states f) 4 t
each_state f t heading_close = nth (of_states f) 5 t
each_state f t declarator = nth (of_states f) 6 t
each_state f t declarator_rest = nth (of_states f) 7 t
each_state f t first_word = nth (of_states f) 8 t
each_state f t word_colon = nth (of_states f) 9 t
each_state f t second_word = nth (of_states f) 10 t
each_state f t words_close = nth (of_states f) 11 t
each_state f t words_bits = nth (of_states f) 12 t
each_state f t (own_bits w) = each_owner (λ w. f (own_bits w)) (nth (of_states f) 13 t) w
each_state f t (own_bits_more w) = each_owner (λ w. f (own_bits_more w)) (nth (of_states f) 14 t) w
each_state f t (own_bits_second w) = each_owner (λ w. f (own_bits_second w)) (nth (of_states f) 15 t) w
each_state f t (own_bits_close w) = each_owner (λ w. f (own_bits_close w)) (nth (of_states f) 16 t) w
each_state f t (own_bits_done w) = each_owner (λ w. f (own_bits_done w)) (nth (of_states f) 17 t) w
each_state f t body_or_mapping = nth (of_states f) 18 t
each_state f t body_begin = nth (of_states f) 19 t
each_state f t mapping_bits = nth (of_states f) 20 t
each_state f t main_name = nth (of_states f) 21 t
each_state f t main_rest = nth (of_states f) 22 t
each_state f t declaration_done = nth (of_states f) 23 t
each_state f t (action c) = each_site (λ c. f (action c)) (nth (of_states f) 24 t) c
each_state f t (action_name c) = each_site (λ c. f (action_name c)) (nth (of_states f) 25 t) c
each_state f t (jump_target c) = each_site (λ c. f (jump_target c)) (nth (of_states f) 26 t) c
each_state f t (call_open c) = each_site (λ c. f (call_open c)) (nth (of_states f) 27 t) c
each_state f t (destination c) = each_site (λ c. f (destination c)) (nth (of_states f) 28 t) c
each_state f t (action_done c) = each_site (λ c. f (action_done c)) (nth (of_states f) 29 t) c
each_state f t (alternatives_begin c) = each_site (λ c. f (alternatives_begin c)) (nth (of_states f) 30 t) c
each_state f t call_close = nth (of_states f) 31 t
each_state f t first_alternative = nth (of_states f) 32 t
each_state f t selector = nth (of_states f) 33 t
each_state f t selector_rest = nth (of_states f) 34 t
each_state f t selector_second = nth (of_states f) 35 t
each_state f t selector_becomes = nth (of_states f) 36 t
each_state f t otherwise_becomes = nth (of_states f) 37 t
each_state f t list_item = nth (of_states f) 38 t
each_state f t list_item_rest = nth (of_states f) 39 t
each_state f t list_item_second = nth (of_states f) 40 t
each_state f t list_rest = nth (of_states f) 41 t
each_state f t (operand u) = each_use (λ u. f (operand u)) (nth (of_states f) 42 t) u
each_state f t (access_rest q) = each_part (λ q. f (access_rest q)) (nth (of_states f) 43 t) q
each_state f t (access_bits_lem q) = each_part (λ q. f (access_bits_lem q)) (nth (of_states f) 44 t) q
each_state f t (bits_first q) = each_part (λ q. f (bits_first q)) (nth (of_states f) 45 t) q
each_state f t (bits_more q) = each_part (λ q. f (bits_more q)) (nth (of_states f) 46 t) q
each_state f t (bits_second q) = each_part (λ q. f (bits_second q)) (nth (of_states f) 47 t) q
each_state f t (bits_close q) = each_part (λ q. f (bits_close q)) (nth (of_states f) 48 t) q
each_state f t (part_done q) = each_part (λ q. f (part_done q)) (nth (of_states f) 49 t) q
