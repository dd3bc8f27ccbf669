-- Dependencies cut short, picked by their places. Assumes nothing.
use mathlib.Core.Path.{◌≡◌, refl, sym, ap, ◌∙◌}
use mathlib.Core.List.{List, [], ◌∷◌, ◌++◌, map}
use Prim.Native.Nat.{ℕ, suc, ◌+◌, ◌-◌, ◌<◌, ◌≤◌}
use native.Mathlib.Nat.{zero-add}
use native.Mathlib.Omega.{arith}
use lib.ListN.{length, get_or, take, drop, length-set, length-append, length-drop, get_or-append}
use lib.Seq.{get_or-take, get_or-drop, get_or-set_same, get_or-set_other, get_or-append-add, length-take-le, ext_get_or}
use Rattle.rules.specs.Lists.{below}
use Rattle.rules.specs.RowsInOrder.{Each}
use Rattle.rules.specs.Dependencies.{index_of, on_index}
use Rattle.rules.proofs.Order.{ComparedNumbers, under, even, above, compare_numbers}
use Rattle.rules.proofs.Ranges.{from_length, from_at}
use Rattle.rules.proofs.Sets.{each_head, each_tail}
use Rattle.moving.specs.Picking.{picked, shorter_places}
use Rattle.moving.proofs.Picking.{picked_length, picked_at}

-- what is made alike of each row is made alike of all
pub map_alike : (f g : List ℕ → List ℕ) (t : List (List ℕ)) → Each (λ r. f r ≡ g r) t → map f t ≡ map g t
map_alike f g [] e = refl
map_alike f g (r ∷ t) e =
    let first = each_head e in
    let rest = map_alike f g t (each_tail e) in
    cc

module _ {kept : ℕ} (r : ℕ) (few : kept ≤ 4) where
  -- ---- the places

  pub places_length : length (shorter_places kept r) ≡ 5
  unfolding shorter_places
  places_length = rw length-set (from_length 0 5)

  first_places : (n : ℕ) → n ≤ kept + 1 → length (take n (shorter_places kept r)) ≡ n
  first_places n h = length-take-le n (shorter_places kept r) (omega (arith, places_length))

  place_before : (k : ℕ) → k < kept → get_or (shorter_places kept r) k 0 ≡ k
  unfolding shorter_places
  place_before k h = get_or-set_other (below 5) kept k r 0 (λ e. omega arith) ∙ from_at 0 5 k 0 (omega arith) ∙ zero-add k

  place_last : get_or (shorter_places kept r) kept 0 ≡ r
  unfolding shorter_places
  place_last = get_or-set_same (below 5) kept r 0 (rw from_length (omega arith))

  -- the number at a place
  picked_number : (n : ℕ) (row : List ℕ) (k : ℕ) → n ≤ kept + 1 → k < n → get_or (picked 0 (take n (shorter_places kept r)) row) k 0 ≡ get_or row (get_or (shorter_places kept r) k 0) 0
  picked_number n row k h l =
      picked_at 0 (take n (shorter_places kept r)) row k (omega (arith, first_places n h))
      ∙ ap (λ (j : ℕ). get_or row j 0) (get_or-take n (shorter_places kept r) k 0 l)

  -- ---- a dependency

  pub dep_shortened : {n : ℕ} → n ≡ kept + 1 → kept ≤ r → (d : List ℕ) → length d ≡ suc r → picked 0 (take n (shorter_places kept r)) d ≡ on_index (take kept) d
  unfolding on_index
  dep_shortened {n} is least d e =
      ext_get_or 0 (picked 0 (take n (shorter_places kept r)) d) front (size ∙ sym front_size)
      (λ k h. at k (compare_numbers k kept) (omega (arith, size)))
    where
      size : length (picked 0 (take n (shorter_places kept r)) d) ≡ n
      size = picked_length 0 (take n (shorter_places kept r)) d ∙ first_places n (omega arith)

      index_size : length (take kept (index_of d)) ≡ kept
      index_size = length-take-le kept (index_of d) (omega (arith, length-take-le (length d - 1) d (omega arith)))

      front : List ℕ
      front = take kept (index_of d) ++ drop (length d - 1) d

      front_size : length front ≡ n
      front_size = rw (length-append, length-drop) (omega (arith, index_size))

      number : (k : ℕ) → k < n → get_or (picked 0 (take n (shorter_places kept r)) d) k 0 ≡ get_or d (get_or (shorter_places kept r) k 0) 0
      number k h = picked_number n d k (omega arith) h

      at : (k : ℕ) → ComparedNumbers k kept → k < n → get_or (picked 0 (take n (shorter_places kept r)) d) k 0 ≡ get_or front k 0
      at k (under h) l =
          number k l ∙ ap (λ (j : ℕ). get_or d j 0) (place_before k h)
          ∙ sym (get_or-append (take kept (index_of d)) (drop (length d - 1) d) 0 k (omega (arith, index_size))
          ∙ get_or-take kept (index_of d) k 0 h
          ∙ get_or-take (length d - 1) d k 0 (omega arith))
      at k (even h) l =
          number k l ∙ ap (λ (j : ℕ). get_or d j 0) (rw h place_last)
          ∙ sym (ap (λ (j : ℕ). get_or front j 0) here
          ∙ get_or-append-add (take kept (index_of d)) (drop (length d - 1) d) 0 0
          ∙ get_or-drop (length d - 1) d 0 0 ∙ ap (λ (j : ℕ). get_or d j 0) last)
        where
          here : k ≡ length (take kept (index_of d)) + 0
          here = omega (arith, index_size)

          last : length d - 1 + 0 ≡ r
          last = omega arith
      at k (above h) l = absurd (omega arith)
