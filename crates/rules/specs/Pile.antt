-- The pile: layouts of one shape, of which two are exchanged for their union and their intersection, any number of times; and the
-- same on a slice of records.
use Rattle.std.specs.Prelude.{Result, ⊤}
use Rattle.rules.specs.declared.Refusal.{Refusal}
use Rattle.std.specs.Prelude.{◌≡◌, Bool, true, false, not, ◌&&◌, ◌||◌, List, [], ◌∷◌, map, ℕ, suc, ◌+◌, ◌*◌, ◌/◌, ◌%◌, ℤ, pos, negsuc, length, get_or, set, eqb, ltb}
use Rattle.rules.specs.Limits.{result_size, work_size}
use Rattle.rules.specs.Lists.{all, none, keep, below, sum, same}
use Rattle.rules.specs.Buffers.{part, put}
use Rattle.rules.specs.RowsInOrder.{increasing}
use Rattle.rules.specs.Refusals.{Verdict, given, refused, in_form, ◌then◌, ◌when◌, lowest}
use Rattle.rules.specs.Layout.{Layout, is_dense, is_sparse, sound_layout, encode}
use Rattle.rules.specs.Record.{natural, layout_in, nowhere, sound}
use Rattle.rules.specs.Arguments.{short_work}
use Rattle.rules.specs.Endings.{Lookup, found, nothing, says, work_after}
use Rattle.rules.specs.Lookup.{lookup}
use Rattle.rules.specs.CountsAndForms.{nnz}
use Rattle.rules.specs.Union.{union_call}
use Rattle.rules.specs.Intersect.{intersect_call}

-- ---- places

-- a place: a natural number below the count
abbrev pub is_place : ℤ → ℕ → Bool
is_place (pos i) n = ltb i n
is_place (negsuc i) n = false

-- two different places
abbrev pub are_two_places : ℤ → ℤ → ℕ → Bool
are_two_places i j n = is_place i n && is_place j n && not (eqb (natural i) (natural j))

-- what is given; the old where it is refused
abbrev pub given_or : {A : Type 0} → A → Verdict A → A
given_or old (given new) = new
given_or old (refused n) = old

-- ---- a pile of layouts

-- dense, or ordered sparse without dense axes
abbrev pub dense_or_listed : Layout → Bool
dense_or_listed l = is_dense l || (is_sparse l && eqb l.dense 0 && increasing l.rows)

-- a layout of a pile: sound, of the pile's shape, free of dependencies, dense or ordered sparse without dense axes
unfoldable pub belongs : List ℕ → Layout → Bool
belongs shape l = sound_layout l && same l.shape shape && none l.states && none l.inputs && dense_or_listed l

-- the layout at a place
abbrev pub layout_of : List Layout → ℕ → Layout
layout_of pile i = get_or pile i nowhere

-- the calls on the records of two layouts, with buffers of full size
abbrev pub union_of : Layout → Layout → Verdict Layout
union_of a b = union_call (encode a) (encode b) result_size work_size

abbrev pub intersection_of : Layout → Layout → Verdict Layout
intersection_of a b = intersect_call (encode a) (encode b) result_size work_size

-- one exchange: 5 if these are not two different places of the pile, then as the two calls refuse; the union comes to the first
-- place, the intersection to the second
unfoldable pub exchange : ℤ → ℤ → List Layout → Verdict (List Layout)
exchange first second pile =
    let i : ℕ = natural first in
    let j : ℕ = natural second in
    lowest (5 when not (are_two_places first second (length pile)) ∷ []) then λ _.
    union_of (layout_of pile i) (layout_of pile j) then λ either.
    intersection_of (layout_of pile i) (layout_of pile j) then λ both.
    given (set (set pile i either) j both)

-- the places of an exchange
pub record Exchange : Type 0 where
  pub first : ℤ
  pub second : ℤ

-- any exchanges, one after the other; a refused one is not made
unfoldable pub exchanged : List Exchange → List Layout → List Layout
exchanged [] pile = pile
exchanged (x ∷ rest) pile = exchanged rest (given_or pile (exchange x.first x.second pile))

-- one where it is given, none where it is refused
abbrev pub one_if_given : {A : Type 0} → Verdict A → ℕ
one_if_given (given new) = 1
one_if_given (refused n) = 0

-- how many of them are made
unfoldable pub exchanges_made : List Exchange → List Layout → ℕ
exchanges_made [] pile = 0
exchanges_made (x ∷ rest) pile =
    let v : Verdict (List Layout) = exchange x.first x.second pile in
    one_if_given v + exchanges_made rest (given_or pile v)

-- ---- what is counted

abbrev pub is_found : Lookup → Bool
is_found (found n) = true
is_found nothing = false

-- whether the lookup of a layout finds an index
abbrev pub finds : List ℕ → Layout → Bool
finds index l = is_found (lookup l index)

-- the number of layouts whose lookup finds an index
unfoldable pub how_many : List ℕ → List Layout → ℕ
how_many index pile = length (keep (finds index) pile)

-- the sum of `nnz`
unfoldable pub nonzeros : List Layout → ℕ
nonzeros pile = sum (map nnz pile)

-- ---- a pile of records

-- one slice of slots of 1,802 numbers, as many as fit whole
abbrev pub slot_count : List ℤ → ℕ
slot_count pile = length pile / result_size

abbrev pub slot_at : List ℤ → ℕ → List ℤ
slot_at pile i = part (i * result_size) result_size pile

-- each slot has a sound record
abbrev pub sound_slots : List ℤ → Bool
sound_slots pile = all (λ i. sound (slot_at pile i)) (below (slot_count pile))

-- the layouts of the records in the slots
abbrev pub layouts_in : List ℤ → List Layout
layouts_in pile = map (λ i. layout_in (slot_at pile i)) (below (slot_count pile))

-- one exchange: 2, then 5, then as the two calls refuse; the new numbers of the whole pile
unfoldable pub exchange_call : List ℤ → ℤ → ℤ → ℕ → Verdict (List ℤ)
exchange_call pile first second work =
    let i : ℕ = natural first in
    let j : ℕ = natural second in
    lowest (2 when short_work work ∷ 5 when not (are_two_places first second (slot_count pile)) ∷ []) then λ _.
    union_call (slot_at pile i) (slot_at pile j) result_size work then λ either.
    intersect_call (slot_at pile i) (slot_at pile j) result_size work then λ both.
    given (put (j * result_size) (encode both) (put (i * result_size) (encode either) pile))

-- how many exchanges were made, and the pile after them
pub record Exchanges : Type 0 where
  pub made : ℕ
  pub pile : List ℤ

-- one more, counted if it was made
abbrev pub one_more : Exchanges → Verdict (List ℤ) → Exchanges
one_more e (given new) = record { made = suc e.made; pile = new }
one_more e (refused n) = e

-- exchanges one after the other, two numbers of the list for each
unfoldable pub exchanges_from : Exchanges → List ℤ → Exchanges
exchanges_from e [] = e
exchanges_from e (first ∷ []) = e
exchanges_from e (first ∷ second ∷ pairs) = exchanges_from (one_more e (exchange_call e.pile first second work_size)) pairs

-- all pairs of a list: 2, then 5 if it has an odd count of numbers
unfoldable pub exchange_all_call : List ℤ → List ℤ → ℕ → Verdict Exchanges
exchange_all_call pile pairs work =
    lowest (2 when short_work work ∷ 5 when eqb (length pairs % 2) 1 ∷ []) then λ _.
    given (exchanges_from (record { made = 0; pile = pile }) pairs)

-- the exchanges that such a list asks for
unfoldable pub exchanges_in : List ℤ → List Exchange
exchanges_in [] = []
exchanges_in (first ∷ []) = []
exchanges_in (first ∷ second ∷ pairs) = record { first = first; second = second } ∷ exchanges_in pairs

-- ---- how an exchange ends

-- the end of an exchange: its answer, the pile, which stays where it is refused, and the working buffer
pub record Exchanged (v : Verdict (List ℤ)) (pile work : List ℤ) (r : Result ⊤ Refusal) (pile' work' : List ℤ) : Type 0 where
  pub answer : says r ≡ in_form (λ _. tt) v
  pub pile_is : pile' ≡ given_or pile v
  pub work_is : work' ≡ work_after v work

-- the end of many: how many were made, the pile after them, and the working buffer
pub record AllExchanged (v : Verdict Exchanges) (pile work : List ℤ) (r : Result ℕ Refusal) (pile' work' : List ℤ) : Type 0 where
  pub answer : says r ≡ in_form (λ e. e.made) v
  pub pile_is : pile' ≡ given_or pile (in_form (λ e. e.pile) v)
  pub work_is : work' ≡ work_after (in_form (λ e. e.pile) v) work
