-- What exchanges keep of a pile of records: facts about its slice, and about what calls answer of its slots.
use Rattle.std.specs.Prelude.{◌≡◌, Bool, true, false, ◌&&◌, ◌||◌, List, [], ◌∷◌, map, ℕ, suc, ◌*◌, ◌<◌, ℤ, pos, length, drop}
use Rattle.rules.specs.Limits.{result_size, work_size}
use Rattle.rules.specs.Lists.{all, keep, below, sum}
use Rattle.rules.specs.Refusals.{Verdict, given, refused}
use Rattle.rules.specs.Record.{natural, layout_in}
use Rattle.rules.specs.Endings.{Lookup, found}
use Rattle.rules.specs.Lookup.{find_nnz_index_call}
use Rattle.rules.specs.CountsAndForms.{nnz_call}
use Rattle.rules.specs.Holding.{is_position, holds, held_positions, held_before}
use Rattle.rules.specs.Union.{union_call}
use Rattle.rules.specs.Intersect.{intersect_call}
use Rattle.rules.specs.Pile.{are_two_places, given_or, belongs, is_found, slot_count, slot_at, sound_slots, layouts_in}

-- a slice whose slots hold sound records of one shape, free of dependencies, each dense or ordered sparse without dense axes
abbrev pub is_pile : List ℕ → List ℤ → Bool
is_pile shape pile = sound_slots pile && all (belongs shape) (layouts_in pile)

-- ---- one exchange

abbrev pub is_given : {A : Type 0} → Verdict A → Bool
is_given (given x) = true
is_given (refused n) = false

-- two different places, and both calls on their records answer, with buffers of full size
abbrev pub can_exchange : List ℤ → ℤ → ℤ → Bool
can_exchange pile first second =
    let s : List ℤ = slot_at pile (natural first) in
    let t : List ℤ = slot_at pile (natural second) in
    are_two_places first second (slot_count pile)
    && is_given (union_call s t result_size work_size) && is_given (intersect_call s t result_size work_size)

-- whether the layout in a slot holds a position
abbrev pub slot_holds : List ℤ → ℕ → List ℕ → Bool
slot_holds pile k q = holds (layout_in (slot_at pile k)) q

-- an exchange that was made: slot i holds what either held, slot j what both held, every other slot is as it was, and a pile of the shape
-- is left, as long as it was
pub record MadeAt (shape : List ℕ) (i j : ℕ) (old new : List ℤ) : Type 0 where
  pub first_holds : (q : List ℕ) → slot_holds new i q ≡ slot_holds old i q || slot_holds old j q
  pub second_holds : (q : List ℕ) → slot_holds new j q ≡ slot_holds old i q && slot_holds old j q
  pub others_stay : (k : ℕ) → (k ≡ i → ⊥) → (k ≡ j → ⊥) → slot_at new k ≡ slot_at old k
  pub pile_left : is_pile shape new ≡ true
  pub as_long : length new ≡ length old

-- ---- exchanges one after the other

-- two numbers for each; it is made exactly if it can be, and so many are made of an old pile that becomes a new one
pub data Tried (shape : List ℕ) : List ℤ → ℕ → List ℤ → List ℤ → Type 0 where
  none_left : {pile : List ℤ} → Tried shape [] 0 pile pile
  made_then : {first second : ℤ} {pairs : List ℤ} {made : ℕ} {old next new : List ℤ} → can_exchange old first second ≡ true →
      MadeAt shape (natural first) (natural second) old next → Tried shape pairs made next new → Tried shape (first ∷ second ∷ pairs) (suc made) old new
  not_made_then : {first second : ℤ} {pairs : List ℤ} {made : ℕ} {old new : List ℤ} → can_exchange old first second ≡ false →
      Tried shape pairs made old new → Tried shape (first ∷ second ∷ pairs) made old new

-- ---- what calls answer of the slots

abbrev pub answers_found : Verdict Lookup → Bool
answers_found (given answer) = is_found answer
answers_found (refused n) = false

-- whether a lookup in a slot finds a position
abbrev pub slot_finds : List ℤ → List ℕ → ℕ → Bool
slot_finds pile q k = answers_found (find_nnz_index_call (slot_at pile k) (map pos q))

-- the number of slots where a lookup finds it
abbrev pub slots_finding : List ℕ → List ℤ → ℕ
slots_finding q pile = length (keep (slot_finds pile q) (below (slot_count pile)))

-- the sum of what `nnz` answers
abbrev pub nnz_sum : List ℤ → ℕ
nnz_sum pile = sum (map (λ k. given_or 0 (nnz_call (slot_at pile k))) (below (slot_count pile)))

-- ---- all that is kept, where so many exchanges of the pairs of a list were made

pub record PileKept (shape : List ℕ) (pairs : List ℤ) (made : ℕ) (old new : List ℤ) : Type 0 where
  -- each exchange is made exactly if it can be, and does what it is to do
  pub tried : Tried shape pairs made old new
  -- a pile of the shape is left, of as many numbers, and what stands behind its last slot is as it was
  pub still_pile : is_pile shape new ≡ true
  pub as_long : length new ≡ length old
  pub behind_stays : drop (slot_count old * result_size) new ≡ drop (slot_count old * result_size) old
  -- each position is found in as many slots as before, and the sum of `nnz` is the same
  pub found_as_often : (q : List ℕ) → is_position shape q ≡ true → slots_finding q new ≡ slots_finding q old
  pub same_sum : nnz_sum new ≡ nnz_sum old
  -- in each slot: `nnz` answers the number of positions held; a position is found exactly if it is held; and the place that is found is the
  -- number of positions held before it, in lexicographic order
  pub nnz_is : (k : ℕ) → k < slot_count new → nnz_call (slot_at new k) ≡ given (length (held_positions (layout_in (slot_at new k))))
  pub found_if_held : (k : ℕ) → k < slot_count new → (q : List ℕ) → is_position shape q ≡ true → slot_finds new q k ≡ slot_holds new k q
  pub in_order : (k : ℕ) → k < slot_count new → (q : List ℕ) → is_position shape q ≡ true → {place : ℕ} →
      find_nnz_index_call (slot_at new k) (map pos q) ≡ given (found place) → place ≡ held_before (layout_in (slot_at new k)) q
