-- A pile of records under any exchanges: all that is said of a pile of layouts holds of what is left in its slots. Assumes nothing.
use mathlib.Core.Path.{◌≡◌, refl, sym, ap, ◌∙◌}
use mathlib.Core.Bool.{Bool, true, false}
use mathlib.Core.List.{List, [], ◌∷◌, map}
use Prim.Native.Nat.{ℕ, ◌+◌, ◌%◌, ◌<◌}
use native.Mathlib.Omega.{arith}
use lib.Dec.{eqb}
use lib.IntN.{ℤ, pos}
use lib.ListN.{length}
use Rattle.rules.specs.Limits.{work_size}
use Rattle.rules.specs.Lists.{all}
use Rattle.rules.specs.Refusals.{Verdict, given, refused, in_form, ◌then◌, ◌when◌, lowest}
use Rattle.rules.specs.Record.{layout_in}
use Rattle.rules.specs.Arguments.{short_work}
use Rattle.rules.specs.Lookup.{lookup, find_nnz_index_call}
use Rattle.rules.specs.CountsAndForms.{nnz_call}
use Rattle.rules.specs.Holding.{held_positions}
use Rattle.rules.specs.Union.{union_call}
use Rattle.rules.specs.Intersect.{intersect_call}
use Rattle.rules.specs.Pile.{are_two_places, belongs, exchange, given_or, exchanged, one_if_given, exchanges_made, slot_count, slot_at, sound_slots, layouts_in, exchange_call, Exchanges, one_more, exchanges_from, exchange_all_call, exchanges_in}
use Rattle.rules.proofs.Holding.{Position}
use Rattle.rules.proofs.Unions.{never}
use Rattle.rules.proofs.Calls.{nnz_call_lem, lookup_position}
use Rattle.rules.proofs.Piled.{Piled, piled_shape, piled_ordered}
use Rattle.rules.proofs.PiledPairs.{overfull}
use Rattle.rules.proofs.ExchangeMade.{at_place}
use Rattle.rules.proofs.ExchangeKeeps.{ExchangedAt, Keeps, piled_at, exchange_holds, exchange_keeps, exchange_over, exchange_only_13}
use Rattle.rules.proofs.Piles.{pile_keeps, Counted, piled_counted}
use Rattle.rules.proofs.Slots.{slots_true, layouts_length, layouts_at_lem}
use Rattle.rules.proofs.PileRecords.{Kept, kept_same, kept_both, exchange_written, written_kept, exchange_records}

-- ---- one exchange

-- what it leaves of a pile of records: two layouts exchanged, all else of the layouts and of the slice as it was
pub record Leaves (shape : List ℕ) (first second : ℤ) (pile new : List ℤ) : Type 0 where
  pub exchanged_at : ExchangedAt first second (layouts_in pile) (layouts_in new)
  pub keeps : Keeps shape (layouts_in pile) (layouts_in new)
  pub kept : Kept pile new

module _ (pile : List ℤ) (first second : ℤ) (work : ℕ) where
  -- with a short working buffer it is refused with 2
  exchange_short : short_work work ≡ true → exchange_call pile first second work ≡ refused 2
  unfolding exchange_call lowest
  exchange_short t = rw t

  -- so where it is given, there was room
  had_room : {new : List ℤ} → exchange_call pile first second work ≡ given new → short_work work ≡ false
  had_room e = go (short_work work) refl
    where
      go : (t : Bool) → short_work work ≡ t → t ≡ false
      go true t = absurd (never (sym (exchange_short t) ∙ e))
      go false t = refl

  -- and with room it is as with a working buffer of full size
  pub exchange_enough : short_work work ≡ false → exchange_call pile first second work ≡ exchange_call pile first second work_size
  unfolding exchange_call union_call intersect_call lowest
  exchange_enough t = rw t

-- an exchange that is given leaves this of a pile
pub exchange_leaves : (shape : List ℕ) (pile : List ℤ) (first second : ℤ) (work : ℕ) {new : List ℤ} → sound_slots pile ≡ true → all (belongs shape) (layouts_in pile) ≡ true →
    exchange_call pile first second work ≡ given new → Leaves shape first second pile new
exchange_leaves shape pile first second work {new} s p e =
    let same : exchange first second (layouts_in pile) ≡ given (layouts_in new) = sym (exchange_records pile first second work (had_room pile first second work e) s) ∙ ap (in_form layouts_in) e in
    record {
      exchanged_at = exchange_holds shape first second (layouts_in pile) p same;
      keeps = exchange_keeps shape first second (layouts_in pile) p same;
      kept = written_kept (exchange_written pile first second work e);
    }

-- a verdict whose layouts are refused is refused so
refused_before : (v : Verdict (List ℤ)) {n : ℕ} → in_form layouts_in v ≡ refused n → v ≡ refused n
refused_before (given new) e = absurd (never (sym e))
refused_before (refused m) e = cc

-- two places of a pile of records, and a working buffer that is not short
module _ (shape : List ℕ) (pile : List ℤ) (first second : ℤ) (work : ℕ) (s : sound_slots pile ≡ true) (p : all (belongs shape) (layouts_in pile) ≡ true)
    (w : short_work work ≡ false) (t : are_two_places first second (length (layouts_in pile)) ≡ true) where
  -- an exchange is refused with 13 where both are sparse and their rows together are more than 128
  pub call_over : overfull (at_place (layouts_in pile) first) (at_place (layouts_in pile) second) ≡ true → exchange_call pile first second work ≡ refused 13
  call_over f =
      refused_before (exchange_call pile first second work) (exchange_records pile first second work w s ∙ exchange_over shape first second (layouts_in pile) p t f)

  -- and with no other number, nor elsewhere
  pub call_only_13 : {n : ℕ} → exchange_call pile first second work ≡ refused n →
      (n ≡ 13) × (overfull (at_place (layouts_in pile) first) (at_place (layouts_in pile) second) ≡ true)
  call_only_13 e = exchange_only_13 shape first second (layouts_in pile) p t (sym (exchange_records pile first second work w s) ∙ ap (in_form layouts_in) e)

-- ---- any exchanges

module _ (e : Exchanges) (first second : ℤ) where
  -- one more
  abbrev more : Exchanges
  more = one_more e (exchange_call e.pile first second work_size)

  -- it keeps the slice
  more_kept : Kept e.pile more.pile
  more_kept = go (exchange_call e.pile first second work_size) refl
    where
      go : (v : Verdict (List ℤ)) → exchange_call e.pile first second work_size ≡ v → Kept e.pile (one_more e v).pile
      go (given new) d = written_kept (exchange_written e.pile first second work_size d)
      go (refused n) d = kept_same e.pile

  -- it leaves the layouts that one more exchange of them leaves
  more_layouts : sound_slots e.pile ≡ true → layouts_in more.pile ≡ given_or (layouts_in e.pile) (exchange first second (layouts_in e.pile))
  more_layouts s = rw (← exchange_records e.pile first second work_size refl s) (go (exchange_call e.pile first second work_size))
    where
      go : (v : Verdict (List ℤ)) → layouts_in (one_more e v).pile ≡ given_or (layouts_in e.pile) (in_form layouts_in v)
      go (given new) = refl
      go (refused n) = refl

  -- it is counted as one more exchange of the layouts is
  more_made : sound_slots e.pile ≡ true → more.made ≡ e.made + one_if_given (exchange first second (layouts_in e.pile))
  more_made s = rw (← exchange_records e.pile first second work_size refl s) (go (exchange_call e.pile first second work_size))
    where
      go : (v : Verdict (List ℤ)) → (one_more e v).made ≡ e.made + one_if_given (in_form layouts_in v)
      go (given new) = omega arith
      go (refused n) = omega arith

-- they keep the slice
pub records_kept : (pairs : List ℤ) (e : Exchanges) → Kept e.pile (exchanges_from e pairs).pile
unfolding exchanges_from
records_kept [] e = kept_same e.pile
records_kept (first ∷ []) e = kept_same e.pile
records_kept (first ∷ second ∷ pairs) e = kept_both (more_kept e first second) (records_kept pairs (more e first second))

-- they leave the layouts that the same exchanges of layouts leave
pub records_exchanged : (pairs : List ℤ) (e : Exchanges) → sound_slots e.pile ≡ true →
    layouts_in (exchanges_from e pairs).pile ≡ exchanged (exchanges_in pairs) (layouts_in e.pile)
unfolding exchanges_from exchanges_in exchanged
records_exchanged [] e s = refl
records_exchanged (first ∷ []) e s = refl
records_exchanged (first ∷ second ∷ pairs) e s =
    records_exchanged pairs (more e first second) ((more_kept e first second).stay_sound s)
    ∙ ap (exchanged (exchanges_in pairs)) (more_layouts e first second s)

-- as many of them are made
pub records_made : (pairs : List ℤ) (e : Exchanges) → sound_slots e.pile ≡ true →
    (exchanges_from e pairs).made ≡ e.made + exchanges_made (exchanges_in pairs) (layouts_in e.pile)
unfolding exchanges_from exchanges_in exchanges_made
records_made [] e s = omega arith
records_made (first ∷ []) e s = omega arith
records_made (first ∷ second ∷ pairs) e s =
    records_made pairs (more e first second) ((more_kept e first second).stay_sound s)
    ∙ (rw (more_layouts e first second s) (omega (arith, more_made e first second s)))

-- what they leave of a pile of records: sound records of the layouts that the exchanges give, which keep all that a pile
-- keeps; the number of those that were made; and all else of the slice as it was
pub record LeftBy (shape : List ℕ) (pairs pile : List ℤ) (e : Exchanges) : Type 0 where
  pub sounds : sound_slots e.pile ≡ true
  pub made_is : e.made ≡ exchanges_made (exchanges_in pairs) (layouts_in pile)
  pub layouts : layouts_in e.pile ≡ exchanged (exchanges_in pairs) (layouts_in pile)
  pub keeps : Keeps shape (layouts_in pile) (layouts_in e.pile)
  pub kept : Kept pile e.pile

-- all pairs of a list were tried, where the call is given
all_tried : (pile pairs : List ℤ) (work : ℕ) {e : Exchanges} → exchange_all_call pile pairs work ≡ given e → exchanges_from (record { made = 0; pile = pile }) pairs ≡ e
unfolding exchange_all_call lowest
all_tried pile pairs work {e} d = go (short_work work) (eqb (length pairs % 2) 1) d
  where
    tried : Exchanges
    tried = exchanges_from (record { made = 0; pile = pile }) pairs

    go : (t u : Bool) → (lowest (2 when t ∷ 5 when u ∷ []) then λ _. given tried) ≡ given e → tried ≡ e
    go true u d = absurd (never d)
    go false true d = absurd (never d)
    go false false d = cc

-- all pairs of a list leave this of a pile
pub exchange_all_leaves : (shape : List ℕ) (pile pairs : List ℤ) (work : ℕ) {e : Exchanges} → sound_slots pile ≡ true → all (belongs shape) (layouts_in pile) ≡ true →
    exchange_all_call pile pairs work ≡ given e → LeftBy shape pairs pile e
exchange_all_leaves shape pile pairs work {e} s p d =
    rw (← all_tried pile pairs work d)
    (record {
      sounds = kept.stay_sound s;
      made_is = records_made pairs start s ∙ omega arith;
      layouts = layouts;
      keeps = rw layouts (pile_keeps (exchanges_in pairs) (layouts_in pile) p);
      kept = kept;
    })
  where
    start : Exchanges
    start = record { made = 0; pile = pile }

    kept : Kept pile (exchanges_from start pairs).pile
    kept = records_kept pairs start

    layouts : layouts_in (exchanges_from start pairs).pile ≡ exchanged (exchanges_in pairs) (layouts_in pile)
    layouts = records_exchanged pairs start s

-- ---- what calls on the slots answer

-- `nnz` answers how many positions its layout holds; a lookup answers as the layout's own, and finds a position of the shape
-- exactly if it is held, at its place
pub record Answers (shape : List ℕ) (s : List ℤ) : Type 0 where
  pub nnz_answer : nnz_call s ≡ given (length (held_positions (layout_in s)))
  pub lookup_answer : (q : List ℕ) → Position shape q → find_nnz_index_call s (map pos q) ≡ given (lookup (layout_in s) q)
  pub counted : Counted shape (layout_in s)

-- so do the slots of a pile of records
pub slots_answer : (shape : List ℕ) (pile : List ℤ) → sound_slots pile ≡ true → all (belongs shape) (layouts_in pile) ≡ true → (k : ℕ) → k < slot_count pile → Answers shape (slot_at pile k)
slots_answer shape pile s p k h = record {
  nnz_answer = nnz_call_lem (slot_at pile k) (slots_true pile s k h) ∙ ap given counts.nnz_is;
  lookup_answer = λ q n. lookup_position (slot_at pile k) (slots_true pile s k h) (piled_ordered piled) q (rw (piled_shape piled) n);
  counted = counts;
}
  where
    piled : Piled shape (layout_in (slot_at pile k))
    piled = rw (layouts_at_lem pile k h) at (piled_at (layouts_in pile) p k (rw (layouts_length pile) h))

    counts : Counted shape (layout_in (slot_at pile k))
    counts = piled_counted piled
