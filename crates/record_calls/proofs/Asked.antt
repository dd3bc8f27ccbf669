-- What is asked of a sound record, in the words of the rules. Assumes nothing.
use Rattle.std.specs.Prelude.{None, Option, Some}
use mathlib.Core.Path.{◌≡◌, sym, ap, ◌∙◌}
use mathlib.Core.Bool.{Bool, true, false}
use mathlib.Core.List.{List}
use Prim.Native.Nat.{ℕ, ◌*◌, ◌-◌, ◌≤◌}
use borrow.Author.Tests.{eqb-true, leb-true}
use lib.Dec.{eqb, leb}
use lib.IntN.{ℤ, pos}
use lib.ListN.{length, get_or, take, drop}
use Rattle.rules.specs.declared.Head.{Head}
use Rattle.rules.specs.Record.{natural, layout_in, shape_in, sound, ordered}
use Rattle.rules.specs.Limits.{result_size}
use Rattle.rules.specs.Arguments.{up_to, over_record, short_result, good_components, good_index}
use Rattle.rules.specs.Lookup.{good_indices, places_of, find_nnz_indices_call}
use Rattle.rules.specs.Refusals.{given, refused, lowest}
use Rattle.rules.specs.CountsAndForms.{min_rank_of}
use Rattle.rules.proofs.Same.{both_true}
use Rattle.cells.specs.View.{sign_of}
use Rattle.records.specs.Sound.{SoundRecord}
use Rattle.records.proofs.Sections.{sign_natural}
use Rattle.shapes.proofs.Reading.{none_up_to}
use Rattle.lookups.specs.Indices.{Indices}
use Rattle.lookups.proofs.SoundRecords.{lent_shape}

-- its rank is the one that stands in the slice
pub index_counted : (s index : List ℤ) {h : Head} {b : Bool} → SoundRecord h s → b ≡ good_index index h.rank →
    b ≡ good_index index (natural (get_or s 2 (pos 0)))
unfolding natural
index_counted s index r g = g ∙ rw r.readable.head.rank

-- what was read of the shape is so of the layout's
pub min_rank_read : {s : List ℤ} {h : Head} {n : ℕ} → SoundRecord h s → n ≡ min_rank_of (shape_in (take (length s - 2) (drop 2 s))) →
    n ≡ min_rank_of (layout_in s).shape
min_rank_read r e = e ∙ ap min_rank_of (lent_shape r)

-- ---- many indices

module _ (z : ℤ) (indices : List ℤ) {g : (Option ℕ)} (e : g ≡ sign_of z) where
  -- a count below 0 is none
  pub count_negative : (r : ℕ) → g ≡ None → good_indices z indices r ≡ false
  unfolding good_indices
  count_negative r f = rw (← none_up_to z (sym e ∙ f) result_size)

  module _ {s : List ℤ} {h : Head} {n : ℕ} (r : SoundRecord h s) (f : g ≡ Some n) where
    -- the count is the number that was read, and the rank the one that stands in the slice
    pub indices_counted : {b : Bool} → b ≡ good_indices (pos n) indices h.rank → b ≡ good_indices z indices (natural (get_or s 2 (pos 0)))
    unfolding natural
    indices_counted b = b ∙ rw (sign_natural z (sym e ∙ f), r.readable.head.rank)

    -- what is known of them, where they are good
    module _ (good : good_indices (pos n) indices h.rank ≡ true) where
      tests : (leb n result_size ≡ true) × ((eqb (length indices) (n * h.rank) ≡ true) × (good_components indices ≡ true))
      unfolding good_indices up_to natural
      tests = let t = both_true (leb n result_size) _ good in (t.0, both_true (eqb (length indices) (n * h.rank)) _ t.1)

      pub indices_few : n ≤ result_size
      indices_few = leb-true n result_size tests.0

      pub indices_there : Indices n h.rank indices
      indices_there = record { wide = eqb-true (length indices) (n * h.rank) tests.1.0; good = tests.1.1 }

    -- the places are those of the call
    pub places_are : places_of (layout_in s) h.rank n indices ≡ places_of (layout_in s) (natural (get_or s 2 (pos 0))) (natural z) indices
    unfolding natural
    places_are = rw (sign_natural z (sym e ∙ f), r.readable.head.rank)

-- the reasons of the call, in their order
module _ (s : List ℤ) (z : ℤ) (indices : List ℤ) (size : ℕ) (few : over_record s ≡ false) (long : short_result size ≡ false) (judged : sound s ≡ true) where
  pub call_unordered : ordered s ≡ false → refused 4 ≡ find_nnz_indices_call s z indices size
  unfolding find_nnz_indices_call lowest
  call_unordered o = rw (few, long, judged, o)

  pub call_wrong : ordered s ≡ true → good_indices z indices (natural (get_or s 2 (pos 0))) ≡ false → refused 5 ≡ find_nnz_indices_call s z indices size
  unfolding find_nnz_indices_call lowest
  call_wrong o g = rw (few, long, judged, o, g)

  pub call_given : ordered s ≡ true → good_indices z indices (natural (get_or s 2 (pos 0))) ≡ true →
      given (places_of (layout_in s) (natural (get_or s 2 (pos 0))) (natural z) indices) ≡ find_nnz_indices_call s z indices size
  unfolding find_nnz_indices_call lowest
  call_given o g = rw (few, long, judged, o, g)
