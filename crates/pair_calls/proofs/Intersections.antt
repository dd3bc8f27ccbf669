-- `intersect`: reason 4, and two ordered records in a window. Assumes nothing.
use mathlib.Core.Path.{◌≡◌, ◌∙◌}
use mathlib.Core.Bool.{Bool, true, false, not, ◌&&◌}
use mathlib.Core.List.{List, [], ◌∷◌}
use Prim.Native.Nat.{◌≤◌}
use lib.IntN.{ℤ}
use lib.ListN.{length}
use Rattle.rules.specs.declared.Head.{Head}
use Rattle.rules.specs.declared.Refusal.TheVariants.{Unordered}
use Rattle.rules.specs.Limits.{work_size}
use Rattle.rules.specs.RowsInOrder.{increasing}
use Rattle.rules.specs.Refusals.{given, refused, number_of, Reason, ◌when◌, lowest}
use Rattle.rules.specs.Record.{layout_in, sound, ordered}
use Rattle.rules.proofs.Same.{both_true}
use Rattle.records.specs.Sound.{SoundRecord}
use Rattle.parts.specs.Parts.{window_size}
use Rattle.parts.specs.Answers.{PairLoaded}
use Rattle.parts.proofs.Lent.{lent_of, back_in}
use Rattle.parts.proofs.Windows.{window_again}
use Rattle.judging.proofs.SoundRecords.{pair_passed}
use Rattle.intersecting.specs.Intersecting.{OrderedWindow}

-- ---- in order

-- both of two tests hold, as they were told
pub both_told : (a b : Bool) {p q r : Bool} → p ≡ a → q ≡ b → r ≡ (p && q) → r ≡ (a && b)
both_told a b p-is q-is e = e ∙ rw (p-is, q-is)

-- 4, unless both are in order
abbrev pub order : List ℤ → List ℤ → List Reason
order s t = 4 when not (ordered s && ordered t) ∷ []

module _ (s t : List ℤ) {b : Bool} (b-is : b ≡ (ordered s && ordered t)) where
  pub unordered : b ≡ false → {x y : Head} → SoundRecord x s → SoundRecord y t → lowest (3 when not (sound s && sound t) ∷ order s t) ≡ refused (number_of Unordered)
  unfolding lowest number_of
  unordered e p q = pair_passed s t (order s t) p q ∙ rw (← b-is, e)

  pub in_order : b ≡ true → lowest (order s t) ≡ given tt
  unfolding lowest
  in_order e = rw (← b-is, e)

  rows_rise : b ≡ true → (increasing (layout_in s).rows ≡ true) × (increasing (layout_in t).rows ≡ true)
  unfolding ordered
  rows_rise e =
      let both = both_true (ordered s) (ordered t) (b_is' ∙ e) in
      ((both_true (sound s) (increasing (layout_in s).rows) both.0).1, (both_true (sound t) (increasing (layout_in t).rows) both.1).1)
    where
      b_is' : ordered s && ordered t ≡ b
      b_is' = rw b-is

  -- the window that came back with both records has them in order
  pub ordered_in_window : b ≡ true → (work : List ℤ) → work_size ≤ length work → {w : List ℤ} → PairLoaded s t w → length w ≡ length (lent_of 0 window_size work) →
      OrderedWindow (lent_of 0 window_size (back_in 0 window_size work w))
  ordered_in_window e work long {w} p w-size =
      rw (window_again work long w w-size)
      (record { window = p.holds; left_ordered = rw p.first (rows_rise e).0; right_ordered = rw p.second (rows_rise e).1 })
