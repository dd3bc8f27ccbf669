-- `intersect_rows` and `intersect_in`: the intersection by its way. Assumes nothing.
use Rattle.std.specs.Prelude.{Err, Result, ⊤}
use Rattle.rules.specs.declared.Refusal.{Refusal}
use mathlib.Core.Path.{◌≡◌, refl, sym, ◌∙◌}
use mathlib.Core.Bool.{Bool, true, false, ◌&&◌, ◌||◌}
use mathlib.Core.List.{List, []}
use Prim.Native.Nat.{ℕ}
use lib.Dec.{ltb}
use lib.IntN.{ℤ}
use Rattle.rules.specs.declared.Refusal.TheVariants.{ShapesDisagree, DenseAxes, MadeUnsound}
use Rattle.rules.specs.Lists.{if, same}
use Rattle.rules.specs.Refusals.{given, refused, number_of}
use Rattle.rules.specs.Layout.{Layout}
use Rattle.rules.specs.Soundness.{Sound}
use Rattle.rules.specs.CountsAndForms.{dense_if_full}
use Rattle.rules.specs.Removal.{lists_row}
use Rattle.rules.specs.Pairs.{lower_d, bars_expansion, with_merged}
use Rattle.rules.specs.Intersect.{intersect}
use Rattle.rules.proofs.Made.{few_or}
use Rattle.parts.specs.Parts.{left, right, dense_at, layout_at}
use Rattle.combine.specs.declared.window.Way.{Way}
use Rattle.combine.specs.declared.window.Way.TheVariants.{Dense, Diagonals, Rows}
use Rattle.rules.proofs.Sets.{increasing_true}
use Rattle.combine.specs.Window.{way_of, RowsAsked, BothAsked, Rising, merged_states, merged_inputs, shaped, made_step, Made, Combined}
use Rattle.combine.proofs.Ways.{Told, told_diagonals, told_rows, way_told}
use Rattle.combine.proofs.Combining.{combine_refused, combine_told, shapes_same, diagonals_combined}
use Rattle.intersecting.specs.Intersecting.{OrderedWindow, depends, DenseAsked, common_of, few_common, CommonLaid}
use Rattle.intersecting.proofs.Intersects.{intersect_shapes, intersect_diagonals, rows_barred, rows_meet, rows_listed, rows_told}
use Rattle.intersecting.proofs.Others.{makes_intersect}

-- ---- the intersection, by its way

module _ {a b : Layout} (p : Sound a) (q : Sound b) (e : same a.shape b.shape ≡ true) where
  by_diagonals : Told a b Diagonals → intersect a b ≡ few_or (with_merged a b a)
  by_diagonals (told_diagonals f g) = intersect_diagonals a b e f p q g

  by_barred : Told a b Rows → (bars_expansion a || bars_expansion b) ≡ true → intersect a b ≡ refused 11
  by_barred (told_rows f g) h = rows_barred p q e f g h

  by_meeting : Told a b Rows → (bars_expansion a || bars_expansion b) ≡ false → ltb 0 (lower_d a b) && (depends a (lower_d a b) || depends b (lower_d a b)) ≡ true → intersect a b ≡ refused 11
  by_meeting (told_rows f g) h i = rows_meet p q e f g h i

  by_listing : Told a b Rows → (bars_expansion a || bars_expansion b) ≡ false → ltb 0 (lower_d a b) && (depends a (lower_d a b) || depends b (lower_d a b)) ≡ false →
      (lists_row a (lower_d a b) || lists_row b (lower_d a b)) ≡ true → intersect a b ≡ refused 12
  by_listing (told_rows f g) h i j = rows_listed p q e f g h i j

  by_rows_lem : Told a b Rows → (bars_expansion a || bars_expansion b) ≡ false → ltb 0 (lower_d a b) && (depends a (lower_d a b) || depends b (lower_d a b)) ≡ false →
      (lists_row a (lower_d a b) || lists_row b (lower_d a b)) ≡ false → intersect a b ≡ if (few_common a b (lower_d a b)) (given (dense_if_full (common_of a b (lower_d a b)))) (refused 13)
  by_rows_lem (told_rows f g) h i j = rows_told p q e f g h i j

-- ---- `intersect_rows`

module _ {s : List ℤ} (q : RowsAsked s) where
  abbrev a : Layout
  a = layout_at left s

  abbrev b : Layout
  b = layout_at right s

  told : Told a b Rows
  told = way_told a b (sym q.way) refl

  module _ {bars : Bool} (bars-is : bars ≡ (bars_expansion a || bars_expansion b)) where
    pub barred : bars ≡ true → Combined intersect s s (Err DenseAxes)
    barred f = combine_refused q.window DenseAxes (unfold number_of in by_barred q.window.first.sound q.window.second.sound q.shapes told (sym bars-is ∙ f))

    module _ (bars-not : bars ≡ false) {d : ℕ} (d-is : d ≡ lower_d a b) {meets : Bool} (meets_is : meets ≡ (ltb 0 d && (depends a d || depends b d))) where
      free : (bars_expansion a || bars_expansion b) ≡ false
      free = sym bars-is ∙ bars-not

      pub meeting : meets ≡ true → Combined intersect s s (Err DenseAxes)
      meeting f =
          combine_refused q.window DenseAxes
          (unfold number_of in by_meeting q.window.first.sound q.window.second.sound q.shapes told free (rw (← d-is) (sym meets_is ∙ f)))

      module _ (meets-not : meets ≡ false) {lists : Bool} (lists-is : lists ≡ (lists_row a d || lists_row b d)) where
        pub listing : lists ≡ true → Combined intersect s s (Err MadeUnsound)
        listing f =
            combine_refused q.window MadeUnsound
            (unfold number_of in by_listing q.window.first.sound q.window.second.sound q.shapes told free (rw (← d-is) (sym meets_is ∙ meets-not)) (rw (← d-is) (sym lists-is ∙ f)))

        module _ (lists-not : lists ≡ false) where
          pub ask_common : BothAsked d s
          ask_common = record { asked = q; lower = d-is; expand = free; list_none = sym lists-is ∙ lists-not }

          answer : intersect a b ≡ if (few_common a b d) (given (dense_if_full (common_of a b d))) (refused 13)
          answer =
              rw d-is
              (by_rows_lem q.window.first.sound q.window.second.sound q.shapes told free (rw (← d-is) (sym meets_is ∙ meets-not)) (rw (← d-is) (sym lists-is ∙ lists-not)))

          pub common_laid : {t : List ℤ} {few : Bool} {step : (Result ⊤ Refusal)} → CommonLaid d s t few → step ≡ made_step few → Combined intersect s t step
          common_laid m p = rw p (combine_told q.window makes_intersect (answer ∙ rw (← m.verdict)) m.layout m.only)

-- ---- `intersect_in`

module _ {s : List ℤ} (q : OrderedWindow s) where
  -- the rows of both increase
  pub rising : Rising s
  rising = record { first = increasing_true (layout_at left s).rows q.left_ordered; second = increasing_true (layout_at right s).rows q.right_ordered }

  abbrev x : Layout
  x = layout_at left s

  abbrev y : Layout
  y = layout_at right s

  pub shapes_stop : {r : Bool} → r ≡ same x.shape y.shape → r ≡ false → Combined intersect s s (Err ShapesDisagree)
  shapes_stop e f = combine_refused q.window ShapesDisagree (unfold number_of in intersect_shapes x y (sym e ∙ f))

  module _ {r : Bool} (r-is : r ≡ same x.shape y.shape) (agree : r ≡ true) {w : Way} (w-is : w ≡ way_of x y) where
    shapes : same x.shape y.shape ≡ true
    shapes = shapes_same q.window r-is agree

    pub ask_dense_lem : w ≡ Dense → DenseAsked s
    ask_dense_lem e = record { ordered = q; shapes = shapes; way = sym w-is ∙ e }

    pub diagonals_made : {d : ℕ} {t : List ℤ} {few : Bool} {step : (Result ⊤ Refusal)} → w ≡ Diagonals → d ≡ dense_at left s →
        Made (shaped 1 d [] (merged_states s) (merged_inputs s) x) s t few → step ≡ made_step few → Combined intersect s t step
    diagonals_made e k m p =
        let told = way_told x y w-is e in
        rw p (diagonals_combined q.window makes_intersect told (by_diagonals q.window.first.sound q.window.second.sound shapes told) k m)

    pub ask_rows : w ≡ Rows → RowsAsked s
    ask_rows e = record { window = q.window; shapes = shapes; way = sym w-is ∙ e }
