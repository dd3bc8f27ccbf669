-- `union_in` and `unite_rows`: the union by its way. Assumes nothing.
use Rattle.std.specs.Prelude.{Err, Result, ⊤}
use Rattle.rules.specs.declared.Refusal.{Refusal}
use mathlib.Core.Path.{◌≡◌, refl, sym, ◌∙◌}
use mathlib.Core.Bool.{Bool, true, false, ◌||◌}
use mathlib.Core.List.{List, []}
use Prim.Native.Nat.{ℕ}
use lib.IntN.{ℤ}
use Rattle.rules.specs.declared.Refusal.TheVariants.{ShapesDisagree, DenseAxes, MadeUnsound}
use Rattle.rules.specs.Lists.{same}
use Rattle.rules.specs.Refusals.{refused, number_of}
use Rattle.rules.specs.Layout.{Layout}
use Rattle.rules.specs.CountsAndForms.{to_dense}
use Rattle.rules.specs.Removal.{lists_row}
use Rattle.rules.specs.Pairs.{lower_d, bars_expansion, with_merged}
use Rattle.rules.specs.Union.{union}
use Rattle.rules.specs.Soundness.{Sound}
use Rattle.rules.proofs.Made.{few_or}
use Rattle.rules.proofs.Unions.{union_shapes, union_sound, union_dense, union_diagonals, union_bars, union_lists, union_rows}
use Rattle.rules.proofs.Low.{union_low}
use Rattle.parts.specs.Parts.{left, right, dense_at, rank_at, layout_at, Window}
use Rattle.parts.proofs.Holds.{rank_is}
use Rattle.combine.specs.declared.window.Way.{Way}
use Rattle.combine.specs.declared.window.Way.TheVariants.{Dense, Diagonals, Rows}
use Rattle.combine.specs.Window.{way_of, RowsAsked, BothAsked, merged_states, merged_inputs, shaped, made_step, Made, Combined}
use Rattle.combine.specs.Uniting.{united_rows}
use Rattle.combine.proofs.Ways.{Told, told_dense, told_diagonals, told_rows, way_told}
use Rattle.combine.proofs.Combining.{Makes, combine_refused, combine_made, shapes_same, diagonals_combined}

-- ---- the union, by its way

module _ {a b : Layout} (p : Sound a) (q : Sound b) (e : same a.shape b.shape ≡ true) where
  united_dense : Told a b Dense → union a b ≡ few_or (with_merged a b (to_dense a))
  united_dense (told_dense f) = union_dense p q e f

  united_diagonals : Told a b Diagonals → union a b ≡ few_or (with_merged a b a)
  united_diagonals (told_diagonals f g) = union_diagonals p q e f g

  united_barred : Told a b Rows → (bars_expansion a || bars_expansion b) ≡ true → union a b ≡ refused 11
  united_barred (told_rows f g) h = union_bars p q e f g h

  united_listing : Told a b Rows → (bars_expansion a || bars_expansion b) ≡ false → (lists_row a (lower_d a b) || lists_row b (lower_d a b)) ≡ true → union a b ≡ refused 12
  united_listing (told_rows f g) h i = union_lists p q e f g h i

  united_rows_lem : Told a b Rows → (bars_expansion a || bars_expansion b) ≡ false → (lists_row a (lower_d a b) || lists_row b (lower_d a b)) ≡ false → union a b ≡ few_or (united_rows a b)
  united_rows_lem (told_rows f g) h i = union_rows p q e f g h i

makes_union : Makes union
makes_union = record { sound = union_sound; low = union_low }

-- ---- `unite_rows`

module _ {s : List ℤ} (q : RowsAsked s) where
  abbrev a : Layout
  a = layout_at left s

  abbrev b : Layout
  b = layout_at right s

  rows_told : Told a b Rows
  rows_told = way_told a b (sym q.way) refl

  module _ {bars : Bool} (bars-is : bars ≡ (bars_expansion a || bars_expansion b)) where
    pub barred : bars ≡ true → Combined union s s (Err DenseAxes)
    barred f = combine_refused q.window DenseAxes (unfold number_of in united_barred q.window.first.sound q.window.second.sound q.shapes rows_told (sym bars-is ∙ f))

    module _ (bars-not : bars ≡ false) {d : ℕ} (d-is : d ≡ lower_d a b) {lists : Bool} (lists-is : lists ≡ (lists_row a d || lists_row b d)) where
      pub listing : lists ≡ true → Combined union s s (Err MadeUnsound)
      listing f =
          combine_refused q.window MadeUnsound
          (unfold number_of in united_listing q.window.first.sound q.window.second.sound q.shapes rows_told (sym bars-is ∙ bars-not) (rw (← d-is) (sym lists-is ∙ f)))

      module _ (lists-not : lists ≡ false) where
        pub ask_join : BothAsked d s
        ask_join = record { asked = q; lower = d-is; expand = sym bars-is ∙ bars-not; list_none = sym lists-is ∙ lists-not }

        pub rows_made : {t : List ℤ} {few : Bool} {step : (Result ⊤ Refusal)} → Made (united_rows a b) s t few → step ≡ made_step few → Combined union s t step
        rows_made m p =
            rw p
            (combine_made q.window makes_union
            (united_rows_lem q.window.first.sound q.window.second.sound q.shapes rows_told (sym bars-is ∙ bars-not) (rw (← d-is) (sym lists-is ∙ lists-not))) m)

-- ---- `union_in`

module _ {s : List ℤ} (q : Window s) where
  abbrev x : Layout
  x = layout_at left s

  abbrev y : Layout
  y = layout_at right s

  pub shapes_stop : {r : Bool} → r ≡ same x.shape y.shape → r ≡ false → Combined union s s (Err ShapesDisagree)
  shapes_stop e f = combine_refused q ShapesDisagree (unfold number_of in union_shapes x y (sym e ∙ f))

  module _ {r : Bool} (r-is : r ≡ same x.shape y.shape) (agree : r ≡ true) {w : Way} (w-is : w ≡ way_of x y) where
    shapes : same x.shape y.shape ≡ true
    shapes = shapes_same q r-is agree

    pub dense_made : {n : ℕ} {t : List ℤ} {few : Bool} {step : (Result ⊤ Refusal)} → w ≡ Dense → n ≡ rank_at left s →
        Made (shaped 0 n [] (merged_states s) (merged_inputs s) x) s t few → step ≡ made_step few → Combined union s t step
    unfolding to_dense
    dense_made {n} e k m p =
        let is : shaped 0 n [] (merged_states s) (merged_inputs s) x ≡ with_merged x y (to_dense x) = rw (k, ← rank_is q.first) in
        rw p (combine_made q makes_union (united_dense q.first.sound q.second.sound shapes (way_told x y w-is e)) (rw is at m))

    pub diagonals_made : {d : ℕ} {t : List ℤ} {few : Bool} {step : (Result ⊤ Refusal)} → w ≡ Diagonals → d ≡ dense_at left s →
        Made (shaped 1 d [] (merged_states s) (merged_inputs s) x) s t few → step ≡ made_step few → Combined union s t step
    diagonals_made e k m p =
        let told = way_told x y w-is e in
        rw p (diagonals_combined q makes_union told (united_diagonals q.first.sound q.second.sound shapes told) k m)

    pub ask_rows : w ≡ Rows → RowsAsked s
    ask_rows e = record { window = q; shapes = shapes; way = sym w-is ∙ e }
