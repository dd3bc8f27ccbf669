-- `is_row`, `on_diagonal` and `is_held`: an index is held by the kind of the layout. Assumes nothing.
use Rattle.std.specs.Prelude.{Err, Ok, Result}
use mathlib.Core.Path.{◌≡◌, sym, ◌∙◌}
use mathlib.Core.Bool.{Bool, true, false}
use mathlib.Core.List.{List}
use mathlib.Core.Logic.{◌⊎◌, inl, inr, ⊎_elim}
use Prim.Native.Nat.{ℕ, ◌+◌, ◌<◌, ◌≤◌}
use native.Mathlib.Nat.{add-zero}
use native.Mathlib.Omega.{arith}
use borrow.Author.Tests.{ne_eqb}
use lib.Dec.{ltb}
use lib.IntN.{ℤ}
use lib.ListN.{length, get_or}
use Rattle.rules.specs.Lists.{all_below}
use Rattle.rules.specs.RowsInOrder.{among, Increasing, In}
use Rattle.rules.specs.Layout.{alike}
use Rattle.rules.specs.Dependencies.{on_diagonal, held}
use Rattle.rules.proofs.Sets.{in_among, not_in_among}
use Rattle.cells.specs.View.{view}
use Rattle.tables.specs.Rows.{row_at, rows_at, HasRow, HasRows, SpotIs}
use Rattle.tables.specs.Tables.{table_at, Only}
use Rattle.tables.proofs.Rows.{row_length, row_number}
use Rattle.tables.proofs.Spots.{found_in, between_not_in}
use Rattle.tables.proofs.Only.{view_outside, row_outside, table_outside, ready_outside}
use Rattle.tables.proofs.Tables.{table_rows, fits_rows, table_wide}
use Rattle.parts.specs.Parts.{rows_from, states_from, kind_at, dense_at, rank_at, width_at, layout_at}
use Rattle.filtering.specs.Filtering.{filter_at, Filters, HeldAsked, DiagonalAsked}

-- ---- rows

module _ {at p : ℕ} {s : List ℤ} (a : HeldAsked at p s) where
  abbrev index : List ℕ
  index = row_at p (rank_at at s) s

  -- where axes are dense, no row is as long as an index
  pub row_short : {d : ℕ} → d ≡ dense_at at s → 0 < d → false ≡ among index (filter_at at s).rows
  unfolding layout_at
  row_short e h = sym (not_in_among index (table_at (at + rows_from) (width_at at s) s) (λ m.
      let long : length index ≡ width_at at s = table_wide a.filters.rows.fits index m in
      omega (arith, row_length p (rank_at at s) s a.index.room, a.filters.dense_most)))

  -- otherwise the rows are searched
  module _ {d : ℕ} (e : d ≡ dense_at at s) (h : d ≤ 0) {n r : ℕ} (n-is : n ≡ get_or (view s) (at + rows_from) 0) (r-is : r ≡ rank_at at s) where
    whole : width_at at s ≡ r
    whole = omega arith

    rows_are : rows_at (at + 8) r n s ≡ (filter_at at s).rows
    unfolding layout_at
    rows_are =
        let first : at + 7 + 1 ≡ at + 8 = omega arith in
        sym (rw (whole, ← first) (table_rows (at + rows_from) r n s n-is))

    pub ask_search : HasRows (at + 8) r n s × (Increasing (rows_at (at + 8) r n s) × HasRow p r s)
    unfolding layout_at
    ask_search =
        let first : at + 7 + 1 ≡ at + 8 = omega arith in
        (rw (first, whole) at (fits_rows a.filters.rows.fits n-is), (rw rows_are a.filters.rows.increasing, rw r-is a.index))

    module _ {o : (Result ℕ ℕ)} (spot : SpotIs (row_at p r s) (rows_at (at + 8) r n s) o) where
      pub row_found : {k : ℕ} → o ≡ Ok k → true ≡ among index (filter_at at s).rows
      row_found e = sym (in_among (rw (rows_are, r-is) at (found_in (rw e at spot))))

      pub row_missed : {k : ℕ} → o ≡ Err k → false ≡ among index (filter_at at s).rows
      row_missed e =
          let none : In (row_at p r s) (rows_at (at + 8) r n s) → ⊥ = between_not_in (rw e at spot) ask_search.1.0 in
          sym (not_in_among index (filter_at at s).rows (rw (rows_are, r-is) at none))

-- ---- diagonals

module _ {at p : ℕ} {s : List ℤ} (a : DiagonalAsked at p s) {r : ℕ} (r-is : r ≡ rank_at at s) {t : Bool} (t-is : t ≡ alike (row_at p r s)) where
  pub bent : t ≡ false → false ≡ on_diagonal (filter_at at s) (row_at p (rank_at at s) s)
  bent e = rw (← r-is, ← t-is, e)

  pub straight : t ≡ true → {c x : ℕ} → c ≡ get_or (view s) p 0 → x ≡ get_or (view s) (at + 3) 0 → ltb c x ≡ on_diagonal (filter_at at s) (row_at p (rank_at at s) s)
  unfolding layout_at
  straight e f g =
      let first : get_or (row_at p (rank_at at s) s) 0 0 ≡ get_or (view s) p 0 = rw add-zero at (row_number p (rank_at at s) 0 s a.wide) in
      let extent : get_or (row_at (at + 3) (rank_at at s) s) 0 0 ≡ get_or (view s) (at + 3) 0 = rw add-zero at (row_number (at + 3) (rank_at at s) 0 s a.wide) in
      rw (first, extent, ← r-is, ← t-is, e, f, g)

-- ---- by the kind

-- the index and the extents lie in the slice
pub ask_below : {at p n : ℕ} {s : List ℤ} → HeldAsked at p s → n ≡ rank_at at s → HasRow p n s × (at + 3 + n ≤ length s)
ask_below a e = (rw e a.index, omega (arith, a.filters.inside, a.filters.rank_most))

module _ {at p : ℕ} {s : List ℤ} (a : HeldAsked at p s) {k : ℕ} (k-is : k ≡ kind_at at s) where
  pub held_dense : {n : ℕ} {r : Bool} → k ≡ 0 → n ≡ rank_at at s → r ≡ all_below (row_at p n s) (row_at (at + 3) n s) → r ≡ held (filter_at at s) (row_at p (rank_at at s) s)
  unfolding layout_at held
  held_dense z e f = rw (← k-is, z, ← e) f

  pub ask_diagonal_lem : k ≡ 1 → DiagonalAsked at p s
  ask_diagonal_lem o = record { asked = a; wide = a.filters.diagonal_wide (sym k-is ∙ o) }

  pub held_diagonal : {r : Bool} → k ≡ 1 → r ≡ on_diagonal (filter_at at s) (row_at p (rank_at at s) s) → r ≡ held (filter_at at s) (row_at p (rank_at at s) s)
  unfolding layout_at held
  held_diagonal o f = rw (← k-is, o) f

  pub held_sparse : {r : Bool} → (k ≡ 0 → ⊥) → (k ≡ 1 → ⊥) → r ≡ among (row_at p (rank_at at s) s) (filter_at at s).rows → r ≡ held (filter_at at s) (row_at p (rank_at at s) s)
  unfolding layout_at held
  held_sparse z o f = rw (← k-is, ne_eqb _ 0 z, ne_eqb _ 1 o) f

-- ---- writing elsewhere

module _ {at a e : ℕ} {s t : List ℤ} (o : Only a e s t) (d : (at + states_from ≤ a) ⊎ (e ≤ at)) (f : Filters at s) where
  number_same : (k : ℕ) → k < states_from → get_or (view t) (at + k) 0 ≡ get_or (view s) (at + k) 0
  number_same k h = view_outside o (at + k) (⊎_elim (λ x. inl (omega arith)) (λ x. inr (omega arith)) d)

  kind_same : kind_at at t ≡ kind_at at s
  kind_same = rw add-zero at (number_same 0 (omega arith))

  pub rank_same : rank_at at t ≡ rank_at at s
  rank_same = number_same 2 (omega arith)

  dense_same : dense_at at t ≡ dense_at at s
  dense_same = number_same 1 (omega arith)

  -- the layout there is the same
  pub filter_same : filter_at at t ≡ filter_at at s
  unfolding layout_at
  filter_same =
      rw (
        kind_same,
        dense_same,
        rank_same,
        row_outside o (at + 3) (rank_at at s) (⊎_elim (λ x. inl (omega (arith, f.rank_most))) (λ x. inr (omega arith)) d),
        table_outside o (at + rows_from) (width_at at s) f.rows.fits.few (⊎_elim (λ x. inl (omega (arith, f.rank_most))) (λ x. inr (omega arith)) d),
      )

  pub filters_still : Filters at t
  filters_still = record {
    inside = rw o.size f.inside;
    rank_most = rw rank_same f.rank_most;
    dense_most = rw (rank_same, dense_same) f.dense_most;
    rows = rw (rank_same, dense_same) (ready_outside o f.rows (⊎_elim (λ x. inl (omega (arith, f.rank_most))) (λ x. inr (omega arith)) d));
    diagonal_wide = rw (kind_same, rank_same) f.diagonal_wide;
  }
