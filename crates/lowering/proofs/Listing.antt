-- `lower_into`: which rows it lists, by the kind and the D of the layout. Assumes nothing.
use mathlib.Core.Path.{◌≡◌, refl, sym, ◌∙◌, subst}
use mathlib.Core.Bool.{Bool, true}
use mathlib.Core.List.{List, [], ◌∷◌, append-nil}
use mathlib.Core.Logic.{inl, inr, ⊎_elim}
use Prim.Native.Nat.{ℕ, zero, suc, ◌+◌, ◌-◌, ◌<◌, ◌≤◌}
use native.Mathlib.Nat.{add-zero}
use native.Mathlib.Omega.{arith}
use borrow.Author.Tests.{le-leb}
use lib.IntN.{ℤ, pos}
use lib.ListN.{length, get_or, set, drop}
use lib.Seq.{take_all, drop-nil}
use Rattle.rules.specs.Lists.{gather}
use Rattle.rules.specs.RowsInOrder.{sorted, Increasing, Each}
use Rattle.rules.specs.Layout.{Layout}
use Rattle.rules.specs.Removal.{positions, crossed, full_rows}
use Rattle.rules.specs.Pairs.{lowered}
use Rattle.rules.proofs.Soundness.{OneKind, dense_case, diagonal_case, sparse_case, one_kind}
use Rattle.rules.proofs.Sets.{each_head, each_tail}
use Rattle.rules.proofs.Sorting.{sorted_length}
use Rattle.rules.proofs.Extents.{extent_limited}
use Rattle.rules.proofs.Holding.{diagonal_rank}
use Rattle.rules.proofs.Lowering.{expands_dense, diagonal_made, same_made, full_made, none_made}
use Rattle.cells.specs.View.{view}
use Rattle.tables.specs.Rows.{row_at}
use Rattle.tables.specs.Tables.{table_at, room_end, Only, SortAsked, Sorted, Taken, Listed}
use Rattle.tables.proofs.Rows.{row_number}
use Rattle.tables.proofs.Only.{row_outside, table_outside, fits_outside}
use Rattle.tables.proofs.Tables.{table_length}
use Rattle.tables.proofs.Made.{sorted_ready}
use Rattle.tables.proofs.Taking.{taken_none, cleared_only, cleared_ready, cleared_listed}
use Rattle.parts.specs.Parts.{kind_at, dense_at, rank_at, width_at, layout_at, Holds}
use Rattle.parts.proofs.Holds.{rank_most, rank_is, shape_length, rows_few, rows_fit, rank_outside, holds_outside}
use Rattle.lowering.specs.Lowering.{Axes, last_positions, all_tails, RowsAsked, DiagonalAsked, diagonal_of, LowerAsked}

-- the axes of a layout
pub layout_axes : {at rank w : ℕ} {s : List ℤ} → Holds at s → rank ≡ rank_at at s → w ≤ rank → Axes (at + 3) w rank s
unfolding layout_at
layout_axes h e l =
    let r = rank_most h in
    record { room = omega (arith, h.inside); upto = l; narrow = omega arith; small = rw e h.sound.sizes.product_most }

-- ---- rows with ends in them, where the rows end

ended : (n : ℕ) (l : List ℕ) → length l ≤ n → drop n l ≡ []
ended n [] h = drop-nil n
ended zero (x ∷ l) h = absurd (omega arith)
ended (suc n) (x ∷ l) h = ended n l (omega arith)

-- each row has the ends behind it
crossed_is : (w rank : ℕ) → w ≤ rank → (rows ends : List (List ℕ)) → Each (λ r. length r ≡ w) rows → all_tails w rank rows ends ≡ crossed rows ends
unfolding gather
crossed_is w rank h [] ends f = refl
crossed_is w rank h (r ∷ rows) ends f =
    rw (crossed_is w rank h rows ends (each_tail f), take_all w r (omega (arith, each_head f)), ended rank r (omega (arith, each_head f)))
    (simp append-nil)

-- ---- the layout

module _ {at to d : ℕ} {s : List ℤ} (a : LowerAsked at to d s) where
  abbrev l : Layout
  l = layout_at at s

  -- one that is no diagonal is sparse
  sparse : (kind_at at s ≡ 1 → ⊥) → l.kind ≡ 2
  unfolding layout_at
  sparse n = go (one_kind a.holds.sound.form)
    where
      go : OneKind l → l.kind ≡ 2
      go (dense_case k) = absurd (a.is_not_dense k)
      go (diagonal_case k) = absurd (n k)
      go (sparse_case k) = k

  -- ---- a diagonal

  module _ {w extent : ℕ} (r : w ≡ rank_at at s) (k : kind_at at s ≡ 1) (x : extent ≡ get_or (view s) (at + 3) 0) where
    diagonal : l.kind ≡ 1
    unfolding layout_at
    diagonal = k

    flat : l.dense ≡ 0
    flat = expands_dense l diagonal a.expands

    extent_is : extent ≡ get_or l.shape 0 0
    unfolding layout_at
    extent_is =
        let some : 0 < rank_at at s = rw (rank_is a.holds) at (diagonal_rank a.holds.sound.form diagonal flat) in
        x ∙ sym (rw add-zero at (row_number (at + 3) (rank_at at s) 0 s some))

    rows_are : (lowered l d).rows ≡ diagonal_of w extent
    rows_are = diagonal_made l d diagonal ∙ rw (rank_is a.holds, ← extent_is, r)

    width : rank_at at s - d ≡ w
    unfolding layout_at
    width = let z : dense_at at s ≡ 0 = flat in omega (arith, a.lower)

    pub ask_diagonal_lem : {t : List ℤ} → t ≡ set s to (pos 0) → DiagonalAsked to w extent t
    ask_diagonal_lem e =
        let n : w ≤ 4 = omega (arith, rank_most a.holds) in
        record { narrow = n; small = rw extent_is (extent_limited a.holds.sound.sizes 0); target = cleared_ready s e (omega (arith, a.room)) }

    pub diagonal_listed : {t u : List ℤ} {v : Bool} → t ≡ set s to (pos 0) → Taken to w (diagonal_of w extent) t u v →
        Listed to (rank_at at s - d) (lowered l d).rows s u v
    diagonal_listed e p = let n : w ≤ 4 = omega (arith, rank_most a.holds) in rw (rows_are, width) (cleared_listed s e (omega (arith, a.room)) p)

  -- ---- a sparse layout with that D

  module _ {w : ℕ} (r : w ≡ rank_at at s) (n : kind_at at s ≡ 1 → ⊥) (same : dense_at at s ≡ d) where
    own_table : l.rows ≡ table_at (at + 7) (w - d) s
    unfolding layout_at
    own_table = rw (same, r)

    own_rows : (lowered l d).rows ≡ table_at (at + 7) (w - d) s
    unfolding layout_at
    own_rows = same_made l (sparse n) same ∙ own_table

    -- they increase as the layout's do
    pub own_rising : Increasing l.rows → Increasing (table_at (at + 7) (w - d) s)
    own_rising h = subst Increasing own_table h

    pub ask_sort : SortAsked (at + 7) to (w - d) s
    ask_sort =
        let m = rank_most a.holds in
        record {
          narrow = omega arith;
          source = rw (r, ← same) (rows_fit a.holds);
          target = omega (arith, a.room);
          apart = ⊎_elim (λ l. inl (omega arith)) (λ l. inr (omega arith)) a.apart;
        }

    pub sorted_listed : {t : List ℤ} → Sorted (at + 7) to (w - d) s t → Listed to (rank_at at s - d) (lowered l d).rows s t true
    sorted_listed p =
        let m = rank_most a.holds in
        let rows = table_at (at + 7) (w - d) s in
        rw (own_rows, ← r)
        (record {
          verdict = sym (le-leb (length (sorted rows)) 128 (omega (arith, sorted_length rows, table_length (at + 7) (w - d) s, ask_sort.source.few)));
          table = λ _. p.table;
          ready = λ _. sorted_ready ask_sort p;
          only = p.only;
        })

  -- ---- a sparse layout with a larger D

  module _ {w : ℕ} (r : w ≡ rank_at at s) (n : kind_at at s ≡ 1 → ⊥) (other : dense_at at s ≡ d → ⊥) {t : List ℤ} (e : t ≡ set s to (pos 0)) where
    above : d < l.dense
    unfolding layout_at
    above = omega (arith, a.lower)

    room : {v : ℕ} → v ≤ rank_at at s → room_end to v ≤ length s
    room h = let m = rank_most a.holds in omega (arith, a.room)

    -- which lists none, with dense axes left
    pub none_listed : 0 < d → Listed to (rank_at at s - d) (lowered l d).rows s t true
    none_listed h =
        let m : room_end to (rank_at at s - d) ≤ length s = room (omega arith) in
        rw (none_made l (sparse n) above h a.lists_none) (cleared_listed s e m (taken_none (cleared_ready s e m)))

    -- or each row with every index of the dense axes, with none left
    only_cleared : Only to (to + 513) s t
    only_cleared = cleared_only s e (to + 513) (omega arith)

    rows_there_lem : table_at (at + 7) (width_at at s) t ≡ table_at (at + 7) (width_at at s) s
    rows_there_lem =
        let m = rank_most a.holds in
        table_outside only_cleared (at + 7) (width_at at s) (rows_few a.holds) (⊎_elim (λ l. inl (omega arith)) (λ l. inr (omega arith)) a.apart)

    axes_there : row_at (at + 3) w t ≡ row_at (at + 3) w s
    axes_there =
        let m = rank_most a.holds in
        row_outside only_cleared (at + 3) w (⊎_elim (λ l. inl (omega arith)) (λ l. inr (omega arith)) a.apart)

    module _ {k : ℕ} (k-is : k ≡ dense_at at s) where
      width_is : w - k ≡ width_at at s
      width_is = rw (r, k-is)

      pub ask_full : RowsAsked (at + 7) (w - k) (at + 3) (w - k) w to w t
      ask_full =
          let held = holds_outside only_cleared a.apart a.holds in
          let m : w ≤ 4 = omega (arith, rank_most a.holds) in
          record {
            rows = rw width_is (fits_outside only_cleared (rows_fit a.holds) (⊎_elim (λ l. inl (omega arith)) (λ l. inr (omega arith)) a.apart));
            axes = layout_axes held (r ∙ sym (rank_outside only_cleared a.apart)) (omega arith);
            widths = record { front = omega arith; read_most = omega arith; width_is = omega arith };
            target = cleared_ready s e (room (omega arith));
            rows_apart = ⊎_elim (λ l. inl (omega arith)) (λ l. inr (omega arith)) a.apart;
            axes_apart = ⊎_elim (λ l. inl (omega arith)) (λ l. inr (omega arith)) a.apart;
          }

      pub full_listed : {u : List ℤ} {v : Bool} → d ≤ 0 → Taken to w (all_tails (w - k) w (table_at (at + 7) (w - k) t) (last_positions (at + 3) (w - k) w t)) t u v →
          Listed to (rank_at at s - d) (lowered l d).rows s u v
      unfolding layout_at
      full_listed h p =
          let zero : d ≡ 0 = omega arith in
          let width : rank_at at s - d ≡ w = omega arith in
          let lengths : Each (λ r. length r ≡ width_at at s) (table_at (at + 7) (width_at at s) s) = rw (shape_length a.holds) at a.holds.sound.form.row_lengths in
          let all : all_tails (w - k) w (table_at (at + 7) (w - k) t) (last_positions (at + 3) (w - k) w t) ≡ full_rows l =
          rw (axes_there, width_is, rows_there_lem)
          (crossed_is (width_at at s) w (omega arith) (table_at (at + 7) (width_at at s) s) (positions (drop (width_at at s) (row_at (at + 3) w s))) lengths ∙ rw (r, shape_length a.holds)) in
          rw (full_made l (sparse n) above zero, width) (cleared_listed s e (room (omega arith)) (rw all at p))
