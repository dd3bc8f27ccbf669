-- Positions worked by hand, in one table; each holds by computation. Assumes nothing.
use mathlib.Core.Path.{◌≡◌, refl}
use mathlib.Core.Bool.{true, false}
use mathlib.Core.List.{List, [], ◌∷◌}
use Prim.Native.Nat.{ℕ}
use lib.IntN.{pos}
use Rattle.rules.specs.declared.Mode.TheVariants.{Alone, Together}
use Rattle.rules.specs.Lists.{all, any, keep, gather, none, from, product, sum, largest, same, same_rows, all_below, with, fit_to}
use Rattle.rules.specs.Buffers.{part, zeros}
use Rattle.rules.specs.RowsInOrder.{cmp_rows, increasing, insert, sorted, sorted_onto}
use Rattle.rules.specs.Refusals.{given, refused, in_form, lowest}
use Rattle.rules.specs.Layout.{Layout, within_product, alike, well_formed, within_sizes, sound_layout, made, encode}
use Rattle.rules.specs.Record.{entries_from, section_at, walk, natural, rows_of, entries_of, layout_by, layout_in, sound, ordered}
use Rattle.rules.specs.Arguments.{up_to, good_components}
use Rattle.rules.specs.Endings.{found, nothing}
use Rattle.rules.specs.Shapes.{extents, common_shape, shapes_agree, broadcast_shapes}
use Rattle.rules.specs.Positions.{ravel_index}
use Rattle.rules.specs.Dependencies.{on_index, held, filter_deps, bars_filter}
use Rattle.rules.specs.Lookup.{read_index, place_from, place_of, lookup, find_nnz_index_call}
use Rattle.rules.specs.CountsAndForms.{min_rank_of, to_dense, dense_if_full, dense}
use Rattle.rules.specs.Stretching.{shared_axes_fit, stretched_axes, every_value, take_all, stretch_rows, yields, stretch_deps, stretched, broadcast_to_shape}
use Rattle.rules.specs.Removal.{positions, removed_rows, removed_deps, lists_row, remove_dense_axes}
use Rattle.rules.specs.Holding.{holds, held_positions}
use Rattle.rules.specs.Pairs.{lowered, expanded}
use Rattle.rules.specs.Union.{union_of_rows, union}
use Rattle.rules.specs.Intersect.{with_dense, intersect}
use Rattle.rules.specs.ContractLastAxis.{shortened_deps, contracted, contract_last_axis}
use Rattle.rules.specs.Permute.{repeats, is_permutation, moved_to, moved, permuted, permute}
use Rattle.rules.specs.Concatenate.{concatenate}
use Rattle.rules.specs.FilterDepsFrom.{cut_deps, filter_deps_from}

-- a layout by its kind, D, shape, rows and state dependencies
abbrev layout : ℕ → ℕ → List ℕ → List (List ℕ) → List (List ℕ) → Layout
layout kind d shape rows states = record { kind = kind; dense = d; shape = shape; rows = rows; states = states; inputs = [] }

-- the dependency of position [i] on state j
abbrev dep : ℕ → ℕ → List ℕ
dep i j = i ∷ j ∷ []

-- an index or a shape of two axes
abbrev two : ℕ → ℕ → List ℕ
two x y = x ∷ y ∷ []

pub record Table : Type 0 where
  -- P1: the row [1] of a sparse [2,2] with a dense axis, joined with the row [1,0]
  pub p1 : union (layout 2 1 (two 2 2) ((1 ∷ []) ∷ []) []) (layout 2 0 (two 2 2) (two 1 0 ∷ []) [])
      ≡ given (layout 2 0 (two 2 2) (two 1 0 ∷ two 1 1 ∷ []) [])
  -- P2: of the dependencies 2, 5, 6, 7 of a source [8] those from 5 up to 8
  pub p2 : filter_deps_from (dense (3 ∷ [])) (layout 0 1 (8 ∷ []) [] (dep 2 2 ∷ dep 5 5 ∷ dep 6 6 ∷ dep 7 7 ∷ [])) 5 8
      ≡ given (layout 0 1 (3 ∷ []) [] (dep 0 5 ∷ dep 1 6 ∷ dep 2 7 ∷ []))
  -- P3: common shapes, aligned on the left
  pub p3_zero : broadcast_shapes ((1 ∷ []) ∷ (0 ∷ []) ∷ []) ≡ refused 6
  pub p3_left : broadcast_shapes ((2 ∷ []) ∷ two 2 3 ∷ []) ≡ given (two 2 3)
  pub p3_right : broadcast_shapes ((3 ∷ []) ∷ two 2 3 ∷ []) ≡ refused 6
  -- P4: on an axis of extent 1 a component is read as 0
  pub p4 : lookup (dense (two 1 3)) (two 4 2) ≡ found 2
  -- P5: on a diagonal the original index counts
  pub p5 : lookup (layout 1 0 (two 1 1) [] []) (two 3 3) ≡ nothing
  -- P6: both axes stretch, each alone
  pub p6 : broadcast_to_shape Alone (layout 0 2 (two 1 1) [] ((0 ∷ 0 ∷ 7 ∷ []) ∷ [])) (two 2 2)
      ≡ given (layout 0 2 (two 2 2) [] ((0 ∷ 0 ∷ 7 ∷ []) ∷ (0 ∷ 1 ∷ 7 ∷ []) ∷ (1 ∷ 0 ∷ 7 ∷ []) ∷ []))
  -- the same in mode 1: both axes stretch together
  pub together : broadcast_to_shape Together (layout 0 2 (two 1 1) [] ((0 ∷ 0 ∷ 7 ∷ []) ∷ [])) (two 2 2)
      ≡ given (layout 0 2 (two 2 2) [] ((0 ∷ 0 ∷ 7 ∷ []) ∷ (0 ∷ 1 ∷ 7 ∷ []) ∷ (1 ∷ 0 ∷ 7 ∷ []) ∷ (1 ∷ 1 ∷ 7 ∷ []) ∷ []))
  -- a dependency outside the new extents on stretched axes: mode 0 keeps it, mode 1 does not
  pub outside_alone : broadcast_to_shape Alone (layout 0 1 (1 ∷ []) [] (dep 5 7 ∷ [])) (2 ∷ [])
      ≡ given (layout 0 1 (2 ∷ []) [] (dep 0 7 ∷ dep 1 7 ∷ dep 5 7 ∷ []))
  pub outside_together : broadcast_to_shape Together (layout 0 1 (1 ∷ []) [] (dep 5 7 ∷ [])) (2 ∷ [])
      ≡ given (layout 0 1 (2 ∷ []) [] (dep 0 7 ∷ dep 1 7 ∷ []))
  -- P7: a dense axis contracted leaves the rows as they are
  pub p7 : contract_last_axis (layout 2 1 (two 2 2) ((1 ∷ []) ∷ []) []) ≡ given (layout 2 0 (2 ∷ []) ((1 ∷ []) ∷ []) [])
  -- in their order, and sparse even where they fill the shape
  pub rows_in_their_order : contract_last_axis (layout 2 1 (two 2 3) ((1 ∷ []) ∷ (0 ∷ []) ∷ []) [])
      ≡ given (layout 2 0 (2 ∷ []) ((1 ∷ []) ∷ (0 ∷ []) ∷ []) [])
  -- over an extent 0 too, where nothing was held
  pub empty_axis : contract_last_axis (layout 2 1 (two 2 0) ((1 ∷ []) ∷ []) []) ≡ given (layout 2 0 (2 ∷ []) ((1 ∷ []) ∷ []) [])
  -- P8: no blocks make the scalar
  pub p8 : in_form encode (concatenate [] 3) ≡ given (zeros 6)
  -- P9: permuted rows are not sorted, and a lookup there is refused
  pub p9 : permute (layout 2 0 (two 2 3) (two 0 2 ∷ two 1 0 ∷ []) []) (pos 1 ∷ pos 0 ∷ [])
      ≡ given (layout 2 0 (two 3 2) (two 2 0 ∷ two 0 1 ∷ []) [])
  pub p9_lookup : find_nnz_index_call (encode (layout 2 0 (two 3 2) (two 2 0 ∷ two 0 1 ∷ []) [])) (pos 2 ∷ pos 0 ∷ []) ≡ refused 4
  -- two diagonals: a dependency off the diagonal is kept
  pub unfiltered : intersect (layout 1 0 (two 2 2) [] ((0 ∷ 1 ∷ 7 ∷ []) ∷ [])) (layout 1 0 (two 2 2) [] [])
      ≡ given (layout 1 0 (two 2 2) [] ((0 ∷ 1 ∷ 7 ∷ []) ∷ []))
  -- a lowered union: dependencies are merged as they are, not expanded
  pub unexpanded : union (layout 2 1 (two 2 2) ((1 ∷ []) ∷ []) ((1 ∷ 0 ∷ 7 ∷ []) ∷ [])) (layout 2 0 (two 2 2) (two 1 0 ∷ []) [])
      ≡ given (layout 2 0 (two 2 2) (two 1 0 ∷ two 1 1 ∷ []) ((1 ∷ 0 ∷ 7 ∷ []) ∷ []))
  -- a dense layout beside rows with a smaller D: its dense axes are not removed
  pub dense_wins : union (dense (2 ∷ [])) (layout 2 0 (2 ∷ []) ((1 ∷ []) ∷ []) []) ≡ given (dense (2 ∷ []))
  pub dense_yields : intersect (dense (2 ∷ [])) (layout 2 0 (2 ∷ []) ((1 ∷ []) ∷ []) []) ≡ given (layout 2 0 (2 ∷ []) ((1 ∷ []) ∷ []) [])
  -- a sparse [2,3] with a dense axis and the row [1] holds every position behind it, and no other
  pub holds_behind_row : holds (layout 2 1 (two 2 3) ((1 ∷ []) ∷ []) []) (two 1 2) ≡ true
  pub holds_no_row : holds (layout 2 1 (two 2 3) ((1 ∷ []) ∷ []) []) (two 0 2) ≡ false
  pub holds_outside : holds (layout 2 1 (two 2 3) ((1 ∷ []) ∷ []) []) (two 1 3) ≡ false
  -- a diagonal [2,2,3] with a dense axis holds the positions whose first two components are equal
  pub holds_on_diagonal : holds (layout 1 1 (2 ∷ 2 ∷ 3 ∷ []) [] []) (1 ∷ 1 ∷ 2 ∷ []) ≡ true
  pub holds_off_diagonal : holds (layout 1 1 (2 ∷ 2 ∷ 3 ∷ []) [] []) (1 ∷ 0 ∷ 2 ∷ []) ≡ false
  -- all positions held, in order: two rows out of order, each with the two values of the dense axis
  pub positions_in_order : held_positions (layout 2 1 (two 3 2) ((2 ∷ []) ∷ (0 ∷ []) ∷ []) []) ≡ (two 0 0 ∷ two 0 1 ∷ two 2 0 ∷ two 2 1 ∷ [])

pub table : Table
unfolding all any keep gather none from product sum largest same same_rows all_below with fit_to part
    cmp_rows increasing insert sorted sorted_onto lowest within_product alike well_formed within_sizes sound_layout made encode
    entries_from section_at walk natural rows_of entries_of layout_by layout_in sound ordered up_to good_components
    extents common_shape shapes_agree broadcast_shapes ravel_index on_index held filter_deps
    read_index place_from place_of lookup find_nnz_index_call min_rank_of to_dense dense_if_full dense
    shared_axes_fit stretched_axes every_value take_all stretch_rows yields stretch_deps stretched broadcast_to_shape
    positions removed_rows removed_deps lists_row remove_dense_axes holds expanded lowered union_of_rows union bars_filter with_dense intersect
    shortened_deps contracted contract_last_axis repeats is_permutation moved_to moved permuted permute
    concatenate cut_deps filter_deps_from
table = record {
  p1 = refl;
  p2 = refl;
  p3_zero = refl;
  p3_left = refl;
  p3_right = refl;
  p4 = refl;
  p5 = refl;
  p6 = refl;
  together = refl;
  outside_alone = refl;
  outside_together = refl;
  p7 = refl;
  rows_in_their_order = refl;
  empty_axis = refl;
  p8 = refl;
  p9 = refl;
  p9_lookup = refl;
  unfiltered = refl;
  unexpanded = refl;
  dense_wins = refl;
  dense_yields = refl;
  holds_behind_row = refl;
  holds_no_row = refl;
  holds_outside = refl;
  holds_on_diagonal = refl;
  holds_off_diagonal = refl;
  positions_in_order = refl;
}
