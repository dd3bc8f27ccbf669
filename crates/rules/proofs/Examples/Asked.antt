-- Each call with all that it computes with unfolded. Written by tests/examples.
use mathlib.Core.Path.{◌≡◌, refl}
use mathlib.Core.Bool.{Bool, true, false}
use mathlib.Core.List.{List, [], ◌∷◌, map}
use Prim.Native.Nat.{ℕ}
use lib.IntN.{ℤ, pos, negsuc}
use Rattle.std.specs.declared.cmp.Ordering.{Ordering}
use Rattle.std.specs.declared.cmp.Ordering.TheVariants.{Less, Equal, Greater}
use Rattle.rules.specs.Arguments.{up_to, good_components}
use Rattle.rules.specs.Broadcast.{rule_of, combine, stretch_all, fold_onto, fold_back, end_of_broadcast, broadcast, broadcast_call, broadcast_with_mode_call}
use Rattle.rules.specs.Buffers.{part, over, put}
use Rattle.rules.specs.Concatenate.{start_at, join_dense, first_d, last_agree, agree, moved_by, join_sparse, join_other, joined_deps, join_blocks, concatenate, block_of, concatenate_call}
use Rattle.rules.specs.ContractLastAxis.{shortened_deps, contracted, contract_last_axis, contract_last_axis_call}
use Rattle.rules.specs.CountsAndForms.{nnz, min_rank_of, eq_nonzeros, eq_nonzeros_and_deps, to_dense, dense_if_full, dense, diagonal, sparse, to_data_layout, nnz_call, min_rank_call, eq_nonzeros_call, eq_nonzeros_and_deps_call, to_dense_call, to_data_layout_call, new_empty_call, new_scalar_call, dense_call, diagonal_call, sparse_call}
use Rattle.rules.specs.Dependencies.{on_index, held, filter_deps, bars_filter}
use Rattle.rules.specs.Endings.{result_after, work_after, Lookup, found, nothing}
use Rattle.rules.specs.FilterDepsFrom.{cut_deps, filter_deps_from, filter_deps_from_call}
use Rattle.rules.specs.Holding.{holds}
use Rattle.rules.specs.Intersect.{with_dense, intersect_of_rows, intersect, intersect_call}
use Rattle.rules.specs.Layout.{kind_of, within_product, alike, well_formed, within_sizes, sound_layout, made, encode}
use Rattle.rules.specs.Lists.{all, any, keep, gather, none, from, product, sum, largest, same, same_rows, all_below, with, fit_to}
use Rattle.rules.specs.Lookup.{read_index, place_from, place_of, lookup, find_nnz_index_call, place_number, good_indices, places_of, find_nnz_indices_call}
use Rattle.rules.specs.Pairs.{expanded, lowered}
use Rattle.rules.specs.Permute.{repeats, is_permutation, moved_to, moved, permuted, permute, permute_call}
use Rattle.rules.specs.Pile.{belongs, exchange, exchanged, exchanges_made, how_many, nonzeros, exchange_call, exchanges_from, exchange_all_call, exchanges_in}
use Rattle.rules.specs.Positions.{ravel_index, unravel, unravel_index, ravel_index_call, unravel_index_call, cmp_index_call}
use Rattle.rules.specs.Record.{entries_from, section_at, walk, natural, rows_of, entries_of, layout_by, layout_in, sound, ordered, row, row_place, behind_record, behind_shape, end_to_end, list_count, shape_in, good_shape, block_at, behind_block, blocks_in}
use Rattle.rules.specs.Refusals.{number_of, lowest, Verdict, given, refused, in_form}
use Rattle.rules.specs.Removal.{positions, removed_rows, removed_deps, lists_row, remove_dense_axes}
use Rattle.rules.specs.RowsInOrder.{cmp_rows, increasing, insert, sorted, sorted_onto}
use Rattle.rules.specs.Shapes.{extents, common_shape, shapes_agree, broadcast_shapes, can_broadcast_to, broadcast_shapes_call, can_broadcast_to_call}
use Rattle.rules.specs.Stretching.{shared_axes_fit, stretched_axes, every_value, take_all, stretch_rows, yields, stretch_deps, stretched, broadcast_to_shape, broadcast_to_rank, broadcast_to_shape_call, broadcast_to_rank_call, mode_of, broadcast_to_shape_with_mode_call, broadcast_to_rank_with_mode_call}
use Rattle.rules.specs.Union.{union_of_rows, union, union_call}

-- numbers of a slice, none of them negative
abbrev pub nums : List ℕ → List ℤ
nums l = map pos l

unfoldable pub ask_broadcast_shapes : List ℤ → ℤ → Verdict (List ℕ)
unfolding up_to combine stretch_all fold_onto fold_back end_of_broadcast broadcast part over put first_d last_agree agree eq_nonzeros to_dense dense_if_full dense diagonal sparse on_index held filter_deps bars_filter holds with_dense intersect_of_rows intersect within_product alike well_formed within_sizes sound_layout made all any keep gather none from product largest same same_rows all_below with fit_to expanded lowered belongs entries_from section_at walk natural rows_of entries_of layout_by layout_in sound ordered row behind_shape end_to_end list_count shape_in good_shape lowest positions removed_rows removed_deps lists_row remove_dense_axes cmp_rows increasing insert sorted sorted_onto extents common_shape shapes_agree broadcast_shapes broadcast_shapes_call shared_axes_fit stretched_axes every_value take_all stretch_rows yields stretch_deps stretched broadcast_to_shape union_of_rows union
ask_broadcast_shapes a b = broadcast_shapes_call a b

unfoldable pub ask_can_broadcast_to : List ℤ → List ℤ → Verdict (Bool)
unfolding part over put dense diagonal sparse held holds within_product alike well_formed within_sizes sound_layout made all any keep gather none from product largest same all_below with entries_from section_at walk natural rows_of entries_of layout_by sound row shape_in good_shape lowest positions cmp_rows increasing insert sorted extents common_shape shapes_agree can_broadcast_to can_broadcast_to_call
ask_can_broadcast_to a b = can_broadcast_to_call a b

unfoldable pub ask_ravel_index : List ℤ → List ℤ → Verdict (ℕ)
unfolding up_to good_components part over put dense diagonal sparse held holds within_product alike well_formed within_sizes sound_layout made all any keep gather none from product sum same all_below with ravel_index ravel_index_call entries_from section_at walk natural rows_of entries_of layout_by sound row shape_in good_shape lowest positions cmp_rows increasing insert sorted extents
ask_ravel_index a b = ravel_index_call a b

unfoldable pub ask_unravel_index : ℤ → List ℤ → Verdict (List ℕ)
unfolding part over put dense diagonal sparse held holds within_product alike well_formed within_sizes sound_layout made all any keep gather none from product same all_below with unravel unravel_index unravel_index_call entries_from section_at walk natural rows_of entries_of layout_by sound row shape_in good_shape lowest positions cmp_rows increasing insert sorted extents
ask_unravel_index a b = unravel_index_call a b

unfoldable pub ask_cmp_index : List ℤ → List ℤ → Verdict (Ordering)
unfolding up_to good_components part over put dense diagonal sparse held holds within_product alike well_formed within_sizes sound_layout made all any keep gather none from product same all_below with cmp_index_call entries_from section_at walk natural rows_of entries_of layout_by sound row lowest positions cmp_rows increasing insert sorted extents
ask_cmp_index a b = cmp_index_call a b

unfoldable pub ask_find_nnz_index : List ℤ → List ℤ → Verdict (Lookup)
unfolding up_to good_components part over put dense diagonal sparse held holds within_product alike well_formed within_sizes sound_layout made all any keep gather none from product sum same all_below with read_index place_from place_of lookup find_nnz_index_call ravel_index entries_from section_at walk natural rows_of entries_of layout_by layout_in sound ordered row lowest positions cmp_rows increasing insert sorted extents
ask_find_nnz_index a b = find_nnz_index_call a b

unfoldable pub ask_nnz : List ℤ → Verdict (ℕ)
unfolding part over put nnz dense diagonal sparse nnz_call held holds within_product alike well_formed within_sizes sound_layout made all any keep gather none from product same all_below with entries_from section_at walk natural rows_of entries_of layout_by layout_in sound row lowest positions cmp_rows increasing insert sorted extents
ask_nnz a = nnz_call a

unfoldable pub ask_min_rank : List ℤ → Verdict (ℕ)
unfolding part over put min_rank_of dense diagonal sparse min_rank_call held holds within_product alike well_formed within_sizes sound_layout made all any keep gather none from product same all_below with entries_from section_at walk natural rows_of entries_of layout_by layout_in sound row lowest positions cmp_rows increasing insert sorted extents
ask_min_rank a = min_rank_call a

unfoldable pub ask_eq_nonzeros : List ℤ → List ℤ → Verdict (Bool)
unfolding part over put eq_nonzeros dense diagonal sparse eq_nonzeros_call held holds within_product alike well_formed within_sizes sound_layout made all any keep gather none from product same same_rows all_below with entries_from section_at walk natural rows_of entries_of layout_by layout_in sound row lowest positions cmp_rows increasing insert sorted extents
ask_eq_nonzeros a b = eq_nonzeros_call a b

unfoldable pub ask_eq_nonzeros_and_deps : List ℤ → List ℤ → Verdict (Bool)
unfolding part over put eq_nonzeros eq_nonzeros_and_deps dense diagonal sparse eq_nonzeros_and_deps_call held holds within_product alike well_formed within_sizes sound_layout made all any keep gather none from product same same_rows all_below with entries_from section_at walk natural rows_of entries_of layout_by layout_in sound row lowest positions cmp_rows increasing insert sorted extents
ask_eq_nonzeros_and_deps a b = eq_nonzeros_and_deps_call a b

unfoldable pub ask_to_dense : List ℤ → ℕ → Verdict (List ℤ)
unfolding part over put to_dense dense diagonal sparse to_dense_call held holds within_product alike well_formed within_sizes sound_layout made encode all any keep gather none from product same all_below with entries_from section_at walk natural rows_of entries_of layout_by layout_in sound row lowest positions cmp_rows increasing insert sorted extents
ask_to_dense a b = in_form encode (to_dense_call a b)

unfoldable pub ask_new_empty : ℤ → ℕ → Verdict (List ℤ)
unfolding part over put dense diagonal sparse new_empty_call held holds within_product alike well_formed within_sizes sound_layout made encode all any keep gather none from product same all_below with entries_from section_at walk natural rows_of entries_of layout_by sound row lowest positions cmp_rows increasing insert sorted extents
ask_new_empty a b = in_form encode (new_empty_call a b)

unfoldable pub ask_new_scalar : ℕ → Verdict (List ℤ)
unfolding part over put dense diagonal sparse new_scalar_call held holds within_product alike well_formed within_sizes sound_layout made encode all any keep gather none from product same all_below with entries_from section_at walk natural rows_of entries_of layout_by sound row lowest positions cmp_rows increasing insert sorted extents
ask_new_scalar a = in_form encode (new_scalar_call a)

unfoldable pub ask_dense : List ℤ → ℕ → Verdict (List ℤ)
unfolding part over put dense diagonal sparse dense_call held holds within_product alike well_formed within_sizes sound_layout made encode all any keep gather none from product same all_below with entries_from section_at walk natural rows_of entries_of layout_by sound row shape_in good_shape lowest positions cmp_rows increasing insert sorted extents
ask_dense a b = in_form encode (dense_call a b)

unfoldable pub ask_diagonal : List ℤ → ℕ → Verdict (List ℤ)
unfolding part over put dense diagonal sparse diagonal_call held holds within_product alike well_formed within_sizes sound_layout made encode all any keep gather none from product same all_below with entries_from section_at walk natural rows_of entries_of layout_by sound row shape_in good_shape lowest positions cmp_rows increasing insert sorted extents
ask_diagonal a b = in_form encode (diagonal_call a b)

unfoldable pub ask_sparse : List ℤ → ℤ → List ℤ → ℕ → Verdict (List ℤ)
unfolding part over put dense diagonal sparse sparse_call held holds within_product alike well_formed within_sizes sound_layout made encode all any keep gather none from product same all_below with entries_from section_at walk natural rows_of entries_of layout_by sound row shape_in good_shape lowest positions cmp_rows increasing insert sorted extents
ask_sparse a b c d = in_form encode (sparse_call a b c d)

unfoldable pub ask_to_data_layout : List ℤ → ℕ → Verdict (List ℤ)
unfolding part over put dense diagonal sparse to_data_layout to_data_layout_call on_index held holds within_product alike well_formed within_sizes sound_layout made all any keep gather none from product same all_below with fit_to entries_from section_at walk natural rows_of entries_of layout_by layout_in sound row lowest positions cmp_rows increasing insert sorted sorted_onto extents stretched_axes every_value take_all stretch_rows yields stretch_deps stretched
ask_to_data_layout a b = to_data_layout_call a b

unfoldable pub ask_broadcast_to_shape : List ℤ → List ℤ → ℕ → ℕ → Verdict (List ℤ)
unfolding part over put dense diagonal sparse on_index held holds within_product alike well_formed within_sizes sound_layout made encode all any keep gather none from product same all_below with fit_to entries_from section_at walk natural rows_of entries_of layout_by layout_in sound row shape_in good_shape lowest positions cmp_rows increasing insert sorted sorted_onto extents shared_axes_fit stretched_axes every_value take_all stretch_rows yields stretch_deps stretched broadcast_to_shape broadcast_to_shape_call
ask_broadcast_to_shape a b c d = in_form encode (broadcast_to_shape_call a b c d)

unfoldable pub ask_broadcast_to_rank : List ℤ → ℤ → ℕ → ℕ → Verdict (List ℤ)
unfolding part over put dense diagonal sparse on_index held holds within_product alike well_formed within_sizes sound_layout made encode all any keep gather none from product same all_below with fit_to entries_from section_at walk natural rows_of entries_of layout_by layout_in sound row lowest positions cmp_rows increasing insert sorted sorted_onto extents shared_axes_fit stretched_axes every_value take_all stretch_rows yields stretch_deps stretched broadcast_to_shape broadcast_to_rank broadcast_to_rank_call
ask_broadcast_to_rank a b c d = in_form encode (broadcast_to_rank_call a b c d)

unfoldable pub ask_union : List ℤ → List ℤ → ℕ → ℕ → Verdict (List ℤ)
unfolding part over put to_dense dense diagonal sparse on_index held holds within_product alike well_formed within_sizes sound_layout made encode all any keep gather none from product same all_below with expanded lowered entries_from section_at walk natural rows_of entries_of layout_by layout_in sound row lowest positions removed_rows removed_deps lists_row remove_dense_axes cmp_rows increasing insert sorted sorted_onto extents union_of_rows union union_call
ask_union a b c d = in_form encode (union_call a b c d)

unfoldable pub ask_intersect : List ℤ → List ℤ → ℕ → ℕ → Verdict (List ℤ)
unfolding part over put to_dense dense_if_full dense diagonal sparse on_index held filter_deps bars_filter holds with_dense intersect_of_rows intersect intersect_call within_product alike well_formed within_sizes sound_layout made encode all any keep gather none from product same all_below with expanded lowered entries_from section_at walk natural rows_of entries_of layout_by layout_in sound ordered row lowest positions removed_rows removed_deps lists_row remove_dense_axes cmp_rows increasing insert sorted sorted_onto extents
ask_intersect a b c d = in_form encode (intersect_call a b c d)

unfoldable pub ask_contract_last_axis : List ℤ → ℕ → ℕ → Verdict (List ℤ)
unfolding part over put shortened_deps contracted contract_last_axis contract_last_axis_call to_dense dense_if_full dense diagonal sparse on_index held holds within_product alike well_formed within_sizes sound_layout made encode all any keep gather none from product same all_below with entries_from section_at walk natural rows_of entries_of layout_by layout_in sound row lowest positions cmp_rows increasing insert sorted extents
ask_contract_last_axis a b c = in_form encode (contract_last_axis_call a b c)

unfoldable pub ask_permute : List ℤ → List ℤ → ℕ → ℕ → Verdict (List ℤ)
unfolding up_to part over put min_rank_of dense diagonal sparse on_index held holds within_product alike well_formed within_sizes sound_layout made encode all any keep gather none from product largest same all_below with repeats is_permutation moved_to moved permuted permute permute_call entries_from section_at walk natural rows_of entries_of layout_by layout_in sound row lowest positions cmp_rows increasing insert sorted extents
ask_permute a b c d = in_form encode (permute_call a b c d)

unfoldable pub ask_broadcast : List ℤ → ℤ → ℕ → ℕ → ℕ → Verdict (List ℤ)
unfolding up_to rule_of combine stretch_all fold_onto fold_back end_of_broadcast broadcast broadcast_call part over put first_d last_agree agree eq_nonzeros to_dense dense_if_full dense diagonal sparse on_index held filter_deps bars_filter holds with_dense intersect_of_rows intersect within_product alike well_formed within_sizes sound_layout made encode all any keep gather none from product largest same same_rows all_below with fit_to expanded lowered belongs entries_from section_at walk natural rows_of entries_of layout_by layout_in sound ordered row behind_record end_to_end list_count lowest positions removed_rows removed_deps lists_row remove_dense_axes cmp_rows increasing insert sorted sorted_onto extents common_shape shapes_agree broadcast_shapes shared_axes_fit stretched_axes every_value take_all stretch_rows yields stretch_deps stretched broadcast_to_shape union_of_rows union
ask_broadcast a b c d e = in_form encode (broadcast_call a b c d e)

unfoldable pub ask_concatenate : List ℤ → ℤ → ℤ → ℕ → ℕ → Verdict (List ℤ)
unfolding up_to part over put start_at join_dense first_d last_agree agree moved_by join_sparse join_other joined_deps join_blocks concatenate block_of concatenate_call to_dense dense_if_full dense diagonal sparse on_index held holds within_product alike well_formed within_sizes sound_layout made encode all any keep gather none from product sum largest same all_below with fit_to expanded moved_to moved entries_from section_at walk natural rows_of entries_of layout_by layout_in sound row behind_record end_to_end list_count block_at behind_block blocks_in lowest positions cmp_rows increasing insert sorted extents
ask_concatenate a b c d e = in_form encode (concatenate_call a b c d e)

unfoldable pub ask_filter_deps_from : List ℤ → List ℤ → ℤ → ℤ → ℕ → ℕ → Verdict (List ℤ)
unfolding up_to part over put dense diagonal sparse on_index held cut_deps filter_deps_from filter_deps_from_call holds within_product alike well_formed within_sizes sound_layout made encode all any keep gather none from product same all_below with entries_from section_at walk natural rows_of entries_of layout_by layout_in sound row lowest positions cmp_rows increasing insert sorted extents
ask_filter_deps_from a b c d e f = in_form encode (filter_deps_from_call a b c d e f)

unfoldable pub ask_sound : List ℤ → Verdict (Bool)
unfolding part over put dense diagonal sparse held holds within_product alike well_formed within_sizes sound_layout made all any keep gather none from product same all_below with entries_from section_at walk natural rows_of entries_of layout_by sound row lowest positions cmp_rows increasing insert sorted extents
ask_sound a = given (sound a)

unfoldable pub ask_ordered : List ℤ → Verdict (Bool)
unfolding part over put dense diagonal sparse held holds within_product alike well_formed within_sizes sound_layout made all any keep gather none from product same all_below with entries_from section_at walk natural rows_of entries_of layout_by layout_in sound ordered row lowest positions cmp_rows increasing insert sorted extents
ask_ordered a = given (ordered a)

unfoldable pub ask_row : List ℤ → ℤ → Verdict (List ℤ)
unfolding part over put dense diagonal sparse held holds within_product alike well_formed within_sizes sound_layout made all any keep gather none from product same all_below with entries_from section_at walk natural rows_of entries_of layout_by sound row lowest positions cmp_rows increasing insert sorted extents
ask_row a b = given (row a b)

unfoldable pub ask_broadcast_to_shape_with_mode : List ℤ → List ℤ → ℤ → ℕ → ℕ → Verdict (List ℤ)
unfolding up_to part over put dense diagonal sparse on_index held holds within_product alike well_formed within_sizes sound_layout made encode all any keep gather none from product same all_below with fit_to entries_from section_at walk natural rows_of entries_of layout_by layout_in sound row shape_in good_shape lowest positions cmp_rows increasing insert sorted sorted_onto extents shared_axes_fit stretched_axes every_value take_all stretch_rows yields stretch_deps stretched broadcast_to_shape mode_of broadcast_to_shape_with_mode_call
ask_broadcast_to_shape_with_mode a b c d e = in_form encode (broadcast_to_shape_with_mode_call a b c d e)

unfoldable pub ask_broadcast_to_rank_with_mode : List ℤ → ℤ → ℤ → ℕ → ℕ → Verdict (List ℤ)
unfolding up_to part over put dense diagonal sparse on_index held holds within_product alike well_formed within_sizes sound_layout made encode all any keep gather none from product same all_below with fit_to entries_from section_at walk natural rows_of entries_of layout_by layout_in sound row lowest positions cmp_rows increasing insert sorted sorted_onto extents shared_axes_fit stretched_axes every_value take_all stretch_rows yields stretch_deps stretched broadcast_to_shape broadcast_to_rank mode_of broadcast_to_rank_with_mode_call
ask_broadcast_to_rank_with_mode a b c d e = in_form encode (broadcast_to_rank_with_mode_call a b c d e)

unfoldable pub ask_broadcast_with_mode : List ℤ → ℤ → ℕ → ℤ → ℕ → ℕ → Verdict (List ℤ)
unfolding up_to rule_of combine stretch_all fold_onto fold_back end_of_broadcast broadcast broadcast_with_mode_call part over put first_d last_agree agree eq_nonzeros to_dense dense_if_full dense diagonal sparse on_index held filter_deps bars_filter holds with_dense intersect_of_rows intersect within_product alike well_formed within_sizes sound_layout made encode all any keep gather none from product largest same same_rows all_below with fit_to expanded lowered belongs entries_from section_at walk natural rows_of entries_of layout_by layout_in sound ordered row behind_record end_to_end list_count lowest positions removed_rows removed_deps lists_row remove_dense_axes cmp_rows increasing insert sorted sorted_onto extents common_shape shapes_agree broadcast_shapes shared_axes_fit stretched_axes every_value take_all stretch_rows yields stretch_deps stretched broadcast_to_shape mode_of union_of_rows union
ask_broadcast_with_mode a b c d e f = in_form encode (broadcast_with_mode_call a b c d e f)

unfoldable pub ask_find_nnz_indices : List ℤ → ℤ → List ℤ → ℕ → Verdict (List ℤ)
unfolding up_to good_components part over put dense diagonal sparse held holds within_product alike well_formed within_sizes sound_layout made all any keep gather none from product sum same all_below with read_index place_from place_of lookup place_number good_indices places_of find_nnz_indices_call ravel_index entries_from section_at walk natural rows_of entries_of layout_by layout_in sound ordered row lowest positions cmp_rows increasing insert sorted extents
ask_find_nnz_indices a b c d = find_nnz_indices_call a b c d
