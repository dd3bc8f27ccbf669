-- Entries worked by hand: where the rules do lose entries, each loss with the way round it, and two heat exchangers whose entries are kept. In
-- a loss an argument lists a dependency, a position of the result is computed from where it does, and the result does not list it there.
-- All hold by computation. Assumes nothing.
use mathlib.Core.Path.{◌≡◌, refl}
use mathlib.Core.Bool.{true, false}
use mathlib.Core.List.Memᴰ
use mathlib.Core.List.{List, [], ◌∷◌, ◌++◌}
use Prim.Native.Nat.{ℕ}
use Rattle.rules.specs.declared.Mode.TheVariants.{Alone, Together}
use Rattle.rules.specs.declared.Rule.TheVariants.{Unite, Multiply}
use Rattle.rules.specs.Lists.{all, any, none, keep, gather, from, product, sum, largest, same, same_rows, all_below, with, fit_to}
use Rattle.rules.specs.RowsInOrder.{cmp_rows, increasing, insert, sorted, sorted_onto}
use Rattle.rules.specs.Refusals.{given, refused, lowest}
use Rattle.rules.specs.Layout.{Layout, alike, within_product, well_formed, within_sizes, made}
use Rattle.rules.specs.Dependencies.{on_index, held, filter_deps, bars_filter}
use Rattle.rules.specs.Lookup.{read_index}
use Rattle.rules.specs.Holding.{holds}
use Rattle.rules.specs.CountsAndForms.{to_dense, dense_if_full, dense, eq_nonzeros}
use Rattle.rules.specs.Shapes.{extents, common_shape, shapes_agree, broadcast_shapes}
use Rattle.rules.specs.Stretching.{shared_axes_fit, stretched_axes, every_value, take_all, stretch_rows, yields, stretch_deps, stretched, broadcast_to_shape}
use Rattle.rules.specs.Removal.{positions, removed_rows, removed_deps, lists_row, remove_dense_axes}
use Rattle.rules.specs.Pairs.{expanded, lowered}
use Rattle.rules.specs.Union.{union_of_rows, union}
use Rattle.rules.specs.Intersect.{with_dense, intersect_of_rows, intersect}
use Rattle.rules.specs.ContractLastAxis.{shortened_deps, contract_last_axis}
use Rattle.rules.specs.ContractLastAxis as Cut
use Rattle.rules.specs.Broadcast.{combine, stretch_all, fold_onto, fold_back, end_of_broadcast, broadcast}
use Rattle.rules.specs.Concatenate.{Block, start_at, join_dense, join_other, joined_deps, join_blocks, concatenate, moved_by}
use Rattle.rules.specs.FilterDepsFrom.{cut_deps, filter_deps_from}
use Rattle.rules.specs.ComputedFrom.{State, DependsOn, StretchedFrom}
use Rattle.rules.specs.Expressions.{Expression, leaf, combined, stretched_by, contracted, joined, no_more, and_then, no_part, part_then, value, first_of, first_part, Through, at_leaf, through_combined, through_stretched, through_contracted, through_joined}
use Rattle.rules.proofs.Sets.{among_in, not_among}
use Rattle.rules.proofs.NoEntryLost.{no_entry_lost}

-- a layout by its kind, D, shape, rows and state dependencies
abbrev layout : ℕ → ℕ → List ℕ → List (List ℕ) → List (List ℕ) → Layout
layout kind d shape rows states = record { kind = kind; dense = d; shape = shape; rows = rows; states = states; inputs = [] }

-- an index or a shape of two axes, of three
abbrev two : ℕ → ℕ → List ℕ
two x y = x ∷ y ∷ []

abbrev three : ℕ → ℕ → ℕ → List ℕ
three x y z = x ∷ y ∷ z ∷ []

-- a dependency of the position p on state j
infix 68 ◌on◌
abbrev ◌on◌ : List ℕ → ℕ → List ℕ
p on j = p ++ (j ∷ [])

-- an argument lists the dependency of p on state j; one result, made of it, does not list that of q on it, and another, made by the way
-- round, does
pub record WayRound (argument : Layout) (p : List ℕ) (lossy whole : Layout) (q : List ℕ) (j : ℕ) : Type 0 where
  pub listed : DependsOn State argument p j
  pub lost : DependsOn State lossy q j → ⊥
  pub kept : DependsOn State whole q j

-- ---- mode 0 of stretching, over two axes

-- a dense [1,1] where (0,0) depends on state 7, and what each mode stretches it to
abbrev pub one_by_one : Layout
one_by_one = layout 0 2 (two 1 1) [] (two 0 0 on 7 ∷ [])

abbrev pub stretched_alone : Layout
stretched_alone = layout 0 2 (two 2 2) [] (two 0 0 on 7 ∷ two 0 1 on 7 ∷ two 1 0 on 7 ∷ [])

abbrev pub stretched_together : Layout
stretched_together = layout 0 2 (two 2 2) [] (two 0 0 on 7 ∷ two 0 1 on 7 ∷ two 1 0 on 7 ∷ two 1 1 on 7 ∷ [])

-- the loss: (1,1) is computed from (0,0), and mode 0 does not list it. The way round: mode 1 lists all four
-- positions. It is so in a sum, too
pub record OverTwoAxes : Type 0 where
  pub computed : StretchedFrom (two 1 1) (two 2 2) (two 0 0) (two 1 1)
  pub alone_gives : broadcast_to_shape Alone one_by_one (two 2 2) ≡ given stretched_alone
  pub together_gives : broadcast_to_shape Together one_by_one (two 2 2) ≡ given stretched_together
  pub entry : WayRound one_by_one (two 0 0) stretched_alone stretched_together (two 1 1) 7
  pub sum_alone : broadcast Alone (dense (two 2 2) ∷ one_by_one ∷ []) Unite ≡ given stretched_alone
  pub sum_together : broadcast Together (dense (two 2 2) ∷ one_by_one ∷ []) Unite ≡ given stretched_together

-- ---- a product that is a diagonal with dense axes, in either mode

-- a diagonal [2,2] where (0,0) depends on state 7; its product with a dense [2,2,2]; and that of the dense layout that it is turned to
abbrev pub diagonal_plane : Layout
diagonal_plane = layout 1 0 (two 2 2) [] (two 0 0 on 7 ∷ [])

abbrev pub diagonal_product : Layout
diagonal_product = layout 1 1 (three 2 2 2) [] (three 0 0 0 on 7 ∷ [])

abbrev pub plane_product : Layout
plane_product = layout 0 3 (three 2 2 2) [] (three 0 0 0 on 7 ∷ three 0 0 1 on 7 ∷ [])

-- the loss: (0,0,1) is computed from (0,0), and the product holds it and does not list it. The way round: the diagonal is turned dense first
pub record OfDiagonal : Type 0 where
  pub computed : StretchedFrom (two 2 2) (three 2 2 2) (two 0 0) (three 0 0 1)
  pub diagonal_gives : broadcast Together (diagonal_plane ∷ dense (three 2 2 2) ∷ []) Multiply ≡ given diagonal_product
  pub diagonal_held : holds diagonal_product (three 0 0 1) ≡ true
  pub dense_gives : broadcast Together (to_dense diagonal_plane ∷ dense (three 2 2 2) ∷ []) Multiply ≡ given plane_product
  pub entry : WayRound diagonal_plane (two 0 0) diagonal_product plane_product (three 0 0 1) 7

-- a diagonal [2,2,2] with a dense axis where (0,0,1) depends on state 7, and the same without dependencies
abbrev pub diagonal_axis : Layout
diagonal_axis = layout 1 1 (three 2 2 2) [] (three 0 0 1 on 7 ∷ [])

abbrev pub diagonal_bare : Layout
diagonal_bare = layout 1 1 (three 2 2 2) [] []

-- the same loss with nothing stretched, and the same way round
pub record OfDiagonalWithAxis : Type 0 where
  pub diagonal_gives : intersect (dense (three 2 2 2)) diagonal_axis ≡ given diagonal_bare
  pub diagonal_held : holds diagonal_bare (three 0 0 1) ≡ true
  pub dense_gives : intersect (dense (three 2 2 2)) (to_dense diagonal_axis) ≡ given (to_dense diagonal_axis)
  pub entry : WayRound diagonal_axis (three 0 0 1) diagonal_bare (to_dense diagonal_axis) (three 0 0 1) 7

-- ---- a narrow dense block that is joined to a wide one

-- a block above a dense block [1,2]
abbrev pub above_wide : Layout → List Block
above_wide l = record { start = two 0 0; zero = false; layout = l } ∷ record { start = two 1 0; zero = false; layout = dense (two 1 2) } ∷ []

-- the dense [1,1] widened to [1,2]
abbrev pub widened : Layout
widened = layout 0 2 (two 1 2) [] (two 0 0 on 7 ∷ two 0 1 on 7 ∷ [])

abbrev pub narrow_joined : Layout
narrow_joined = layout 0 2 (two 2 2) [] (two 0 0 on 7 ∷ [])

abbrev pub widened_joined : Layout
widened_joined = layout 0 2 (two 2 2) [] (two 0 0 on 7 ∷ two 0 1 on 7 ∷ [])

-- the loss: the block [1,1] fills the first row of the [2,2], where (0,1) is computed from (0,0), and is not stretched to it. The way round:
-- it is widened first, in mode 1
pub record OfNarrowBlock : Type 0 where
  pub computed : StretchedFrom (two 1 1) (two 1 2) (two 0 0) (two 0 1)
  pub narrow_gives : concatenate (above_wide one_by_one) 2 ≡ given narrow_joined
  pub widened_gives : broadcast_to_shape Together one_by_one (two 1 2) ≡ given widened
  pub wide_gives : concatenate (above_wide widened) 2 ≡ given widened_joined
  pub entry : WayRound one_by_one (two 0 0) narrow_joined widened_joined (two 0 1) 7

-- ---- what is cut of a source replaces what the target lists

-- dense [2] where (0) depends on state 3; dense [8] where (5) depends on state 5; the target with what is cut of it from 5 to 7; and both
abbrev pub target_two : Layout
target_two = layout 0 1 (2 ∷ []) [] ((0 ∷ []) on 3 ∷ [])

abbrev pub source_eight : Layout
source_eight = layout 0 1 (8 ∷ []) [] ((5 ∷ []) on 5 ∷ [])

abbrev pub target_replaced : Layout
target_replaced = layout 0 1 (2 ∷ []) [] ((0 ∷ []) on 5 ∷ [])

abbrev pub target_united : Layout
target_united = layout 0 1 (2 ∷ []) [] ((0 ∷ []) on 3 ∷ (0 ∷ []) on 5 ∷ [])

-- the loss: the target's own dependency on state 3. The way round: the union of the result with the target
pub record OfTarget : Type 0 where
  pub cut_gives : filter_deps_from target_two source_eight 5 7 ≡ given target_replaced
  pub union_gives : union target_replaced target_two ≡ given target_united
  pub entry : WayRound target_two (0 ∷ []) target_replaced target_united (0 ∷ []) 3

-- ---- a dependency on a dense axis of a sparse layout

-- a sparse [2,2] with a dense axis and the row [1], where (1,0) depends on state 7
abbrev pub row_and_axis : Layout
row_and_axis = layout 2 1 (two 2 2) ((1 ∷ []) ∷ []) (two 1 0 on 7 ∷ [])

-- a sparse [2,2] that lists (1,0) and (1,1), where one of them or both depend on state 7
abbrev pub both_listed : List (List ℕ) → Layout
both_listed states = layout 2 0 (two 2 2) (two 1 0 ∷ two 1 1 ∷ []) states

abbrev pub one_depends : Layout
one_depends = both_listed (two 1 0 on 7 ∷ [])

abbrev pub both_depend : Layout
both_depend = both_listed (two 1 0 on 7 ∷ two 1 1 on 7 ∷ [])

-- a loss only where the dependency is meant for the whole axis: a union leaves it at (1,0). The way round: an intersection with those rows takes
-- the axis away and gives it every value there, and the union leaves that. With a dense layout an intersection is refused
pub record OnDenseAxis : Type 0 where
  pub union_leaves : union row_and_axis (both_listed []) ≡ given one_depends
  pub intersection_spreads : intersect row_and_axis (both_listed []) ≡ given both_depend
  pub union_after : union both_depend (both_listed []) ≡ given both_depend
  pub entry : WayRound row_and_axis (two 1 0) one_depends both_depend (two 1 1) 7
  pub dense_refuses : intersect row_and_axis (dense (two 2 2)) ≡ refused 11

-- ---- no losses

-- that sparse layout contracted: it keeps the row
abbrev pub row_contracted : Layout
row_contracted = layout 2 0 (2 ∷ []) ((1 ∷ []) ∷ []) ((1 ∷ []) on 7 ∷ [])

-- a dense [2,1] where (1,1), outside of it, depends on state 7, and a diagonal [2,1] with a dense axis
abbrev pub dense_outside : Layout
dense_outside = layout 0 2 (two 2 1) [] (two 1 1 on 7 ∷ [])

abbrev pub diagonal_narrow : List (List ℕ) → Layout
diagonal_narrow states = layout 1 1 (two 2 1) [] states

pub record NoLoss : Type 0 where
  -- a sparse layout contracted over a dense axis keeps its rows, so that the next product holds them and keeps the entry
  pub contraction_gives : contract_last_axis row_and_axis ≡ given row_contracted
  pub product_gives : intersect row_contracted (dense (2 ∷ [])) ≡ given row_contracted
  -- a product drops an entry at a position that it does not hold: it is zero there
  pub unheld_dropped : intersect (layout 2 0 (2 ∷ []) ((0 ∷ []) ∷ []) []) (layout 0 1 (2 ∷ []) [] ((1 ∷ []) on 7 ∷ [])) ≡ given (layout 2 0 (2 ∷ []) ((0 ∷ []) ∷ []) [])
  -- an entry (i,i) outside of the shape of a diagonal with a dense axis is listed by a product that is that diagonal, which does not hold it; behind a dense
  -- factor it is dropped
  pub outside_listed : broadcast Together (dense_outside ∷ diagonal_narrow [] ∷ []) Multiply ≡ given (diagonal_narrow (two 1 1 on 7 ∷ []))
  pub outside_unheld : holds (diagonal_narrow (two 1 1 on 7 ∷ [])) (two 1 1) ≡ false
  pub outside_dropped : broadcast Together (diagonal_narrow [] ∷ dense_outside ∷ dense (two 2 1) ∷ []) Multiply ≡ given (diagonal_narrow [])
  -- two diagonals are merged and not filtered: an entry beside the diagonal stays
  pub beside_listed : broadcast Together (layout 1 0 (two 2 2) [] (two 0 1 on 7 ∷ []) ∷ layout 1 0 (two 2 2) [] [] ∷ []) Multiply ≡ given (layout 1 0 (two 2 2) [] (two 0 1 on 7 ∷ []))
  -- to an extent 0 mode 1 lists nothing: there is no position. Mode 0 keeps the entry, outside the shape
  pub to_none_together : broadcast_to_shape Together (layout 0 1 (1 ∷ []) [] ((0 ∷ []) on 7 ∷ [])) (0 ∷ []) ≡ given (layout 0 1 (0 ∷ []) [] [])
  pub to_none_alone : broadcast_to_shape Alone (layout 0 1 (1 ∷ []) [] ((0 ∷ []) on 7 ∷ [])) (0 ∷ []) ≡ given (layout 0 1 (0 ∷ []) [] ((0 ∷ []) on 7 ∷ []))

-- ---- all of them

pub record LostEntries : Type 0 where
  pub over_two_axes : OverTwoAxes
  pub of_diagonal : OfDiagonal
  pub of_diagonal_with_axis : OfDiagonalWithAxis
  pub of_narrow_block : OfNarrowBlock
  pub of_target : OfTarget
  pub on_dense_axis : OnDenseAxis
  pub no_loss : NoLoss

pub lost_entries : LostEntries
unfolding all any keep gather none from product sum largest same same_rows all_below with fit_to
    cmp_rows increasing insert sorted sorted_onto lowest within_product alike well_formed within_sizes made
    extents common_shape shapes_agree broadcast_shapes on_index held filter_deps bars_filter read_index to_dense dense_if_full dense eq_nonzeros
    shared_axes_fit stretched_axes every_value take_all stretch_rows yields stretch_deps stretched broadcast_to_shape
    positions removed_rows removed_deps lists_row remove_dense_axes holds expanded lowered union_of_rows union with_dense intersect_of_rows intersect
    shortened_deps Cut.contracted contract_last_axis combine stretch_all fold_onto fold_back end_of_broadcast broadcast
    start_at join_dense join_other joined_deps join_blocks concatenate moved_by cut_deps filter_deps_from
lost_entries = record {
  over_two_axes = record {
    computed = record { inside = refl; reads = refl };
    alone_gives = refl;
    together_gives = refl;
    entry = record { listed = among_in _ _ refl; lost = not_among refl; kept = among_in _ _ refl };
    sum_alone = refl;
    sum_together = refl;
  };
  of_diagonal = record {
    computed = record { inside = refl; reads = refl };
    diagonal_gives = refl;
    diagonal_held = refl;
    dense_gives = refl;
    entry = record { listed = among_in _ _ refl; lost = not_among refl; kept = among_in _ _ refl };
  };
  of_diagonal_with_axis = record {
    diagonal_gives = refl;
    diagonal_held = refl;
    dense_gives = refl;
    entry = record { listed = among_in _ _ refl; lost = not_among refl; kept = among_in _ _ refl };
  };
  of_narrow_block = record {
    computed = record { inside = refl; reads = refl };
    narrow_gives = refl;
    widened_gives = refl;
    wide_gives = refl;
    entry = record { listed = among_in _ _ refl; lost = not_among refl; kept = among_in _ _ refl };
  };
  of_target = record { cut_gives = refl; union_gives = refl; entry = record { listed = among_in _ _ refl; lost = not_among refl; kept = among_in _ _ refl } };
  on_dense_axis = record {
    union_leaves = refl;
    intersection_spreads = refl;
    union_after = refl;
    entry = record { listed = among_in _ _ refl; lost = not_among refl; kept = among_in _ _ refl };
    dense_refuses = refl;
  };
  no_loss = record {
    contraction_gives = refl;
    product_gives = refl;
    unheld_dropped = refl;
    outside_listed = refl;
    outside_unheld = refl;
    outside_dropped = refl;
    beside_listed = refl;
    to_none_together = refl;
    to_none_alone = refl;
  };
}

-- ---- two exchangers with axes of size one: stretched over [2,2], added to a dense layout and summed over the last axis

abbrev pub plant : Expression
plant = contracted (combined Unite (and_then (leaf 0 one_by_one) (and_then (leaf 1 (dense (two 2 2))) no_more)))

-- both positions of the sum depend on state 7
abbrev pub plant_layout : Layout
plant_layout = layout 0 1 (2 ∷ []) [] ((0 ∷ []) on 7 ∷ (1 ∷ []) on 7 ∷ [])

pub plant_gives : value plant ≡ given plant_layout
unfolding all any keep gather none from product largest same all_below with fit_to cmp_rows increasing insert sorted sorted_onto lowest within_product alike well_formed within_sizes made
    extents common_shape shapes_agree broadcast_shapes on_index to_dense dense_if_full dense shared_axes_fit stretched_axes every_value take_all stretch_rows yields stretch_deps stretched broadcast_to_shape
    union shortened_deps Cut.contracted contract_last_axis combine stretch_all fold_onto fold_back end_of_broadcast broadcast value
plant_gives = refl

-- the second is computed, through (1,1) of the sum, from (0,0) of the exchangers
pub plant_through : Through one_by_one (two 0 0) plant (1 ∷ [])
unfolding all any keep gather none from product largest same all_below with fit_to cmp_rows increasing insert sorted sorted_onto lowest within_product alike well_formed within_sizes made
    extents common_shape shapes_agree broadcast_shapes on_index to_dense dense_if_full dense shared_axes_fit stretched_axes every_value take_all stretch_rows yields stretch_deps stretched broadcast_to_shape
    union combine stretch_all fold_onto fold_back end_of_broadcast broadcast value read_index
plant_through =
    through_contracted
    (through_combined {r = two 1 1} {a = one_by_one} {x = stretched_together} at_leaf first_of refl refl
    (record { inside = refl; reads = refl }) tt) refl

-- so the theorem says that it depends on state 7
pub plant_keeps : DependsOn State plant_layout (1 ∷ []) 7
plant_keeps = no_entry_lost State plant_through plant_gives 7 (Memᴰ.head refl)

-- ---- the exchangers widened to [1,2], above a dense [1,2]

abbrev pub stacked : Expression
stacked = joined 2 (part_then (two 0 0) false (stretched_by (two 1 2) (leaf 0 one_by_one)) (part_then (two 1 0) false (leaf 1 (dense (two 1 2))) no_part))

pub stacked_gives : value stacked ≡ given widened_joined
unfolding all any keep gather none from product sum largest same all_below with fit_to cmp_rows increasing insert sorted sorted_onto lowest within_product well_formed within_sizes made
    on_index dense shared_axes_fit stretched_axes every_value take_all stretch_rows yields stretch_deps stretched broadcast_to_shape
    start_at join_dense joined_deps join_blocks concatenate moved_by value
stacked_gives = refl

-- (0,1) is computed from (0,0) of the exchangers
pub stacked_through : Through one_by_one (two 0 0) stacked (two 0 1)
unfolding all any keep gather none product same all_below cmp_rows increasing sorted lowest within_product well_formed within_sizes made fit_to moved_by read_index value
stacked_through = through_joined {q = two 0 1} (through_stretched {e = leaf 0 one_by_one} {a = one_by_one} at_leaf refl (record { inside = refl; reads = refl })) first_part refl

-- so the theorem says that it depends on state 7
pub stacked_keeps : DependsOn State widened_joined (two 0 1) 7
stacked_keeps = no_entry_lost State stacked_through stacked_gives 7 (Memᴰ.head refl)
