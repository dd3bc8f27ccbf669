-- A pile of three layouts exchanged by hand, and two of their records in a slice; each holds by computation. Assumes nothing.
use mathlib.Core.Path.{◌≡◌, refl}
use mathlib.Core.Bool.{true, false}
use mathlib.Core.List.{List, [], ◌∷◌, ◌++◌, map}
use Prim.Native.Nat.{ℕ}
use lib.IntN.{ℤ, pos, negsuc}
use Rattle.rules.specs.Limits.{work_size}
use Rattle.rules.specs.Lists.{all, any, keep, gather, none, from, product, sum, same, all_below}
use Rattle.rules.specs.Buffers.{part, over, put, zeros}
use Rattle.rules.specs.RowsInOrder.{cmp_rows, increasing, insert, sorted}
use Rattle.rules.specs.Refusals.{given, refused, lowest}
use Rattle.rules.specs.Layout.{Layout, within_product, alike, well_formed, within_sizes, sound_layout, made, encode}
use Rattle.rules.specs.Record.{entries_from, section_at, walk, natural, rows_of, entries_of, layout_by, layout_in, sound, ordered}
use Rattle.rules.specs.Arguments.{up_to, good_components}
use Rattle.rules.specs.Positions.{ravel_index}
use Rattle.rules.specs.Dependencies.{held, filter_deps, bars_filter}
use Rattle.rules.specs.Lookup.{read_index, place_from, place_of, lookup, find_nnz_index_call}
use Rattle.rules.specs.CountsAndForms.{nnz, nnz_call, to_dense, dense_if_full, dense}
use Rattle.rules.specs.Removal.{removed_rows, lists_row, remove_dense_axes}
use Rattle.rules.specs.Pairs.{lowered}
use Rattle.rules.specs.Union.{union_of_rows, union, union_call}
use Rattle.rules.specs.Intersect.{with_dense, intersect_of_rows, intersect, intersect_call}
use Rattle.rules.specs.Pile.{belongs, exchange, exchanged, exchanges_made, how_many, nonzeros, slot_count, sound_slots, exchange_call, Exchange, exchanges_from, exchange_all_call}
use Rattle.rules.specs.PileKept.{is_pile, can_exchange, slots_finding, nnz_sum}

-- ---- layouts

-- a sparse layout [2,2] of rows
abbrev rows_at : List (List ℕ) → Layout
rows_at rows = record { kind = 2; dense = 0; shape = 2 ∷ 2 ∷ []; rows = rows; states = []; inputs = [] }

abbrev two : ℕ → ℕ → List ℕ
two x y = x ∷ y ∷ []

abbrev places : ℤ → ℤ → Exchange
places i j = record { first = i; second = j }

-- three rows, two rows of which one is the same, and all
abbrev start : List Layout
start = rows_at (two 0 0 ∷ two 0 1 ∷ two 1 0 ∷ []) ∷ rows_at (two 0 1 ∷ two 1 1 ∷ []) ∷ dense (two 2 2) ∷ []

pub record PileTable : Type 0 where
  pub belong : all (belongs (two 2 2)) start ≡ true
  -- a union stays sparse even when full
  pub made : exchange (pos 0) (pos 1) start ≡ given (rows_at (two 0 0 ∷ two 0 1 ∷ two 1 0 ∷ two 1 1 ∷ []) ∷ rows_at (two 0 1 ∷ []) ∷ dense (two 2 2) ∷ [])
  -- the other way round
  pub turned : exchange (pos 1) (pos 0) start ≡ given (rows_at (two 0 1 ∷ []) ∷ rows_at (two 0 0 ∷ two 0 1 ∷ two 1 0 ∷ two 1 1 ∷ []) ∷ dense (two 2 2) ∷ [])
  pub dense_first : exchange (pos 1) (pos 2) start ≡ given (rows_at (two 0 0 ∷ two 0 1 ∷ two 1 0 ∷ []) ∷ dense (two 2 2) ∷ rows_at (two 0 1 ∷ two 1 1 ∷ []) ∷ [])
  pub outside : exchange (pos 0) (pos 3) start ≡ refused 5
  pub negative : exchange (negsuc 0) (pos 1) start ≡ refused 5
  pub same_place : exchange (pos 1) (pos 1) start ≡ refused 5
  -- the second of these is refused, the third is made
  pub three : exchanged (places (pos 0) (pos 1) ∷ places (pos 3) (pos 0) ∷ places (pos 1) (pos 2) ∷ []) start
      ≡ rows_at (two 0 0 ∷ two 0 1 ∷ two 1 0 ∷ two 1 1 ∷ []) ∷ dense (two 2 2) ∷ rows_at (two 0 1 ∷ []) ∷ []
  pub two_made : exchanges_made (places (pos 0) (pos 1) ∷ places (pos 3) (pos 0) ∷ places (pos 1) (pos 2) ∷ []) start ≡ 2
  pub how_many_hold : how_many (two 0 1) start ≡ 3
  pub how_many_less : how_many (two 1 0) start ≡ 2
  pub total : nonzeros start ≡ 9

pub pile_table : PileTable
unfolding all any keep gather none product sum same all_below part cmp_rows increasing insert sorted lowest within_product alike well_formed within_sizes sound_layout made encode entries_from section_at walk natural rows_of entries_of layout_by layout_in sound ordered ravel_index held filter_deps bars_filter read_index place_from place_of lookup nnz to_dense dense_if_full dense removed_rows lists_row remove_dense_axes lowered union_of_rows union union_call with_dense intersect_of_rows intersect intersect_call belongs exchange exchanged exchanges_made how_many nonzeros
pile_table = record {
  belong = refl;
  made = refl;
  turned = refl;
  dense_first = refl;
  outside = refl;
  negative = refl;
  same_place = refl;
  three = refl;
  two_made = refl;
  how_many_hold = refl;
  how_many_less = refl;
  total = refl;
}

-- ---- records

-- numbers of a slot, and zeros behind them
abbrev slot : List ℕ → ℕ → List ℤ
slot numbers rest = map pos numbers ++ zeros rest

-- the rows [0],[2] and the row [1] of a shape [3], a 9 behind the second record, and two numbers behind the slots
abbrev slice : List ℤ
slice = slot (2 ∷ 0 ∷ 1 ∷ 3 ∷ 2 ∷ 0 ∷ 2 ∷ 0 ∷ 0 ∷ []) 1793 ++ slot (2 ∷ 0 ∷ 1 ∷ 3 ∷ 1 ∷ 1 ∷ 0 ∷ 0 ∷ 9 ∷ []) 1793 ++ map pos (7 ∷ 8 ∷ [])

pub record SlotTable : Type 0 where
  pub two_slots : slot_count slice ≡ 2
  pub all_sound : sound_slots slice ≡ true
  pub a_pile : is_pile (3 ∷ []) slice ≡ true
  pub of_no_other_shape : is_pile (2 ∷ []) slice ≡ false
  pub can : can_exchange slice (pos 0) (pos 1) ≡ true
  pub cannot : can_exchange slice (pos 1) (pos 1) ≡ false
  pub one_finds : slots_finding (1 ∷ []) slice ≡ 1
  pub three_in_all : nnz_sum slice ≡ 3
  -- the union has three rows; the intersection has none, and what stood behind its record stays
  pub made : exchange_call slice (pos 0) (pos 1) work_size ≡ given (slot (2 ∷ 0 ∷ 1 ∷ 3 ∷ 3 ∷ 0 ∷ 1 ∷ 2 ∷ 0 ∷ 0 ∷ []) 1792 ++ slot (2 ∷ 0 ∷ 1 ∷ 3 ∷ 0 ∷ 0 ∷ 0 ∷ 0 ∷ 9 ∷ []) 1793 ++ map pos (7 ∷ 8 ∷ []))
  pub short : exchange_call slice (pos 0) (pos 1) 10811 ≡ refused 2
  pub outside : exchange_call slice (pos 0) (pos 2) work_size ≡ refused 5
  -- 2 comes before 5
  pub short_outside : exchange_call slice (pos 0) (pos 2) 10811 ≡ refused 2
  -- of three the second is refused; the third brings the union to the second slot
  pub all_made : exchange_all_call slice (map pos (0 ∷ 1 ∷ 1 ∷ 1 ∷ 1 ∷ 0 ∷ [])) work_size
      ≡ given (record { made = 2; pile = slot (2 ∷ 0 ∷ 1 ∷ 3 ∷ 0 ∷ 0 ∷ 0 ∷ 2 ∷ 0 ∷ 0 ∷ []) 1792 ++ slot (2 ∷ 0 ∷ 1 ∷ 3 ∷ 3 ∷ 0 ∷ 1 ∷ 2 ∷ 0 ∷ 0 ∷ []) 1792 ++ map pos (7 ∷ 8 ∷ []) })
  pub short_all : exchange_all_call slice (map pos (0 ∷ [])) 10811 ≡ refused 2
  pub odd : exchange_all_call slice (map pos (0 ∷ 1 ∷ 1 ∷ [])) work_size ≡ refused 5

pub slot_table : SlotTable
unfolding all any keep gather none from product sum same all_below part over put cmp_rows increasing insert sorted lowest within_product alike well_formed within_sizes sound_layout made encode entries_from section_at walk natural rows_of entries_of layout_by layout_in sound ordered held filter_deps bars_filter to_dense dense_if_full dense removed_rows lists_row remove_dense_axes lowered union_of_rows union union_call with_dense intersect_of_rows intersect intersect_call up_to good_components ravel_index read_index place_from place_of lookup find_nnz_index_call nnz nnz_call belongs exchange_call exchanges_from exchange_all_call
slot_table = record {
  two_slots = refl;
  all_sound = refl;
  a_pile = refl;
  of_no_other_shape = refl;
  can = refl;
  cannot = refl;
  one_finds = refl;
  three_in_all = refl;
  made = refl;
  short = refl;
  outside = refl;
  short_outside = refl;
  all_made = refl;
  short_all = refl;
  odd = refl;
}
