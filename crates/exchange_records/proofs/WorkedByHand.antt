-- Lists of numbers and what they are answered with, worked by hand; each holds by computation. Assumes nothing.
use mathlib.Core.Path.{◌≡◌, refl}
use mathlib.Core.List.{List, [], ◌∷◌, ◌++◌, map}
use lib.IntN.{ℤ, pos, negsuc}
use Rattle.rules.specs.Lists.{all, any, keep, gather, none, from, product, sum, same, all_below}
use Rattle.rules.specs.Buffers.{part, over, put}
use Rattle.rules.specs.RowsInOrder.{cmp_rows, increasing, insert, sorted}
use Rattle.rules.specs.Refusals.{lowest}
use Rattle.rules.specs.Layout.{within_product, alike, well_formed, within_sizes, sound_layout, made, encode}
use Rattle.rules.specs.Record.{entries_from, section_at, walk, natural, rows_of, entries_of, layout_by, layout_in, sound, ordered, behind_record}
use Rattle.rules.specs.Arguments.{up_to}
use Rattle.rules.specs.Dependencies.{held, filter_deps, bars_filter}
use Rattle.rules.specs.CountsAndForms.{to_dense, dense_if_full, dense}
use Rattle.rules.specs.Removal.{removed_rows, lists_row, remove_dense_axes}
use Rattle.rules.specs.Pairs.{lowered}
use Rattle.rules.specs.Union.{union_of_rows, union, union_call}
use Rattle.rules.specs.Intersect.{with_dense, intersect_of_rows, intersect, intersect_call}
use Rattle.rules.specs.Pile.{exchange_call}
use Rattle.text.specs.Written.{digits_in, number_text, rest_text, line_text}
use Rattle.record_text.specs.Lines.{layout_text, refused_text}
use Rattle.exchange_records.specs.Piles.{behind_records, slot_with, pile_of, slot_text, slots_text}
use Rattle.exchange_records.specs.Exchanges.{exchanges_text, are_pairs, records_text, list_text}

-- two records of a shape [3]: the rows [0],[2] and the row [1]
abbrev two : List ℤ
two = map pos (2 ∷ 2 ∷ 0 ∷ 1 ∷ 3 ∷ 2 ∷ 0 ∷ 2 ∷ 0 ∷ 0 ∷ 2 ∷ 0 ∷ 1 ∷ 3 ∷ 1 ∷ 1 ∷ 0 ∷ 0 ∷ [])

pub record Table : Type 0 where
  -- their union and their intersection; a place with itself
  exchanged : list_text (two ++ map pos (2 ∷ 0 ∷ 1 ∷ 1 ∷ 1 ∷ []))
      ≡ 109 ∷ 97 ∷ 100 ∷ 101 ∷ 10 ∷ 114 ∷ 101 ∷ 102 ∷ 117 ∷ 115 ∷ 101 ∷ 100 ∷ 32 ∷ 53 ∷ 10 ∷ 50 ∷ 32 ∷ 48 ∷ 10 ∷ 49 ∷ 32 ∷ 51 ∷ 10 ∷ 51 ∷ 32 ∷ 48 ∷ 32 ∷ 49 ∷ 32 ∷ 50 ∷ 10 ∷ 48 ∷ 10 ∷ 48 ∷ 10 ∷ 50 ∷ 32 ∷ 48 ∷ 10 ∷ 49 ∷ 32 ∷ 51 ∷ 10 ∷ 48 ∷ 10 ∷ 48 ∷ 10 ∷ 48 ∷ 10 ∷ []
  -- a number behind the pairs, and one pair too few
  leftover : list_text (two ++ map pos (1 ∷ 0 ∷ 1 ∷ 7 ∷ [])) ≡ 114 ∷ 101 ∷ 102 ∷ 117 ∷ 115 ∷ 101 ∷ 100 ∷ 32 ∷ 51 ∷ 10 ∷ []
  cut : list_text (two ++ map pos (2 ∷ 0 ∷ 1 ∷ 1 ∷ [])) ≡ 114 ∷ 101 ∷ 102 ∷ 117 ∷ 115 ∷ 101 ∷ 100 ∷ 32 ∷ 51 ∷ 10 ∷ []
  -- no records, and no pairs
  nothing : list_text (map pos (0 ∷ 0 ∷ [])) ≡ []
  -- no count of pairs; no count of records; counts outside 0..16
  no_pairs : list_text (map pos (0 ∷ [])) ≡ 114 ∷ 101 ∷ 102 ∷ 117 ∷ 115 ∷ 101 ∷ 100 ∷ 32 ∷ 51 ∷ 10 ∷ []
  no_count : list_text [] ≡ 114 ∷ 101 ∷ 102 ∷ 117 ∷ 115 ∷ 101 ∷ 100 ∷ 32 ∷ 51 ∷ 10 ∷ []
  too_many : list_text (map pos (17 ∷ [])) ≡ 114 ∷ 101 ∷ 102 ∷ 117 ∷ 115 ∷ 101 ∷ 100 ∷ 32 ∷ 49 ∷ 10 ∷ []
  negative : list_text (negsuc 0 ∷ []) ≡ 114 ∷ 101 ∷ 102 ∷ 117 ∷ 115 ∷ 101 ∷ 100 ∷ 32 ∷ 49 ∷ 10 ∷ []

pub table : Table
unfolding all any keep gather none from product sum same all_below part over put cmp_rows increasing insert sorted lowest within_product alike well_formed within_sizes sound_layout made encode entries_from section_at walk natural rows_of entries_of layout_by layout_in sound ordered held filter_deps bars_filter to_dense dense_if_full dense removed_rows lists_row remove_dense_axes lowered union_of_rows union union_call with_dense intersect_of_rows intersect intersect_call exchange_call behind_record up_to digits_in number_text rest_text line_text layout_text refused_text behind_records slot_with pile_of slot_text slots_text exchanges_text are_pairs records_text list_text
table = record { exchanged = refl; leftover = refl; cut = refl; nothing = refl; no_pairs = refl; no_count = refl; too_many = refl; negative = refl }
