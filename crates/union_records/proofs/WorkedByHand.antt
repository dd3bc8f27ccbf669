-- Texts and their answers, worked by hand; each holds by computation. Assumes nothing.
use mathlib.Core.Path.{◌≡◌, refl}
use mathlib.Core.List.{[], ◌∷◌}
use Rattle.rules.specs.Lists.{all, keep, gather, none, product, same, all_below, from}
use Rattle.rules.specs.Buffers.{part}
use Rattle.rules.specs.RowsInOrder.{cmp_rows, increasing, insert, sorted, sorted_onto}
use Rattle.rules.specs.Refusals.{lowest}
use Rattle.rules.specs.Layout.{within_product, well_formed, within_sizes, sound_layout, made}
use Rattle.rules.specs.Record.{entries_from, section_at, walk, natural, rows_of, entries_of, layout_by, layout_in, sound, behind_record}
use Rattle.rules.specs.Removal.{positions, removed_rows, remove_dense_axes, lists_row}
use Rattle.rules.specs.Pairs.{lowered}
use Rattle.rules.specs.Union.{union_of_rows, union, union_call}
use Rattle.text.specs.Read.{value_from, word_of, read_from}
use Rattle.text.specs.Written.{digits_in, number_text, rest_text, line_text}
use Rattle.record_text.specs.Lines.{layout_text, refused_text}
use Rattle.record_text.specs.Texts.{text_reading}
use Rattle.union_records.specs.Unions.{union_of, union_text}

pub record Table : Type 0 where
  -- a sparse record with a dense axis and one without: their union
  united : union_text (50 ∷ 32 ∷ 49 ∷ 32 ∷ 50 ∷ 32 ∷ 50 ∷ 32 ∷ 50 ∷ 32 ∷ 49 ∷ 32 ∷ 49 ∷ 32 ∷ 48 ∷ 32 ∷ 48 ∷ 32 ∷ 50 ∷ 32 ∷ 48 ∷ 32 ∷ 50 ∷ 32 ∷ 50 ∷ 32 ∷ 50 ∷ 32 ∷ 49 ∷ 32 ∷ 49 ∷ 32 ∷ 48 ∷ 32 ∷ 48 ∷ 32 ∷ 48 ∷ [])
      ≡ 50 ∷ 32 ∷ 48 ∷ 10 ∷ 50 ∷ 32 ∷ 50 ∷ 32 ∷ 50 ∷ 10 ∷ 50 ∷ 32 ∷ 49 ∷ 32 ∷ 48 ∷ 32 ∷ 49 ∷ 32 ∷ 49 ∷ 10 ∷ 48 ∷ 10 ∷ 48 ∷ 10 ∷ []
  -- a number behind them
  leftover : union_text (50 ∷ 32 ∷ 49 ∷ 32 ∷ 50 ∷ 32 ∷ 50 ∷ 32 ∷ 50 ∷ 32 ∷ 49 ∷ 32 ∷ 49 ∷ 32 ∷ 48 ∷ 32 ∷ 48 ∷ 32 ∷ 50 ∷ 32 ∷ 48 ∷ 32 ∷ 50 ∷ 32 ∷ 50 ∷ 32 ∷ 50 ∷ 32 ∷ 49 ∷ 32 ∷ 49 ∷ 32 ∷ 48 ∷ 32 ∷ 48 ∷ 32 ∷ 48 ∷ 32 ∷ 55 ∷ [])
      ≡ 114 ∷ 101 ∷ 102 ∷ 117 ∷ 115 ∷ 101 ∷ 100 ∷ 32 ∷ 51 ∷ 10 ∷ []
  -- no text: no record is there
  empty : union_text ([])
      ≡ 114 ∷ 101 ∷ 102 ∷ 117 ∷ 115 ∷ 101 ∷ 100 ∷ 32 ∷ 51 ∷ 10 ∷ []
  -- a letter
  letter : union_text (49 ∷ 32 ∷ 120 ∷ [])
      ≡ 114 ∷ 101 ∷ 102 ∷ 117 ∷ 115 ∷ 101 ∷ 100 ∷ 32 ∷ 51 ∷ 10 ∷ []
  -- more than four extents are counted, so that the record takes the rest
  five_extents : union_text (48 ∷ 32 ∷ 48 ∷ 32 ∷ 53 ∷ [])
      ≡ 114 ∷ 101 ∷ 102 ∷ 117 ∷ 115 ∷ 101 ∷ 100 ∷ 32 ∷ 49 ∷ 10 ∷ []

pub table : Table
unfolding all keep gather none product same all_below from part cmp_rows increasing insert sorted sorted_onto lowest within_product well_formed within_sizes sound_layout made entries_from section_at walk natural rows_of entries_of layout_by layout_in sound behind_record positions removed_rows remove_dense_axes lists_row lowered union_of_rows union union_call value_from word_of read_from digits_in number_text rest_text line_text layout_text refused_text text_reading union_of union_text
table = record { united = refl; leftover = refl; empty = refl; letter = refl; five_extents = refl }
