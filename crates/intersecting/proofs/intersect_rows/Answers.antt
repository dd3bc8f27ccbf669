-- `intersect_rows`: barred, meeting dense axes, listing a row too early, or by the common rows.
use Rattle.intersecting.proofs.Intersected.{barred, meeting, listing, ask_common, common_laid}
use Rattle.intersecting.proofs.intersect_rows.Goals as goal

pub returns-then-either_bars : goal.returns-then-either_bars
returns-then-either_bars c = barred c.requires.rows_asked c.either_bars.ensures c.if-either_bars.true

pub returns-then-bars_common : goal.returns-then-bars_common
returns-then-bars_common c = meeting c.requires.rows_asked c.either_bars.ensures c.if-either_bars.false c.lower_dense-d.ensures c.bars_common.ensures c.if-bars_common.true

pub returns-then-either_lists : goal.returns-then-either_lists
returns-then-either_lists c = listing c.requires.rows_asked c.either_bars.ensures c.if-either_bars.false c.lower_dense-d.ensures c.bars_common.ensures c.if-bars_common.false c.either_lists.ensures c.if-either_lists.true

pub common_layout-requires : goal.common_layout-requires
common_layout-requires c = record {
  both_asked = ask_common c.requires.rows_asked c.either_bars.ensures c.if-either_bars.false c.lower_dense-d.ensures c.bars_common.ensures c.if-bars_common.false c.either_lists.ensures c.if-either_lists.false;
  rising = c.requires.rising;
}

pub returns : goal.returns
returns c = common_laid c.requires.rows_asked c.either_bars.ensures c.if-either_bars.false c.lower_dense-d.ensures c.bars_common.ensures c.if-bars_common.false c.either_lists.ensures c.if-either_lists.false c.common_layout.ensures c.made.ensures
