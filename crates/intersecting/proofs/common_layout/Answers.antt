-- `common_layout`: the common rows, the dependencies that they hold, and dense if they are all.
use Rattle.intersecting.proofs.CommonRows.{rows_stop, deps_stop, ask_fill, laid}
use Rattle.intersecting.proofs.common_layout.Goals as goal

pub returns-then-not-common_rows : goal.returns-then-not-common_rows
returns-then-not-common_rows c = rows_stop c.requires.both_asked c.common_rows.ensures c.if-not-common_rows.true

pub merge_held-requires : goal.merge_held-requires
merge_held-requires c = c.common_rows.ensures.asked c.if-not-common_rows.false

pub returns-then-not-merge_held : goal.returns-then-not-merge_held
returns-then-not-merge_held c = deps_stop c.requires.both_asked c.common_rows.ensures c.if-not-common_rows.false c.merge_held.ensures c.if-not-merge_held.true

pub fill_up-requires : goal.fill_up-requires
fill_up-requires c = ask_fill c.requires.both_asked c.common_rows.ensures c.if-not-common_rows.false c.merge_held.ensures c.if-not-merge_held.false

pub returns : goal.returns
returns c = laid c.requires.both_asked c.common_rows.ensures c.if-not-common_rows.false c.merge_held.ensures c.if-not-merge_held.false c.fill_up.ensures
