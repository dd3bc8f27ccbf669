-- `with_dense`: barred, or the other one with the dependencies that it holds.
use Rattle.intersecting.proofs.Others.{ask_bars, barred, ask_move, ask_merge, merged}
use Rattle.intersecting.proofs.with_dense.Goals as goal

pub bars_filter-requires : goal.bars_filter-requires
bars_filter-requires c = ask_bars c.requires c.other_of-other.ensures

pub returns-then-bars_filter : goal.returns-then-bars_filter
returns-then-bars_filter c = barred c.requires c.other_of-other.ensures c.bars_filter.ensures c.if-bars_filter.true

pub move_part-requires : goal.move_part-requires
move_part-requires c = let told = ask_move c.requires c.other_of-other.ensures in record { n_in_bounds = told.0; fact = told.1 }

pub merge_held-requires : goal.merge_held-requires
merge_held-requires c = ask_merge c.requires c.other_of-other.ensures c.move_part.ensures

pub returns : goal.returns
returns c = merged c.requires c.other_of-other.ensures c.move_part.ensures c.get-rank.ensures.0 c.merge_held.ensures c.bars_filter.ensures c.if-bars_filter.false c.made.ensures
