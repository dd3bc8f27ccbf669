-- `stretch_into`: each answer by its own law.
use Rattle.stretch.proofs.Assembled.{disagrees, bars, breaks, ask_head, is_made, too_large}
use Rattle.stretch.proofs.stretch_into.Goals as goal

pub returns-then-not-shared_fit : goal.returns-then-not-shared_fit
returns-then-not-shared_fit c = disagrees c.requires.stretch_asked c.shared_fit.ensures _ c.if-not-shared_fit.true _

pub returns-then-rank-head : goal.returns-then-rank-head
returns-then-rank-head c = bars c.requires.stretch_asked c.shared_fit.ensures c.if-not-shared_fit.false _ c.if-rank-head.true _

pub returns-then-bends : goal.returns-then-bends
returns-then-bends c = breaks c.requires.stretch_asked c.shared_fit.ensures c.if-not-shared_fit.false c.if-rank-head.false c.bends.ensures _ c.if-bends.true _

pub write_head-requires : goal.write_head-requires
write_head-requires c = ask_head c.requires.stretch_asked c.shared_fit.ensures c.if-not-shared_fit.false c.if-rank-head.false c.bends.ensures c.get-kind.ensures.0 c.requires.part_size_in_bounds

pub returns-then-fill : goal.returns-then-fill
returns-then-fill c = is_made c.requires.stretch_asked c.shared_fit.ensures c.if-not-shared_fit.false c.if-rank-head.false c.bends.ensures c.if-bends.false c.get-kind.ensures.0 c.requires.part_size_in_bounds c.write_head.ensures _ c.fill.ensures c.if-fill.true

pub returns : goal.returns
returns c = too_large c.requires.stretch_asked c.shared_fit.ensures c.if-not-shared_fit.false c.if-rank-head.false c.bends.ensures c.if-bends.false c.get-kind.ensures.0 c.requires.part_size_in_bounds c.write_head.ensures _ c.fill.ensures c.if-fill.false
