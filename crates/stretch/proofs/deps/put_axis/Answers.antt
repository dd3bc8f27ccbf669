-- `put_axis`: every value if the axis is stretched, nothing otherwise.
use Rattle.stretch.proofs.Yields.{ask_values, axis_taken, axis_kept}
use Rattle.stretch.proofs.deps.put_axis.Goals as goal

pub put_values-requires : goal.put_values-requires
put_values-requires c = ask_values c.requires.entry_asked c.requires.axis_lt_rank c.get-extent.ensures.0

pub returns-then-is_stretched : goal.returns-then-is_stretched
returns-then-is_stretched c = axis_taken c.requires.entry_asked c.requires.axis_lt_rank c.is_stretched.ensures c.if-is_stretched.true c.get-extent.ensures.0 c.put_values.ensures

pub returns : goal.returns
returns c = axis_kept c.requires.entry_asked c.requires.axis_lt_rank c.is_stretched.ensures c.if-is_stretched.false
