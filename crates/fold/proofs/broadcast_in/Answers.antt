-- `broadcast_in`: by the common shape.
use Rattle.rules.proofs.HandedOn.{handed_on}
use Rattle.fold.proofs.Whole.{common_stops, numbers_low, ask_stretches, whole_said}
use Rattle.fold.proofs.broadcast_in.Goals as goal

pub as_shape-shape-requires : goal.as_shape-shape-requires
as_shape-shape-requires c = numbers_low c.requires.each_at c.args.mode c.args.rule _ c.common_shape.ensures.is c.common_shape.ensures.few c.in_ok-common.was

pub stretch_and_fold-requires : goal.stretch_and_fold-requires
stretch_and_fold-requires c = record {
  all_asked = ask_stretches c.requires.each_at c.args.mode c.args.rule _ c.common_shape.ensures.is c.common_shape.ensures.few c.in_ok-common.was c.as_shape-shape.ensures;
  window_size_in_bounds = c.requires.window_size_in_bounds;
}

pub returns : goal.returns
returns c = whole_said c.requires.each_at c.args.mode c.args.rule _ c.common_shape.ensures.is c.common_shape.ensures.few c.in_ok-common.was c.as_shape-shape.ensures c.stretch_and_fold.ensures

pub returns-in_err-common : goal.returns-in_err-common
returns-in_err-common c =
    rw (handed_on c.from_residual.result c.from_residual.ensures.1)
    (common_stops c.requires.each_at c.args.mode c.args.rule _ c.common_shape.ensures.is c.in_err-common.was _)
