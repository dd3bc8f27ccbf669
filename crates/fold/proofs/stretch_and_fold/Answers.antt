-- `stretch_and_fold`: judged, folded and ended in a window that is lent three times.
use Rattle.rules.proofs.HandedOn.{handed_on}
use native.Mathlib.Omega.{arith}
use Rattle.fold.proofs.Whole.{stretching_stops, ask_folds, fold_stops, ask_end, whole_ended}
use Rattle.fold.proofs.stretch_and_fold.Goals as goal

pub returns-in_err-judge_all : goal.returns-in_err-judge_all
returns-in_err-judge_all c =
    rw (handed_on c.from_residual.result c.from_residual.ensures.1)
    (stretching_stops c.requires.all_asked.0 c.args.mode c.args.rule _ c.judge_all.ensures c.in_err-judge_all.was _)

pub fold_all-requires : goal.fold_all-requires
fold_all-requires c = record {
  all_bringable = ask_folds c.requires.all_asked.0 c.args.mode c.args.rule _ c.judge_all.ensures c.in_ok-judge_all.was c.requires.all_asked.1;
  window_size_in_bounds = omega (arith, c.window-1.given.1, c.requires.window_size_in_bounds);
}

pub returns-in_err-fold_all : goal.returns-in_err-fold_all
returns-in_err-fold_all c =
    rw (handed_on c.from_residual-in_err-fold_all.result c.from_residual-in_err-fold_all.ensures.1)
    (fold_stops c.requires.all_asked.0 c.args.mode c.args.rule _ c.judge_all.ensures c.in_ok-judge_all.was c.fold_all.ensures c.in_err-fold_all.was)

pub end-requires : goal.end-requires
end-requires c = ask_end c.requires.all_asked.0 c.args.mode c.args.rule _ c.judge_all.ensures c.in_ok-judge_all.was c.fold_all.ensures c.in_ok-fold_all.was

pub returns : goal.returns
returns c = whole_ended c.requires.all_asked.0 c.args.mode c.args.rule _ c.judge_all.ensures c.in_ok-judge_all.was c.fold_all.ensures c.in_ok-fold_all.was c.window-3-1.given.0 c.end.ensures
