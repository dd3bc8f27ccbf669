-- `judge_all`: all before this one may be stretched.
use Rattle.lists.specs.Records.{layouts_at}
use Rattle.fold.specs.Stretched.{extents_of}
use Rattle.fold.proofs.Bringing.{JudgedTo}
use Rattle.fold.proofs.stretching.judge_all.Given as goal

abbrev pub invariant-loop-i : goal.invariant-loop-i
invariant-loop-i l = JudgedTo l.mode (extents_of l.shape) l.places.count l.i (layouts_at l.places.count l.places.at l.layouts) l.initial.part l.part
