-- `stretch_to_rank`: 6 for a cut axis, else the shape fitted to the rank.
use Rattle.stretch.proofs.Assembled.{ask_extents, cut_disagrees, ask_stretch, rank_said}
use borrow.Author.Rules.{rules}
use Rattle.stretch.proofs.stretch_to_rank.Goals as goal

pub returns-then-not-cut_fit : goal.returns-then-not-cut_fit
returns-then-not-cut_fit c = cut_disagrees c.requires.sound_record c.cut_fit.ensures _ c.if-not-cut_fit.true _

pub fitted_extents-extents-requires : goal.fitted_extents-extents-requires
fitted_extents-extents-requires c = ask_extents c.requires.sound_record

pub stretch_into-requires : goal.stretch_into-requires
stretch_into-requires c = record {
  stretch_asked = ask_stretch c.requires.sound_record c.cut_fit.ensures c.if-not-cut_fit.false c.fitted_extents-extents.result (search rules) c.fitted_extents-extents.ensures;
  part_size_in_bounds = c.requires.part_size_in_bounds;
}

pub returns : goal.returns
returns c = rank_said c.requires.sound_record c.cut_fit.ensures c.if-not-cut_fit.false c.fitted_extents-extents.result (search rules) c.fitted_extents-extents.ensures _ c.stretch_into.ensures
