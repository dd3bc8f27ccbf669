-- `axis_to_cut`: each reason against cutting, then the axis.
use mathlib.Core.Path.{refl}
use Rattle.rules.proofs.KindRead.{dense_number, not_dense}
use Rattle.range.proofs.Axes.{is_not_dense, no_axis, fewer_axes, two_wide, cut_along}
use Rattle.range.proofs.axis_to_cut.Goals as goal

pub returns-in_default : goal.returns-in_default
returns-in_default c = is_not_dense c.requires _ refl (not_dense c.kind_at.ensures c.in_default.not-Dense)

pub returns-then-other-eq0 : goal.returns-then-other-eq0
returns-then-other-eq0 c = no_axis c.requires _ c.if-other-eq0.true

pub returns-then-other-rank : goal.returns-then-other-rank
returns-then-other-rank c = fewer_axes c.requires _ c.if-other-rank.true

pub returns-then-wide-gt1 : goal.returns-then-wide-gt1
returns-then-wide-gt1 c = two_wide c.requires _ c.wide_axes-wide.ensures c.if-wide-gt1.true

pub returns : goal.returns
returns c = cut_along c.requires _ c.wide_axes-wide.ensures refl (dense_number c.kind_at.ensures c.in-Dense.is) c.if-other-eq0.false c.if-other-rank.false c.if-wide-gt1.false
