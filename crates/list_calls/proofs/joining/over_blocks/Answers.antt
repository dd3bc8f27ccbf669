-- `over_blocks`: the count, the rank, and then the records.
use mathlib.Core.Path.{ap, ◌∙◌}
use mir.Syntax.{w32}
use mir.ValLaws.{to_z-of_z}
use Rattle.rules.specs.Arguments.{over_count, over_rank}
use Rattle.list_calls.proofs.Concatenations.{either_three}
use Rattle.list_calls.proofs.joining.over_blocks.Goals as goal

pub returns : goal.returns
returns c = either_three _ _ _ (c.over_count.ensures ∙ ap over_count (to_z-of_z w32 _ c.ranges.count)) (c.over_rank.ensures ∙ ap over_rank (to_z-of_z w32 _ c.ranges.rank)) c.either-numbers.ensures c.over_axes.ensures c.either.ensures
