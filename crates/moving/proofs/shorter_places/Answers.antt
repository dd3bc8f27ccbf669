-- `shorter_places`: the component behind the last that is kept gives way to the number.
use mathlib.Core.Path.{refl}
use Rattle.rules.specs.Lists.{from}
use Rattle.moving.specs.Picking.{shorter_places}
use Rattle.moving.proofs.shorter_places.Goals as goal

pub returns : goal.returns
unfolding shorter_places from
returns c = refl
