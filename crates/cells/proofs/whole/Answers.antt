-- `whole`: a number below 2 ^ 31 is kept by the cast.
use mir.Syntax.{w32}
use mir.ValLaws.{to_z_pos}
use Rattle.cells.proofs.whole.Goals as goal

pub returns : goal.returns
returns c = to_z_pos w32 c.args.n c.requires
