-- `cmp`: two natural numbers compare as their views do.
use Rattle.std.proofs.Common.{rules}
use Rattle.cells.proofs.Compared.{cmp_views}
use Rattle.cells.proofs.cmp.Goals as goal

pub returns : goal.returns
returns c = let a = c.args in
    search (rules, cmp_views a.s.now a.t.now a.i a.j c.requires.i_bound.0 c.requires.i_bound.1)
