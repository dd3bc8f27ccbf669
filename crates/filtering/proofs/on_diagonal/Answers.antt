-- `on_diagonal`: not (i,..,i), or by i.
use Rattle.filtering.proofs.Held.{straight}
use Rattle.filtering.proofs.on_diagonal.Goals as goal

pub returns-then-alike : goal.returns-then-alike
returns-then-alike c = straight c.requires c.get-rank.ensures.0 c.alike.ensures c.if-alike.true c.get.ensures.0 c.get-then-alike.ensures.0
