-- `unite_rows`: barred, listing a row too early, or by the rows of both.
use Rattle.combine.proofs.United.{barred, listing, rows_made}
use Rattle.combine.proofs.uniting.unite_rows.Goals as goal

pub returns-then-either_bars : goal.returns-then-either_bars
returns-then-either_bars c = barred c.requires.rows_asked c.either_bars.ensures c.if-either_bars.true

pub returns-then-either_lists : goal.returns-then-either_lists
returns-then-either_lists c = listing c.requires.rows_asked c.either_bars.ensures c.if-either_bars.false c.lower_dense-d.ensures c.either_lists.ensures c.if-either_lists.true

pub returns : goal.returns
returns c = rows_made c.requires.rows_asked c.either_bars.ensures c.if-either_bars.false c.lower_dense-d.ensures c.either_lists.ensures c.if-either_lists.false c.join_layouts.ensures c.made.ensures
