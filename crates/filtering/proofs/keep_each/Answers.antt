-- `keep_each`: at each turn those of the first i entries that are held are in the table.
use mathlib.Core.Path.{ap}
use Prim.Native.Nat.{ℕ, ◌+◌}
use Rattle.filtering.proofs.Keeping.{start, ask_entry, turn, done}
use Rattle.filtering.proofs.keep_each.Goals as goal

pub loop-i-init : goal.loop-i-init
loop-i-init c = start c.requires (ap (λ (k : ℕ). k + 1) c.get-w.ensures.0) c.get-n.ensures.0 c.store.ensures

pub put_held-requires : goal.put_held-requires
put_held-requires c = ask_entry c.loop-i.invariant c.loop-i-test.true

pub loop-i-preserved : goal.loop-i-preserved
loop-i-preserved c = turn c.loop-i.invariant c.loop-i-test.true c.put_held.ensures

pub returns : goal.returns
returns c = done c.requires (ap (λ (k : ℕ). k + 1) c.get-w.ensures.0) c.get-n.ensures.0 c.store.ensures c.loop-i.invariant c.loop-i-test.false
