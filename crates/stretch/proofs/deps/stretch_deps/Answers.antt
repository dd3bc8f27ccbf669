-- `stretch_deps`: where the shape stays the dependencies do; else at each turn what the first i dependencies yield is in the table.
use Rattle.stretch.proofs.Depending.{start, all_yielded, ask_entry, turn, stop, done}
use Rattle.stretch.proofs.Staying.{ask_sort_deps, deps_stay}
use borrow.Author.Rules.{rules}
use Rattle.stretch.proofs.deps.stretch_deps.Goals as goal

pub sort_from-requires : goal.sort_from-requires
sort_from-requires c = ask_sort_deps c.requires c.same_shape.ensures c.if-same_shape.true

pub returns-then-same_shape : goal.returns-then-same_shape
returns-then-same_shape c = deps_stay c.requires c.same_shape.ensures c.if-same_shape.true _ c.sort_from.ensures

pub loop-i-init : goal.loop-i-init
loop-i-init c = start c.requires c.store.ensures

pub put_yield-requires : goal.put_yield-requires
put_yield-requires c = ask_entry c.loop-i.invariant c.loop-i-test.true c.fitted-entry.result (search rules) c.fitted-entry.ensures

pub returns-then-not-put_yield : goal.returns-then-not-put_yield
returns-then-not-put_yield c = all_yielded _ c.requires c.store.ensures
    (stop c.loop-i.invariant c.loop-i-test.true c.fitted-entry.result (search rules) c.fitted-entry.ensures c.put_yield.ensures c.if-not-put_yield.true)

pub loop-i-preserved : goal.loop-i-preserved
loop-i-preserved c = turn c.loop-i.invariant c.loop-i-test.true c.fitted-entry.result (search rules) c.fitted-entry.ensures c.put_yield.ensures c.if-not-put_yield.false

pub returns : goal.returns
returns c = all_yielded _ c.requires c.store.ensures (done c.loop-i.invariant c.loop-i-test.false)
