-- `within_sizes`: each test decides where those before it hold.
use borrow.Author.Rules.{rules}
use Rattle.records.proofs.Layouts.{rooms}
use Rattle.records.proofs.Soundness.{sizes}
use Rattle.records.proofs.within_sizes.Goals as goal

pub returns-then-not-within_product : goal.returns-then-not-within_product
returns-then-not-within_product c = search (rules, sizes)

pub small_deps-requires : goal.small_deps-requires
small_deps-requires c = search (rules, rooms)

pub returns-then-not-small_deps : goal.returns-then-not-small_deps
returns-then-not-small_deps c = search (rules, sizes)

pub small_deps-requires-2 : goal.small_deps-requires-2
small_deps-requires-2 c = search (rules, rooms)

pub returns : goal.returns
returns c = search (rules, sizes)
