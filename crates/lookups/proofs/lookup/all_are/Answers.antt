-- `all_are`: the test of the closure is that of the clause, number by number.
use Rattle.std.proofs.Common.{◌∙◌, refl, rules, arith, length, get_or, eqb, pos}
use Rattle.std.proofs.lemmas.Iterator.{YieldsList-from_range}
use Rattle.std.proofs.lemmas.Iterator.Search.{all_from_yields_List}
use borrow.Author.Tests.{tests}
use Rattle.rules.specs.Record.{natural}
use Rattle.lookups.proofs.Reading.{are_all}
use Rattle.lookups.proofs.lookup.all_are.Goals as goal

pub returns : goal.returns
returns c =
    let index = c.args.index.now in
    let v = c.args.v in
    let n = length index in
    let chain = YieldsList-from_range 0 n n refl (omega arith) in
    all_from_yields_List (λ k. eqb v (natural (get_or index k (pos 0)))) _ _ c.all.result c.all.ensures.ran chain (λ x b q k. search (rules, tests))
    ∙ are_all index v 0 n (omega arith)
