-- `agree`: one test after the other.
use mathlib.Core.Path.{sym, ◌∙◌}
use borrow.Author.Rules.{rules}
use borrow.Author.Tests.{not-false}
use Rattle.blocks.proofs.Asks.{first_within}
use Rattle.blocks.proofs.Ways.{agree_laws}
use Rattle.blocks.proofs.deciding.agree.Goals as goal

pub returns-then-not-all_pass : goal.returns-then-not-all_pass
returns-then-not-all_pass c = search (rules, agree_laws)

pub returns-then-not-all_pass-2 : goal.returns-then-not-all_pass-2
returns-then-not-all_pass-2 c = search (rules, agree_laws)

pub last_agree-requires : goal.last_agree-requires
last_agree-requires c = let pre = c.requires in
    let one = sym c.all_pass-2.ensures ∙ not-false _ c.if-not-all_pass-2.false-raw in record {
      each_at = pre.each_at;
      s_value = one;
      d_le_rank = first_within pre.each_at.0 pre.d_value c.all_pass-2.ensures c.if-not-all_pass-2.false-raw;
    }

pub returns : goal.returns
returns c = search (rules, agree_laws)
