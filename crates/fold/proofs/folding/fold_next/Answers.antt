-- `fold_next`: barred, refused, or combined and moved to the left.
use Rattle.rules.proofs.HandedOn.{handed_on}
use Rattle.fold.proofs.Steps.{next_barred, next_refused, next_done}
use Rattle.fold.proofs.folding.fold_next.Goals as goal

pub returns-then-is_barred : goal.returns-then-is_barred
returns-then-is_barred c = next_barred c.args.first c.args.rule c.requires c.is_barred.ensures c.if-is_barred.true _

pub returns-in_err-combine_in : goal.returns-in_err-combine_in
returns-in_err-combine_in c =
    rw (handed_on c.from_residual.result c.from_residual.ensures.1)
    (next_refused c.args.first c.args.rule c.requires c.is_barred.ensures c.if-is_barred.false c.combine_in.ensures c.in_err-combine_in.was)

pub returns : goal.returns
returns c = next_done c.args.first c.args.rule c.requires c.is_barred.ensures c.if-is_barred.false c.combine_in.ensures c.in_ok-combine_in.was c.carry_left.ensures
