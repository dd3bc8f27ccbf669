-- `unite`: the window is lent to the union, and what it made is moved.
use Rattle.rules.proofs.HandedOn.{handed_on}
use mathlib.Core.Path.{refl}
use Rattle.rules.proofs.Same.{true_not_false}
use Rattle.pile.proofs.Uniting.{window_lent, united_done, united_refused}
use Rattle.pile.proofs.unite.Goals as goal

pub union_in-requires : goal.union_in-requires
union_in-requires c = record {
  window = window_lent _ c.requires.1 c.requires.0;
  rising = λ e. absurd (true_not_false e refl);
}

pub returns : goal.returns
returns c = united_done _ c.requires.1 c.requires.0 c.union_in.ensures c.in_ok-union_in.was c.move_part.ensures

pub returns-in_err-union_in : goal.returns-in_err-union_in
returns-in_err-union_in c =
    rw (handed_on c.from_residual.result c.from_residual.ensures.1)
    (united_refused _ c.requires.1 c.requires.0 c.union_in.ensures c.in_err-union_in.was)
