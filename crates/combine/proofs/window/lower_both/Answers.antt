-- `lower_both`: the rows of the left layout, and then those of the right one.
use Rattle.combine.proofs.Both.{ask_first, first_stop, ask_second, second_rising, both_lowered}
use Rattle.combine.proofs.window.lower_both.Goals as goal

pub lower_into-requires : goal.lower_into-requires
lower_into-requires c = record {
  lower_asked = ask_first c.requires.both_asked;
  increasing = λ e. (c.requires.rising e).first;
}

pub lower_into-requires-then-lower_into : goal.lower_into-requires-then-lower_into
lower_into-requires-then-lower_into c = record {
  lower_asked = ask_second c.requires.both_asked c.lower_into.ensures;
  increasing = λ e. second_rising c.requires.both_asked c.lower_into.ensures (c.requires.rising e);
}

pub returns-then-lower_into : goal.returns-then-lower_into
returns-then-lower_into c = both_lowered c.requires.both_asked c.lower_into.ensures c.if-lower_into.true c.lower_into-then-lower_into.ensures

pub returns : goal.returns
returns c = first_stop c.requires.both_asked c.lower_into.ensures c.if-lower_into.false
