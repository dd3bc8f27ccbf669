-- `new_scalar`: by the first reason that holds.
use Rattle.judging.proofs.Judged.{judged}
use Rattle.judging.proofs.Results.{ends_refused, ends_stepped, results}
use Rattle.rules.specs.CountsAndForms.{new_scalar, new_scalar_call}
use Rattle.rules.specs.Layout.{Layout, encode}
use Rattle.rules.specs.Refusals.{Verdict, given, number_of}
use Rattle.rules.specs.declared.Refusal.TheVariants.{ShortBuffer}
use lib.ListN.{length}
use Rattle.form_calls.proofs.new_scalar.Goals as goal

pub returns-then-res-lt-PART : goal.returns-then-res-lt-PART
unfolding new_scalar_call number_of
returns-then-res-lt-PART c =
    let call : Verdict Layout = new_scalar_call (length c.args.res.now) in
    ends_refused encode call ShortBuffer (search (judged, results))

pub returns : goal.returns
unfolding new_scalar_call number_of
returns c =
    let call : Verdict Layout = new_scalar_call (length c.args.res.now) in
    ends_stepped encode call (given new_scalar) c.new_scalar.ensures (search (judged, results))
