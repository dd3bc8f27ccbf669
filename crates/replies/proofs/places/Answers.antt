-- `places`: a number of two digits or more has one more than its tenth, and one below 10 has one.
use native.Mathlib.Omega.{arith}
use lib.ListN.{length-append}
use Rattle.std.proofs.lemmas.Fmt.{decimal_step, decimal_digit, decimal_nonempty, length-decimal-le}
use Rattle.replies.proofs.places.Goals as goal

pub overflow_add-count : goal.overflow_add-count
overflow_add-count c =
    let most = length-decimal-le 20 c.args.n (omega arith) (omega arith) (omega arith) in
    let some = decimal_nonempty c.loop-rest.rest (omega arith) in
    omega (arith, c.loop-rest.invariant)

pub loop-rest-preserved : goal.loop-rest-preserved
loop-rest-preserved c =
    let more = rw (decimal_step c.loop-rest.rest c.loop-rest-test.true (omega arith), length-append) at c.loop-rest.invariant in
    omega (arith, more)

pub returns : goal.returns
returns c =
    let one = rw (decimal_digit c.loop-rest.rest (omega (arith, c.loop-rest-test.false))) at c.loop-rest.invariant in
    omega (arith, one)
