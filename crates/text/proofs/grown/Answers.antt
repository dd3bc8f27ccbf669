-- `grown`: a byte that is no digit makes a value above every limit.
use mathlib.Core.Path.{◌≡◌, sym}
use mathlib.Core.Bool.{false}
use borrow.Author.Tests.{lt-leb}
use native.Mathlib.Omega.{arith}
use Rattle.text.specs.Read.{is_digit}
use Rattle.text.proofs.grown.Goals as goal

pub returns-then-not-is_ascii_digit : goal.returns-then-not-is_ascii_digit
returns-then-not-is_ascii_digit c =
    let no : is_digit c.args.byte ≡ false = sym c.if-not-is_ascii_digit.ensures.value in
    rw (no, lt-leb 2147483649 c.args.limit (omega arith))
